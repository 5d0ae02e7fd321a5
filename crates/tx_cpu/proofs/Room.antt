-- One operand in one line adds no more than one line and two blocks to a footprint.
use Rattle.std.proofs.Common.{◌≡◌, ℕ, ◌+◌, ◌/◌, ◌%◌, ◌≤◌, Bool, true, false, eqb, List, [], ◌∷◌, Ok}
use Rattle.std.proofs.Common.{refl, sym, ap, ◌∙◌, arith, inl, inr}
use Rattle.std.specs.Prelude.{◌&&◌, ◌||◌, not}
use Rattle.std.specs.List.{list_any}
use Rattle.std.proofs.Math.Bool.{or-true}
use Rattle.std.proofs.lemmas.Bool.{true≢false, cases_eq, eq-eqb, and_parts}
use Rattle.bit_set.proofs.Counts.{count_le, count_or, count_listed}
use Rattle.z_regs.specs.declared.ranges.Range.{Range}
use Rattle.line_table.specs.Sizes.{storage_lines}
use Rattle.tx_footprint.specs.Places.{has_place}
use Rattle.tx_footprint.specs.Sizes.{storage_blocks}
use Rattle.tx_footprint.specs.Touched.{Sets, touching, line_count, block_count, fit_of}
use Rattle.tx_footprint.proofs.Limits.{all_fit, nothing_more}
use Rattle.tx_footprint.proofs.Spans.{address_of}
use Rattle.tx_program.specs.declared.ready.Shape.{Shape}
use Rattle.tx_program.specs.declared.ready.Touch.{Touch}
use Rattle.tx_program.specs.declared.ready.Touch.TheVariants as touch
use Rattle.tx_program.specs.Shapes.{touched_by, is_in_line, is_open, is_placed}
use Rattle.tx_cpu.proofs.Plainly.{in-line}

-- a number is in a list of numbers
abbrev listed : List ℕ → ℕ → Bool
listed xs k = list_any (λ x. eqb x k) xs

-- what is true whatever stands before it
-- the first of a list is in it
first-listed : (x k : ℕ) (xs : List ℕ) → k ≡ x → listed (x ∷ xs) k ≡ true
first-listed x k xs e = ap (λ b. b || listed xs k) (eq-eqb x k (sym e))

-- a range in one line has a place only there
line-of : (r : Range) (k : ℕ) → r.first % 256 + r.length ≤ 256 → has_place 256 r k ≡ true
    → listed (r.first / 256 ∷ []) k ≡ true
line-of r k h has =
    let at = address_of 256 r k has in
    first-listed (r.first / 256) k [] (omega (arith, at.1, at.2, h))

-- and in one block or the next one
block-of : (r : Range) (k : ℕ) → r.first % 256 + r.length ≤ 256 → has_place 128 r k ≡ true
    → listed (r.first / 128 ∷ (r.first / 128 + 1) ∷ []) k ≡ true
block-of r k h has =
    let at = address_of 128 r k has in
    elim (cases_eq k (r.first / 128)) [
      | inl e ↦ first-listed (r.first / 128) k ((r.first / 128 + 1) ∷ []) e
      | inr ne ↦
          ap (λ b. eqb (r.first / 128) k || b)
          (first-listed (r.first / 128 + 1) k [] (omega (arith, at.1, at.2, h, ne)))
          ∙ or-true (eqb (r.first / 128) k)
    ]

-- a line that is touched was touched, or is a place of the range
either-line : (f s t p m : Bool) → (p ≡ true → m ≡ true)
    → ((f || ((not t && p) || false)) || (s || ((t && p) || false))) ≡ true → ((f || s) || m) ≡ true
either-line true s t p m has h = refl
either-line false true t p m has h = refl
either-line false false true true m has h = has refl
either-line false false true false m has h = absurd (true≢false (sym h))
either-line false false false true m has h = has refl
either-line false false false false m has h = absurd (true≢false (sym h))

-- a block that is touched was touched, or is a place of the range
either-block : (b t p m : Bool) → (p ≡ true → m ≡ true) → (b || ((t && p) || false)) ≡ true → (b || m) ≡ true
either-block true t p m has h = refl
either-block false true true m has h = has refl
either-block false true false m has h = absurd (true≢false (sym h))
either-block false false p m has h = absurd (true≢false (sym h))

-- a range in one line adds at most that line
one-line-more : (sets : Sets) (r : Range) → r.first % 256 + r.length ≤ 256
    → line_count (touching sets (r ∷ [])) ≤ line_count sets + 1
one-line-more sets r h =
    let was : ℕ → Bool = λ k. sets.fetched k || sets.stored k in
    let one : List ℕ = r.first / 256 ∷ [] in
    omega (
      arith,
      count_le storage_lines
          (λ k. (sets.fetched k || ((not r.store && has_place 256 r k) || false))
          || (sets.stored k || ((r.store && has_place 256 r k) || false)))
          (λ k. was k || listed one k)
          (λ k _. either-line (sets.fetched k) (sets.stored k) r.store (has_place 256 r k) (listed one k)
          (line-of r k h)),
      count_or storage_lines was (listed one),
      count_listed storage_lines one,
    )

-- and at most two blocks
two-blocks-more : (sets : Sets) (r : Range) → r.first % 256 + r.length ≤ 256
    → block_count (touching sets (r ∷ [])) ≤ block_count sets + 2
two-blocks-more sets r h =
    let two : List ℕ = r.first / 128 ∷ (r.first / 128 + 1) ∷ [] in
    omega (
      arith,
      count_le storage_blocks (λ k. sets.blocks k || ((r.store && has_place 128 r k) || false))
          (λ k. sets.blocks k || listed two k)
          (λ k _. either-block (sets.blocks k) r.store (has_place 128 r k) (listed two k) (block-of r k h)),
      count_or storage_blocks sets.blocks (listed two),
      count_listed storage_blocks two,
    )

-- a footprint with room for them keeps its limits with the range
one-fits : (sets : Sets) (r : Range) → r.first % 256 + r.length ≤ 256 → line_count sets + 1 ≤ 384
    → block_count sets + 2 ≤ 64 → fit_of (touching sets (r ∷ [])) ≡ Ok tt
one-fits sets r h lines blocks =
    let more = one-line-more sets r h in
    let more-blocks = two-blocks-more sets r h in
    all_fit (touching sets (r ∷ [])) (omega (arith, more, lines)) (omega (arith, more-blocks, blocks))

-- and with an operand that lies in one line
pub fits-with-room : (sets : Sets) (s : Shape) (first : ℕ) → is_placed s first ≡ true → line_count sets + 1 ≤ 384
    → block_count sets + 2 ≤ 64 → fit_of (touching sets (touched_by s.touch first s.size)) ≡ Ok tt
fits-with-room sets s first h lines blocks = by s.touch s.size h
  where
    by : (t : Touch) (n : ℕ) → is_open t first n [] ≡ true → fit_of (touching sets (touched_by t first n)) ≡ Ok tt
    by touch.Nothing n h =
        ap fit_of (nothing_more sets [] refl)
        ∙ all_fit sets (omega (arith, lines)) (omega (arith, blocks))
    by touch.Fetch n h =
        one-fits sets (record { first = first; length = n; store = false }) (in-line first n h).line lines blocks
    by touch.Store n h =
        one-fits sets (record { first = first; length = n; store = true })
        (in-line first n (and_parts (is_in_line first n) _ h).0).line lines blocks
    by touch.Other n h = absurd (true≢false (sym h))

-- ---- operands of a shape

-- what holds of no operand, and of one whether it is stored into or not, holds of the operand of a shape
pub touched-so : (P : List Range → Type 0) (t : Touch) (first size : ℕ) → P []
    → ((store : Bool) → P (record { first = first; length = size; store = store } ∷ [])) → P (touched_by t first size)
touched-so P touch.Nothing first size none one = none
touched-so P touch.Fetch first size none one = one false
touched-so P touch.Store first size none one = one true
touched-so P touch.Other first size none one = none
