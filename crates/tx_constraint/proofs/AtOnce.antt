-- An operand in one doubleword outside the pages of the 256 bytes breaks nothing where there is room for its octoword.
use Rattle.std.proofs.Common.{◌≡◌, ◌≢◌, ℕ, ◌+◌, ◌-◌, ◌/◌, ◌%◌, ◌<◌, ◌≤◌, Bool, true, false, ◌&&◌, ◌||◌, not, cond}
use Rattle.std.proofs.Common.{eqb, ltb, leb, List, [], ◌∷◌, length, None, refl, ap, ◌∙◌, arith}
use Rattle.std.specs.List.{fold, range_with_len}
use Rattle.std.proofs.lemmas.Bool.{cases_lt, and_left, and_right, eqb-false, ne_eqb, le-leb, lt-leb, le-ltb, or_parts}
use borrow.Enum.Arm.{by_way}
use Rattle.z_regs.specs.declared.ranges.Range.{Range}
use Rattle.z_instr.specs.declared.instr.Instr.{Instr}
use Rattle.z_instr.specs.Table.{entry_at}
use Rattle.tx_constraint.specs.Operations.{is_multiple, unit_of}
use Rattle.tx_constraint.specs.Bytes.{first_piece, end_piece, is_own_page, touches_own_page}
use Rattle.z_regs.specs.Rising.{with_number}
use Rattle.tx_constraint.specs.Octowords.{with_octowords}
use Rattle.tx_constraint.specs.Constraints.{first_of, is_split}
use Rattle.tx_constraint.specs.Kept.{Kept, next_operand_breach}
use Rattle.tx_constraint.proofs.Between.{near_is}
use Rattle.tx_constraint.proofs.Piling.{octowords_more, with_octowords-none}

-- an operand in one octoword adds that one
pub one-octoword : (found : List ℕ) (r : Range) → 0 < r.length → r.first % 32 + r.length ≤ 32
    → with_octowords found (r ∷ []) ≡ with_number found (r.first / 32)
one-octoword found r some inside =
    let last : (r.first + r.length - 1) / 32 ≡ r.first / 32 = omega (arith, some, inside) in
    let end : end_piece 32 r ≡ r.first / 32 + 1 =
    ap (λ b. cond b (first_piece 32 r) ((r.first + r.length - 1) / 32 + 1))
    (ne_eqb r.length 0 (λ none. absurd (omega (arith, some, none)))) ∙ ap (λ n. n + 1) last in
    let one : end_piece 32 r - first_piece 32 r ≡ 1 = omega (arith, end) in
    octowords_more found (r ∷ []) 0 r refl
    ∙ (λ i. fold with_number (with_octowords-none found i) (range_with_len (r.first / 32) (one i)))

-- ---- constraints 5 and 7

-- a page is not the only one of some
not-alone : (page own : ℕ) → page ≢ own → (leb page own && ltb own (page + 1)) ≡ false
not-alone page own other = by_way (cases_lt own page)
    (λ below. and_left (leb page own) (ltb own (page + 1)) (lt-leb page own below))
    (λ above. and_right (leb page own) (ltb own (page + 1)) (le-ltb own (page + 1) (omega (arith, above, other))))

-- an operand in one doubleword is in no other page than that of its first byte
pub apart : (begin : ℕ) (r : Range) → 0 < r.length → r.first % 8 + r.length ≤ 8
    → is_own_page begin (r.first / 4096) ≡ false → touches_own_page begin r ≡ false
apart begin r some inside other =
    let page = r.first / 4096 in
    let last : (r.first + r.length - 1) / 4096 ≡ page = omega (arith, some, inside) in
    let end : end_piece 4096 r ≡ page + 1 =
    ap (λ b. cond b (first_piece 4096 r) ((r.first + r.length - 1) / 4096 + 1))
    (ne_eqb r.length 0 (λ none. absurd (omega (arith, some, none)))) ∙ ap (λ n. n + 1) last in
    let parts = or_parts (eqb page (begin / 4096)) (eqb page ((begin + 255) / 4096)) other in
    let first = not-alone page (begin / 4096) (eqb-false page (begin / 4096) parts.0) in
    let second = not-alone page ((begin + 255) / 4096) (eqb-false page ((begin + 255) / 4096) parts.1) in
    near_is begin r
    ∙ (λ i. (leb page (begin / 4096) && ltb (begin / 4096) (end i))
    || (leb page ((begin + 255) / 4096) && ltb ((begin + 255) / 4096) (end i)))
    ∙ (λ i. first i || second i)

-- what lies in one doubleword lies in one octoword too
whole-in : (multiple : Bool) (r : Range) → r.first % 8 + r.length ≤ 8 → is_split (cond multiple 32 8) r ≡ false
whole-in true r inside = ap not (le-leb (r.first % 32 + r.length) 32 (omega (arith, inside)))
whole-in false r inside = ap not (le-leb (r.first % 8 + r.length) 8 inside)

whole : (i : Instr) (r : Range) → r.first % 8 + r.length ≤ 8 → is_split (unit_of i) r ≡ false
whole i r inside = whole-in (is_multiple (entry_at i.op.number).operands) r inside

-- ---- all of them

-- no operand breaks nothing
pub none-breaks : (k : Kept) (i : Instr) → length k.octowords ≤ 4 → next_operand_breach k i [] ≡ None
unfolding next_operand_breach with_octowords
none-breaks k i few = ap (λ b. first_of b 4 None) (le-ltb 4 (length k.octowords) few)

-- nor does one without a byte
pub empty-breaks : (k : Kept) (i : Instr) (first : ℕ) (store : Bool) → length k.octowords ≤ 4
    → next_operand_breach k i (record { first = first; length = 0; store = store } ∷ []) ≡ None
unfolding next_operand_breach with_octowords
empty-breaks k i first store few =
    let r : Range = record { first = first; length = 0; store = store } in
    let within = whole i r (omega arith) in
    λ j. first_of (le-ltb 4 (length k.octowords) few j) 4 (first_of false 5 (first_of (within j || false) 7 None))

-- nor one in one doubleword, in no page of the 256 bytes, for whose octoword there is room
pub one-breaks : (k : Kept) (i : Instr) (r : Range) → 0 < r.length → r.first % 8 + r.length ≤ 8
    → is_own_page k.begin (r.first / 4096) ≡ false → length (with_number k.octowords (r.first / 32)) ≤ 4
    → next_operand_breach k i (r ∷ []) ≡ None
unfolding next_operand_breach
one-breaks k i r some inside other few =
    let added = one-octoword k.octowords r some (omega (arith, inside)) in
    let room = ap (λ xs. ltb 4 (length xs)) added
    ∙ le-ltb 4 (length (with_number k.octowords (r.first / 32))) few in
    let away = apart k.begin r some inside other in
    let within = whole i r inside in
    λ j. first_of (room j) 4 (first_of (away j || false) 5 (first_of (within j || false) 7 None))

-- a list without any
pub no-element : (rs : List Range) → length rs ≡ 0 → rs ≡ []
no-element [] none = refl
no-element (s ∷ rs) none = absurd (omega (arith, none))
