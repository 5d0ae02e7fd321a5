-- Nobody is asked for lines that the CPU holds as they are needed.
use Rattle.std.proofs.Common.{◌≡◌, ℕ, ◌+◌, ◌/◌, ◌%◌, ◌<◌, ◌≤◌, Bool, true, false, List, [], ◌∷◌, Option, None, Some}
use Rattle.std.proofs.Common.{length, get_or, refl, sym, ap, subst, ◌∙◌, arith}
use Rattle.std.specs.Prelude.{All, ◌==◌, ◌||◌, ◌&&◌, not}
use Rattle.std.specs.List.{slice_get}
use Rattle.std.proofs.lemmas.Bool.{or_cases, and_parts, not-true, true≢false, eq-eqb}
use Rattle.std.proofs.lemmas.List.Elements.{All-head, All-tail}
use Rattle.std.proofs.lemmas.List.Folds.{list_any_at}
use borrow.Enum.Arm.{by_way}
use Rattle.z_regs.specs.declared.ranges.Range.{Range}
use Rattle.line_table.specs.declared.table.Mode.{Mode}
use Rattle.line_table.specs.declared.table.Mode.TheVariants.{Shared, Exclusive}
use Rattle.interrogate.specs.Places.{has_place, fetches, stores}
use Rattle.interrogate.specs.Sizes.{line_size}
use Rattle.interrogate.proofs.Spans.{address_of}
use Rattle.tx_needs.proofs.OneLine.{mode_of}
use Rattle.tx_meaning.proofs.Needs.{needed_lines, needed_modes}
use Rattle.tx_meaning.specs.Asking.{is_there}
use Rattle.tx_meaning.specs.Changes.{is_needed}
use Rattle.tx_meaning.specs.Limits.{Setting}
use Rattle.tx_meaning.specs.Needs.{needs_of}
use Rattle.tx_meaning.specs.declared.asking.Need.{Need}
use Rattle.tx_keeping.specs.Kept.{Kept}
use Rattle.tx_keeping.specs.Asking.{KAsked, k_get_each, k_get_lines, k_then_ask}
use Rattle.tx_works.specs.Held.{IsHeld, AreThere}
use Rattle.tx_works.proofs.Granted.{there_already}

-- ---- one range

only-line : (r : Range) (line : ℕ) → r.first % 256 + r.length ≤ 256 → has_place line_size r line ≡ true
    → line ≡ r.first / 256
only-line r line within h =
    let at = address_of line_size r line h in
    let low : r.first ≤ at.0 = at.1 in
    let high : at.0 < r.first + r.length = at.2 in
    let there : at.0 / 256 ≡ line = at.3 in
    omega (arith, within, low, high, there)

-- a range that lies in one line is held where this line is
pub held-in-line : (modes : ℕ → Option Mode) (r : Range) → r.first % 256 + r.length ≤ 256
    → is_there (mode_of r.store) (modes (r.first / 256)) ≡ true → IsHeld modes r
held-in-line modes r within there = record {
  each = λ line h. subst (λ (l : ℕ). is_there (mode_of r.store) (modes l) ≡ true) (sym (only-line r line within h))
      there;
}

-- ---- what ranges need

module _ (modes : ℕ → Option Mode) where
  stored-there : (ranges : List Range) (line : ℕ) → All (IsHeld modes) ranges → stores ranges line ≡ true
      → is_there Exclusive (modes line) ≡ true
  stored-there [] line held h = absurd (true≢false (sym h))
  stored-there (r ∷ rest) line held h =
      by_way (or_cases (r.store && has_place line_size r line) (stores rest line) h)
      (λ here.
      let both = and_parts r.store (has_place line_size r line) here in
      subst (λ (b : Bool). is_there (mode_of b) (modes line) ≡ true) both.0
      ((All-head (IsHeld modes) r rest held).each line both.1))
      (λ later. stored-there rest line (All-tail (IsHeld modes) r rest held) later)

  fetched-there : (ranges : List Range) (line : ℕ) → All (IsHeld modes) ranges → fetches ranges line ≡ true
      → is_there Shared (modes line) ≡ true
  fetched-there [] line held h = absurd (true≢false (sym h))
  fetched-there (r ∷ rest) line held h =
      by_way (or_cases (not r.store && has_place line_size r line) (fetches rest line) h)
      (λ here.
      let both = and_parts (not r.store) (has_place line_size r line) here in
      subst (λ (b : Bool). is_there (mode_of b) (modes line) ≡ true) (not-true r.store both.0)
      ((All-head (IsHeld modes) r rest held).each line both.1))
      (λ later. fetched-there rest line (All-tail (IsHeld modes) r rest held) later)

  either-there : (fetched stored : Bool) (line : ℕ) → (stored ≡ true → is_there Exclusive (modes line) ≡ true)
      → (fetched ≡ true → is_there Shared (modes line) ≡ true) → (fetched || stored) ≡ true
      → is_there (mode_of stored) (modes line) ≡ true
  either-there fetched true line exclusive shared some = exclusive refl
  either-there true false line exclusive shared some = shared refl
  either-there false false line exclusive shared some = absurd (true≢false (sym some))

  -- where each range is held, all that they need is there
  pub all-there : (ranges : List Range) → All (IsHeld modes) ranges → AreThere modes (needs_of ranges)
  all-there ranges held i d lt =
      let need = get_or (needs_of ranges) i d in
      let needed : is_needed (needs_of ranges) need.line ≡ true =
      list_any_at (λ (n : Need). n.line == need.line) (needs_of ranges) i d lt (eq-eqb need.line need.line refl) in
      let mode : need.mode ≡ mode_of (stores ranges need.line) = needed_modes ranges i d lt in
      subst (λ (m : Mode). is_there m (modes need.line) ≡ true) (sym mode)
      (either-there (fetches ranges need.line) (stores ranges need.line) need.line
      (stored-there ranges need.line held) (fetched-there ranges need.line held)
      (sym (needed_lines ranges need.line) ∙ needed))

-- ---- two ranges

pub two_elements : {X : Type 0} (xs : List X) (x y : X) → length xs ≡ 2 → slice_get xs 0 ≡ Some x
    → slice_get xs 1 ≡ Some y → xs ≡ x ∷ y ∷ []
two_elements [] x y two first second = absurd (omega (arith, two))
two_elements (a ∷ []) x y two first second = absurd (omega (arith, two))
two_elements (a ∷ b ∷ []) x y two first second =
    ap (λ z. z ∷ b ∷ []) (cc) ∙ ap (λ z. x ∷ z ∷ []) (cc)
two_elements (a ∷ b ∷ c ∷ xs) x y two first second = absurd (omega (arith, two))

-- ---- questions

module _ (m : Setting) (i : ℕ) (k : Kept) where
  none-asked : (all needs : List Need) → AreThere (k.state.held i) needs
      → ◌≡◌ {A = KAsked} (record { kept = k; reject = None }) (k_get_each m i all needs k)
  unfolding k_get_each
  none-asked all [] there = refl
  none-asked all (need ∷ rest) there =
      none-asked all rest (All-tail (λ (n : Need). is_there n.mode (k.state.held i n.line) ≡ true) need rest there)
      ∙ ap (λ (a : KAsked). k_then_ask a (k_get_each m i all rest))
      (there_already m i all need k
      (sym (All-head (λ (n : Need). is_there n.mode (k.state.held i n.line) ≡ true) need rest there)))

  -- nobody is asked, and nothing changes
  pub all-got : (needs : List Need) → AreThere (k.state.held i) needs
      → ◌≡◌ {A = KAsked} (record { kept = k; reject = None }) (k_get_lines m i needs k)
  all-got needs there = none-asked needs needs there
