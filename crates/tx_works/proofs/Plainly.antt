-- The line of one operand is there, so that nobody is asked for it.
use Rattle.std.proofs.Common.{◌≡◌, ℕ, ◌+◌, ◌/◌, ◌%◌, ◌≤◌, ◌<◌, Bool, true, false, List, [], ◌∷◌, Option, None}
use Rattle.std.proofs.Common.{refl, sym, ap, subst, ◌∙◌, inl, inr}
use Rattle.line_table.specs.declared.table.Mode.TheVariants.{Shared, Exclusive}
use Rattle.std.proofs.lemmas.Bool.{cases_lt, true≢false}
use Rattle.z_regs.specs.Absolute.{absolute_range, absolute_ranges}
use Rattle.z_regs.specs.declared.ranges.Range.{Range}
use Rattle.tx_program.specs.Shapes.{touched_by}
use Rattle.tx_program.specs.declared.ready.Shape.{Shape}
use Rattle.tx_program.specs.declared.ready.Touch.{Touch}
use Rattle.tx_program.specs.declared.ready.Touch.TheVariants as touch
use Rattle.tx_program.specs.Shapes.{is_in_line, is_open, is_reached}
use Rattle.tx_lines.proofs.Plainly.{in-line}
use Rattle.std.proofs.lemmas.Bool.{and_parts}
use Rattle.tx_needs.proofs.OneLine.{one, mode_of, needs-one, needs-none}
use Rattle.tx_meaning.specs.Asking.{is_there}
use Rattle.tx_meaning.specs.Limits.{Setting}
use Rattle.tx_meaning.specs.Needs.{needs_of, operand_needs}
use Rattle.tx_meaning.specs.declared.asking.Need.{Need}
use Rattle.tx_keeping.specs.Kept.{Kept}
use Rattle.tx_keeping.specs.Asking as asking
use Rattle.tx_keeping.specs.Asking.{KAsked, k_get_lines}
use Rattle.tx_keeping.specs.Turn.{KTurned, k_with_lines, k_once_given}
use Rattle.tx_works.specs.Plainly.{is_held, IsThere}
use Rattle.tx_works.proofs.Granted.{there_already}

bare-needs : (prefix : Option ℕ) (r : Range) → prefix ≡ None → operand_needs prefix (r ∷ []) ≡ needs_of (r ∷ [])
unfolding absolute_range
bare-needs prefix r e = ap (λ p. operand_needs p (r ∷ [])) e

-- nobody is asked where nothing is needed
none-asked : (m : Setting) (i : ℕ) (k : Kept) (next : Kept → KTurned) → next k ≡ k_with_lines m i [] k next
unfolding asking.k_get_each
none-asked m i k next = refl

-- nor where what is needed is there
one-asked : (m : Setting) (i : ℕ) (k : Kept) (need : Need) (next : Kept → KTurned)
    → true ≡ is_there need.mode (k.state.held i need.line) → next k ≡ k_with_lines m i (need ∷ []) k next
unfolding asking.k_get_each
one-asked m i k need next there =
    ap (λ (a : KAsked). k_once_given i
    (asking.k_then_ask a (λ t. asking.k_all_given t)).reject
    (asking.k_then_ask a (λ t. asking.k_all_given t)).kept next) (there_already m i (need ∷ []) need k there)

goes-on : (m : Setting) (i : ℕ) (k : Kept) (prefix : Option ℕ) (first size : ℕ) (store : Bool)
    (next : Kept → KTurned) → prefix ≡ None → first % 256 + size ≤ 256
    → is_there (mode_of store) (k.state.held i (first / 256)) ≡ true
    → next k ≡ k_with_lines m i (operand_needs prefix (one first size store ∷ [])) k next
goes-on m i k prefix first size store next bare line there =
    elim (cases_lt 0 size) [
      | inl some ↦
          one-asked m i k (record { line = first / 256; mode = mode_of store }) next (sym there)
          ∙ ap (λ (needs : List Need). k_with_lines m i needs k next)
          (sym (bare-needs prefix (one first size store) bare ∙ needs-one first size store some line))
      | inr none ↦
          none-asked m i k next
          ∙ ap (λ (needs : List Need). k_with_lines m i needs k next)
          (sym (bare-needs prefix (one first size store) bare ∙ needs-none first size store none))
    ]

nothing-asked : (m : Setting) (i : ℕ) (k : Kept) (prefix : Option ℕ) (next : Kept → KTurned)
    → next k ≡ k_with_lines m i (operand_needs prefix []) k next
unfolding needs_of asking.k_get_each
nothing-asked m i k prefix next = refl

by-touch : (t : Touch) (i : ℕ) (k : Kept) (first size : ℕ) (text : List ℕ)
    → (k.locals i).attempt.cpu.prefix ≡ None → is_open t first size text ≡ true
    → is_held t (k.state.held i (first / 256)) ≡ true → (m : Setting) (next : Kept → KTurned)
    → next k ≡ k_with_lines m i (operand_needs (k.locals i).attempt.cpu.prefix (touched_by t first size)) k next
by-touch touch.Nothing i k first size text bare opened held m next =
    nothing-asked m i k (k.locals i).attempt.cpu.prefix next
by-touch touch.Fetch i k first size text bare opened held m next =
    let l = in-line first size opened in
    goes-on m i k (k.locals i).attempt.cpu.prefix first size false next bare l.line held
by-touch touch.Store i k first size text bare opened held m next =
    let l = in-line first size (and_parts (is_in_line first size) _ opened).0 in
    goes-on m i k (k.locals i).attempt.cpu.prefix first size true next bare l.line held
by-touch touch.Other i k first size text bare opened held m next = absurd (true≢false (sym held))

-- so it is for a plain instruction whose operand's line is held
pub is-there : (i : ℕ) (s : Shape) (first : ℕ) (text : List ℕ) (k : Kept)
    → (k.locals i).attempt.cpu.prefix ≡ None → is_reached s first text ≡ true
    → is_held s.touch (k.state.held i (first / 256)) ≡ true → IsThere i s first k
is-there i s first text k bare reached held = record {
  goes_on = by-touch s.touch i k first s.size text bare (and_parts _ _ reached).1 held;
}

-- ---- what an operand needs

-- who needs nothing asks nobody
pub nothing-needed : (m : Setting) (i : ℕ) (k : Kept) (needs : List Need) → needs ≡ []
    → ◌≡◌ {A = KAsked} (record { kept = k; reject = None }) (k_get_lines m i needs k)
unfolding asking.k_get_each
nothing-needed m i k needs e = ap (λ (ns : List Need). k_get_lines m i ns k) (sym e)

-- some bytes of one line need that line
pub one-need : (first size : ℕ) (store : Bool) (prefix : Option ℕ) → prefix ≡ None → 0 < size
    → is_in_line first size ≡ true
    → operand_needs prefix (one first size store ∷ []) ≡ record { line = first / 256; mode = mode_of store } ∷ []
one-need first size store prefix bare some inside =
    bare-needs prefix (one first size store) bare ∙ needs-one first size store some (in-line first size inside).line

-- so it is of an operand that is fetched, and it stands in storage
pub fetched-need : (t : Touch) (first size : ℕ) (prefix : Option ℕ) → t ≡ touch.Fetch → prefix ≡ None → 0 < size
    → is_open t first size [] ≡ true
    → operand_needs prefix (touched_by t first size) ≡ record { line = first / 256; mode = Shared } ∷ []
fetched-need t first size prefix is bare some opened =
    ap (λ (u : Touch). operand_needs prefix (touched_by u first size)) is
    ∙ one-need first size false prefix bare some (subst (λ (u : Touch). is_open u first size [] ≡ true) is opened)

pub fetched-below : (t : Touch) (first size : ℕ) → t ≡ touch.Fetch → is_open t first size [] ≡ true → first < 1048576
fetched-below t first size is opened =
    (in-line first size (subst (λ (u : Touch). is_open u first size [] ≡ true) is opened)).below

-- and of one that is stored
pub stored-need : (t : Touch) (first size : ℕ) (prefix : Option ℕ) → t ≡ touch.Store → prefix ≡ None → 0 < size
    → is_open t first size [] ≡ true
    → operand_needs prefix (touched_by t first size) ≡ record { line = first / 256; mode = Exclusive } ∷ []
stored-need t first size prefix is bare some opened =
    ap (λ (u : Touch). operand_needs prefix (touched_by u first size)) is
    ∙ one-need first size true prefix bare some
    (and_parts (is_in_line first size) _ (subst (λ (u : Touch). is_open u first size [] ≡ true) is opened)).0

pub stored-below : (t : Touch) (first size : ℕ) → t ≡ touch.Store → is_open t first size [] ≡ true → first < 1048576
stored-below t first size is opened =
    (in-line first size
    (and_parts (is_in_line first size) _ (subst (λ (u : Touch). is_open u first size [] ≡ true) is opened)).0).below

abbrev pub is_untouched : Touch → Bool
is_untouched touch.Nothing = true
is_untouched touch.Fetch = false
is_untouched touch.Store = false
is_untouched touch.Other = true

-- what touches no storage needs nothing
pub untouched-need : (t : Touch) (first size : ℕ) (prefix : Option ℕ) → is_untouched t ≡ true
    → operand_needs prefix (touched_by t first size) ≡ []
unfolding needs_of
untouched-need touch.Nothing first size prefix h = refl
untouched-need touch.Fetch first size prefix h = absurd (true≢false (sym h))
untouched-need touch.Store first size prefix h = absurd (true≢false (sym h))
untouched-need touch.Other first size prefix h = refl

-- no bytes need none
pub no-need : (t : Touch) (first size : ℕ) (prefix : Option ℕ) → prefix ≡ None → size ≤ 0
    → operand_needs prefix (touched_by t first size) ≡ []
unfolding needs_of
no-need touch.Nothing first size prefix bare none = refl
no-need touch.Fetch first size prefix bare none =
    bare-needs prefix (one first size false) bare ∙ needs-none first size false none
no-need touch.Store first size prefix bare none =
    bare-needs prefix (one first size true) bare ∙ needs-none first size true none
no-need touch.Other first size prefix bare none = refl

-- without a prefix the operand stands where its address says
pub touched-places : (t : Touch) (first size : ℕ) (prefix : Option ℕ) → prefix ≡ None
    → touched_by t first size ≡ absolute_ranges prefix (touched_by t first size)
unfolding absolute_range
touched-places touch.Nothing first size prefix bare = refl
touched-places touch.Fetch first size prefix bare =
    sym (ap (λ p. absolute_ranges p (touched_by touch.Fetch first size)) bare)
touched-places touch.Store first size prefix bare =
    sym (ap (λ p. absolute_ranges p (touched_by touch.Store first size)) bare)
touched-places touch.Other first size prefix bare = refl
