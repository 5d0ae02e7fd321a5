-- The bound of a stretch is exact, who has turns, and the codes of causes.
use Rattle.std.proofs.Common.{◌≡◌, ℕ, ◌+◌, ◌*◌, ◌<◌, ◌≤◌, Bool, true, false, List, [], ◌∷◌, ◌++◌}
use Rattle.std.proofs.Common.{refl, sym, ap, ◌∙◌, subst, arith, inl, inr}
use Rattle.std.specs.Prelude.{◌⊎◌, ◌==◌, ◌||◌}
use Rattle.std.proofs.lemmas.Bool.{true≢false, cases_eq, eq-eqb, ne_eqb, and_parts, or_from}
use borrow.Enum.Arm.{by_way}
use Rattle.std.specs.List.{list_any}
use Rattle.tx_control.specs.Causes.{code_number}
use Rattle.tx_control.specs.declared.causes.Why.{Why}
use Rattle.tx_control.specs.declared.causes.Why.TheVariants.{External, Program, FetchConflict}
use Rattle.tx_control.specs.declared.causes.Why.TheVariants.{StoreConflict, FetchOverflow, StoreOverflow}
use Rattle.tx_control.specs.declared.causes.Why.TheVariants.{Restricted, Filtered, Depth, Starved, Tabort}
use Rattle.tx_ladder.specs.Parameters.{usual}
use Rattle.tx_journal.specs.declared.events.Event.{Event}
use Rattle.tx_journal.specs.declared.events.Event.TheVariants as event
use Rattle.tx_meaning.specs.Limits.{Setting}
use Rattle.tx_meaning.specs.Meaning.{IsSetting, meaning}
use Rattle.tx_meaning.specs.State.{State, is_first, is_head}
use Rattle.tx_meaning.specs.Idle.{is_ready}
use Rattle.tx_meaning.specs.Stretches.{stretch_of, left, bound, attempt_turns, is_counted_turn, is_end_by}
use Rattle.tx_meaning.proofs.Queues.{only_the_head}
use Rattle.tx_meaning.specs.Views.{AreKnown}
use Rattle.tx_bounds.proofs.Potential.{some_left}
use Rattle.tx_bounds.proofs.Stretched.{under_way, ages_within}
use Rattle.tx_headline.specs.Since.{is_conflict, Opens, IsUninterrupted, CommitsAfter, entries_since}
use Rattle.tx_headline.specs.Since.{turns_after, is_program_abort_of}
use Rattle.tx_headline.proofs.Commits.{commits}
use Rattle.tx_meaning.proofs.Examples.{usual_bound}

-- while a stretch is open, a turn is left to it
pub turns_left : (m : Setting) (events : List Event) (i : ℕ) → IsSetting m → AreKnown m events
    → (stretch_of m events i).is_open ≡ true → 1 ≤ left m (meaning m events) i
turns_left m events i s known is = some_left m (meaning m events) i (under_way m events i s known is)

-- and so its age is below the bound
pub ages_short : (m : Setting) (events : List Event) (i : ℕ) → IsSetting m → AreKnown m events
    → (stretch_of m events i).is_open ≡ true
    → (stretch_of m events i).age
    < bound m.image.parms + attempt_turns m.image.parms * (stretch_of m events i).externals
ages_short m events i s known is =
    let within = ages_within m events i s known is in
    let some = turns_left m events i s known is in
    omega (arith, within, some)

-- ---- who has turns

of_ready : (s : State) (m : Setting) (i : ℕ) → is_ready m s i ≡ true → (q : List ℕ) → s.queue ≡ q
    → (s.queue ≡ []) ⊎ (is_head s i ≡ true)
of_ready s m i ready [] e = inl e
of_ready s m i ready (head ∷ rest) e =
    by_way (cases_eq head i) (λ own. inr (ap (is_first i) e ∙ eq-eqb head i own))
    (λ other.
    absurd (true≢false (sym ready ∙ only_the_head m s i head rest e (λ h. other (sym h)))))

pub turns_of_head : (m : Setting) (s : State) (e : Event) (i : ℕ) → is_counted_turn m s e i ≡ true
    → (s.queue ≡ []) ⊎ (is_head s i ≡ true)
turns_of_head m s (event.Turn j) i is =
    of_ready s m i (and_parts (j == i) (is_ready m s i) is).1 s.queue refl
turns_of_head m s (event.External j) i is = absurd (true≢false (sym is))

-- ---- codes

abbrev is_conflict_code : ℕ → Bool
is_conflict_code code = ((code == 9) || (code == 10)) || (code == 255)

no_conflict_code : (code : ℕ) → 255 < code → is_conflict_code code ≡ false
no_conflict_code code more =
    or_from ((code == 9) || (code == 10)) (code == 255)
    (or_from (code == 9) (code == 10) (ne_eqb code 9 (omega arith)) (ne_eqb code 10 (omega arith)))
    (ne_eqb code 255 (omega arith))

pub conflict_codes : (w : Why) → ((code : ℕ) → w ≡ Tabort code → 255 < code)
    → is_conflict w ≡ (((code_number w == 9) || (code_number w == 10)) || (code_number w == 255))
conflict_codes (FetchConflict line) large = refl
conflict_codes (StoreConflict line) large = refl
conflict_codes Starved large = refl
conflict_codes External large = refl
conflict_codes (Program e) large = refl
conflict_codes FetchOverflow large = refl
conflict_codes StoreOverflow large = refl
conflict_codes Restricted large = refl
conflict_codes (Filtered e) large = refl
conflict_codes Depth large = refl
conflict_codes (Tabort code) large = sym (no_conflict_code code (large code refl))

pub program_codes : (w : Why) → ((code : ℕ) → w ≡ Tabort code → 255 < code)
    → is_end_by w ≡ (code_number w == 4)
program_codes (FetchConflict line) large = refl
program_codes (StoreConflict line) large = refl
program_codes Starved large = refl
program_codes External large = refl
program_codes (Program e) large = refl
program_codes FetchOverflow large = refl
program_codes StoreOverflow large = refl
program_codes Restricted large = refl
program_codes (Filtered e) large = refl
program_codes Depth large = refl
program_codes (Tabort code) large =
    let more = large code refl in
    sym (ne_eqb code 4 (omega (arith, more)))

-- ---- the usual numbers

-- with the usual numbers, 1,072 turns and eight conflict aborts
pub commits_usually : (m : Setting) (before since : List Event) (e : Event) (i : ℕ) → IsSetting m
    → AreKnown m ((before ++ e ∷ []) ++ since) → m.image.parms ≡ usual → Opens m before e i
    → IsUninterrupted m (before ++ e ∷ []) since i
    → list_any (is_program_abort_of i) (entries_since m (before ++ e ∷ []) since) ≡ false
    → turns_after m before i + 1072 ≤ turns_after m ((before ++ e ∷ []) ++ since) i
    → CommitsAfter 8 i (entries_since m (before ++ e ∷ []) since)
commits_usually m before since e i s known parms opens quiet none enough =
    let now = turns_after m ((before ++ e ∷ []) ++ since) i in
    subst (λ p. CommitsAfter p.stop i (entries_since m (before ++ e ∷ []) since)) parms
    (commits m s i before since e known opens quiet
    (subst (λ p. turns_after m before i + bound p ≤ now) (sym parms)
    (subst (λ n. turns_after m before i + n ≤ now) (sym usual_bound) enough)) none)
