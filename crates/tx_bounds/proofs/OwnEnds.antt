-- A test ends a constrained attempt by a program interruption, or by an overflow of its footprint.
use Rattle.std.proofs.Common.{◌≡◌, ℕ, Bool, true, false, List, [], ◌∷◌, Option, Some, None, refl, sym, ap}
use Rattle.std.proofs.Common.{◌∙◌}
use Rattle.std.proofs.Common.{subst, length, inl, inr}
use Rattle.std.specs.Prelude.{◌⊎◌, ◌&&◌, ◌||◌, not, nat_le, cond, if◌then◌else◌, Result, Ok, Err}
use Rattle.std.proofs.lemmas.Bool.{true≢false}
use Rattle.z_regs.specs.Cpu.{Cpu}
use Rattle.z_regs.specs.Prefix.{is_prefix}
use Rattle.z_regs.specs.declared.ranges.Range.{Range}
use Rattle.z_instr.specs.declared.instr.Instr.{Instr}
use Rattle.z_instr.specs.Roles.{begins, sets_access_register}
use Rattle.z_instr.specs.Table.{Entry, entry_at}
use Rattle.tx_control.specs.Filtering.{class, filters}
use Rattle.tx_control.specs.Nesting.{is_constrained, effective_pifc, effective_a}
use Rattle.tx_control.specs.declared.begins.Begin.{Begin}
use Rattle.tx_control.specs.declared.causes.Why.{Why}
use Rattle.tx_control.specs.declared.causes.Why.TheVariants.{Program, Filtered, FetchOverflow, StoreOverflow}
use Rattle.tx_control.specs.declared.causes.Why.TheVariants.{Restricted, Depth}
use Rattle.tx_control.specs.declared.exceptions.Exception.{Exception}
use Rattle.tx_constraint.specs.Constraints.{Step}
use Rattle.tx_constraint.specs.Kept as constraint
use Rattle.tx_constraint.specs.Kept.{next_text_breach}
use Rattle.tx_constraint.specs.Operations.{is_permitted}
use Rattle.tx_footprint.specs.Touched.{Sets, fit_of}
use Rattle.tx_footprint.specs.declared.footprint.Overflow.{Overflow}
use Rattle.tx_footprint.specs.declared.footprint.Overflow.TheVariants.{Fetch, Store}
use Rattle.tx_serial.specs.Fate.{Fate, Goes, Ends, Stops, Refusal, Excepts, Because, cause_in, fate_after}
use Rattle.tx_serial.specs.Fate.{first_refusal, excepted, aborts_where, overflow_of, overflow_in}
use Rattle.tx_serial.specs.Fate.{is_restricted}
use Rattle.tx_serial.specs.Fate.{restricted_refusal, specified_refusal, depth_refusal, operand_refusal}
use Rattle.tx_serial.specs.Fate.{fetch_refusal, instruction_at}
use Rattle.tx_serial.specs.Flat.{FlatState, Storage}
use Rattle.tx_serial.specs.Run.{run}
use Rattle.tx_progress.specs.Local.{Local}
use Rattle.tx_progress.specs.Progress.{Progress}
use Rattle.tx_progress.specs.Reached.{progress_of, IsFollowed}
use Rattle.tx_progress.specs.Trial.{at_hand, breach_refusal, constraint_refusal, text_refusal_by}
use Rattle.tx_progress.specs.Trial.{place_refusal_by, overflow_refusal_by, tests_by, tried, fetched}
use Rattle.tx_progress.specs.Trial.{fate_by_progress}
use Rattle.tx_progress.proofs.Facts.{keeps_constraints}
use Rattle.tx_progress.proofs.Rows.{any_row}
use Rattle.tx_progress.proofs.Standing.{Stands, is_begun_so, run_stands, no_text_breach}
use Rattle.tx_meaning.specs.Stretches.{is_end_by}
use Rattle.tx_bounds.proofs.Room.{has_room}
use Rattle.z_instr.proofs.Passing.{and_left}
use Rattle.tx_serial.proofs.FreeOperands.{found_none}
use Rattle.tx_progress.proofs.Limits.{breach_none}

-- ---- the nest

no_filter : (b : Bool) (n : ℕ) → b ≡ true → cond b 0 n ≡ 0
no_filter true n e = refl
no_filter false n e = absurd (true≢false (sym e))

pifc_of : (c now : Cpu) (steps : List Step) (nest : List Begin) → Stands c now steps nest
    → is_constrained nest ≡ true → effective_pifc nest ≡ 0
pifc_of c now [] [] h k = refl
pifc_of c now [] (b ∷ bs) h k = absurd h
pifc_of c now (s ∷ ss) [] h k = absurd h
pifc_of c now (s ∷ ss) (b ∷ bs) h k =
    ap (λ inner. effective_pifc (b ∷ inner)) (h.single k)
    ∙ ap (λ n. effective_pifc (record b { pifc = n } ∷ []))
    (ap (λ (x : Begin). x.pifc) h.opened ∙ no_filter _ _ (sym (is_begun_so c s ss b bs h) ∙ k))

-- ---- what constraints permit is not restricted

abbrev is_free_row : Entry → Bool
is_free_row e = not (e.permitted && (e.restricted || sets_access_register e))

free_rows : (n : ℕ) → is_free_row (entry_at n) ≡ true
free_rows = any_row is_free_row refl refl

not_both : (p r a x : Bool) → not (p && (r || a)) ≡ true → p ≡ true → (r || (a && x)) ≡ false
not_both true true a x h e = absurd (true≢false (sym h))
not_both true false true x h e = absurd (true≢false (sym h))
not_both true false false x h e = refl
not_both false r a x h e = absurd (true≢false (sym e))

free_of : (nest : List Begin) (n : ℕ) → (entry_at n).permitted ≡ true
    → is_restricted nest (entry_at n) ≡ false
free_of [] n h = refl
free_of (b ∷ bs) n h =
    not_both (entry_at n).permitted (entry_at n).restricted (sets_access_register (entry_at n))
    (not (effective_a (b ∷ bs))) (free_rows n) h

permitted_of : (q : Progress) (i : Instr) (kept : constraint.Kept) → q.constraint ≡ Some kept
    → text_refusal_by q i ≡ None → (entry_at i.op.number).permitted ≡ true
unfolding next_text_breach
permitted_of q i kept some h =
    let none = breach_none i (next_text_breach kept i q.cpu.address)
    (ap (constraint_refusal (λ k. next_text_breach k i q.cpu.address) i) (sym some) ∙ h) in
    and_left (entry_at i.op.number).permitted _ (no_text_breach _ _ (is_permitted i) none)

no_depth : (b : Bool) (n : ℕ) → n ≡ 1 → (b && nat_le 16 n) ≡ false
no_depth true n e = ap (nat_le 16) e
no_depth false n e = refl

-- ---- what a test of a constrained attempt finds

-- by the causes by which it may end the attempt, program interruptions among them
module _ (Allowed : Why → Type 0) (program : (e : Exception) → Allowed (Program e)) where
  cause_by : (b : Bool) (e : Exception) → b ≡ false → Allowed (if b then Filtered e else Program e)
  cause_by true e h = absurd (true≢false h)
  cause_by false e h = program e

  pub cause_so : (nest : List Begin) (e : Exception) → effective_pifc nest ≡ 0 → Allowed (cause_in nest e)
  unfolding cause_in
  cause_so nest e none =
      cause_by (filters (effective_pifc nest) (class e.code e.fetch)) e
      (ap (λ n. filters n (class e.code e.fetch)) none)

  abbrev Found : Option Refusal → Type 0
  Found None = Unit {0}
  Found (Some (Excepts e)) = Unit {0}
  Found (Some (Because w)) = Allowed w

  abbrev FateSo : Fate → Type 0
  FateSo (Goes i ranges) = Unit {0}
  FateSo (Ends w) = Allowed w
  FateSo (Stops e) = Unit {0}

  after_so : (nest : List Begin) (r : Refusal) → effective_pifc nest ≡ 0 → Found (Some r)
      → FateSo (fate_after nest r)
  after_so [] (Excepts e) none h = tt
  after_so (outermost ∷ inner) (Excepts e) none h = cause_so (outermost ∷ inner) e none
  after_so [] (Because w) none h = h
  after_so (outermost ∷ inner) (Because w) none h = h

  one_more_test : (o : Option Refusal) (rest : List (Option Refusal)) → Found o
      → (o ≡ None → Found (first_refusal rest)) → Found (first_refusal (o ∷ rest))
  one_more_test None rest h later = later refl
  one_more_test (Some r) rest h later = h

  excepted_so : (i : Instr) (o : Option ℕ) → Found (excepted i o)
  excepted_so i None = tt
  excepted_so i (Some code) = tt

  breach_so : (i : Instr) (o : Option ℕ) → Found (breach_refusal i o)
  breach_so i None = tt
  breach_so i (Some number) = tt

  constraint_so : (breach : constraint.Kept → Option ℕ) (i : Instr) (o : Option constraint.Kept)
      → Found (constraint_refusal breach i o)
  constraint_so breach i None = tt
  constraint_so breach i (Some kept) = breach_so i (breach kept)

  where_so : (b : Bool) (w : Why) → b ≡ false → Found (aborts_where b w)
  where_so true w h = absurd (true≢false h)
  where_so false w h = tt

  -- ---- all tests

  tests_so : (text : List ℕ) (storage : Storage) (q : Progress) (i : Instr) (kept : constraint.Kept)
      → q.constraint ≡ Some kept → length q.nest ≡ 1
      → (place_refusal_by q i ≡ None → Found (overflow_refusal_by q i))
      → Found (first_refusal (tests_by text storage q i))
  tests_so text storage q i kept some single room =
      let p = at_hand storage q in
      one_more_test (text_refusal_by q i) _ (constraint_so _ i q.constraint) (λ fine.
      one_more_test (restricted_refusal p i) _
      (where_so (is_restricted p.nest (entry_at i.op.number)) Restricted
      (free_of q.nest i.op.number (permitted_of q i kept some fine))) (λ _.
      one_more_test (specified_refusal p i) _ (excepted_so i _) (λ _.
      one_more_test (depth_refusal p i) _ (where_so _ Depth
      (no_depth (begins (entry_at i.op.number)) (length q.nest) single)) (λ _.
      one_more_test (operand_refusal text p i) _ (excepted_so i _) (λ _.
      one_more_test (place_refusal_by q i) _ (constraint_so _ i q.constraint) (λ fits.
      one_more_test (overflow_refusal_by q i) [] (room fits) (λ _. tt)))))))

  tried_so : (q : Progress) (i : Instr) (o : Option Refusal) → effective_pifc q.nest ≡ 0 → Found o
      → FateSo (tried q i o)
  tried_so q i None none h = tt
  tried_so q i (Some r) none h = after_so q.nest r none h

  fetched_so : (text : List ℕ) (storage : Storage) (q : Progress) (o : Option ℕ) (i : Option Instr)
      (kept : constraint.Kept) → q.constraint ≡ Some kept → length q.nest ≡ 1 → effective_pifc q.nest ≡ 0
      → ((i : Instr) → place_refusal_by q i ≡ None → Found (overflow_refusal_by q i))
      → FateSo (fetched text storage q o i)
  fetched_so text storage q (Some code) i kept some single none room = after_so q.nest (Excepts _) none tt
  fetched_so text storage q None None kept some single none room = after_so q.nest (Excepts _) none tt
  fetched_so text storage q None (Some i) kept some single none room =
      tried_so q i _ none (tests_so text storage q i kept some single (room i))

  fate_so : (text : List ℕ) (storage : Storage) (q : Progress) (kept : constraint.Kept)
      → q.constraint ≡ Some kept → length q.nest ≡ 1 → effective_pifc q.nest ≡ 0
      → ((i : Instr) → place_refusal_by q i ≡ None → Found (overflow_refusal_by q i))
      → FateSo (fate_by_progress text storage q)
  unfolding fate_by_progress
  fate_so text storage q kept some single none room =
      fetched_so text storage q (fetch_refusal text (at_hand storage q))
      (instruction_at (at_hand storage q)) kept
      some single none room

-- ---- the causes

abbrev pub IsByProgram : Why → Type 0
IsByProgram FetchOverflow = Unit {0}
IsByProgram StoreOverflow = Unit {0}
IsByProgram w = is_end_by w ≡ true

overflow_so_of : (r : Result (Unit {0}) Overflow) → Found IsByProgram (λ e. refl) (overflow_of r)
overflow_so_of (Ok u) = tt
overflow_so_of (Err Fetch) = tt
overflow_so_of (Err Store) = tt

overflow_so : (nest : List Begin) (sets : Sets) → Found IsByProgram (λ e. refl) (overflow_in nest sets)
overflow_so [] sets = tt
overflow_so (outermost ∷ inner) sets = overflow_so_of (fit_of sets)

pub pifc_none : (f : FlatState) (i : ℕ) (l : Local) → IsFollowed f i l → is_constrained l.attempt.nest ≡ true
    → effective_pifc l.attempt.nest ≡ 0
unfolding progress_of
pifc_none f i l is kind =
    let p = run f i l.attempt.count in
    ap (λ (q : Progress). effective_pifc q.nest) (sym is.attempt)
    ∙ pifc_of (f.cpus i) p.cpu p.steps p.nest (run_stands f i l.attempt.count is.opens)
    (ap (λ (q : Progress). is_constrained q.nest) is.attempt ∙ kind)

-- what a test of a constrained attempt ends it by
pub ends_by_program : (f : FlatState) (i : ℕ) (l : Local) (w : Why) → IsFollowed f i l
    → is_constrained l.attempt.nest ≡ true → fate_by_progress f.text f.storage l.attempt ≡ Ends w
    → IsByProgram w
ends_by_program f i l w is kind h =
    let k = keeps_constraints f i l is kind in
    subst (FateSo IsByProgram (λ e. refl)) h
    (fate_so IsByProgram (λ e. refl) f.text f.storage l.attempt k.kept k.constraint k.single
    (pifc_none f i l is kind) (λ instr fits. overflow_so l.attempt.nest _))

pub parted : (w : Why) → IsByProgram w → (is_end_by w ≡ true) ⊎ ((w ≡ FetchOverflow) ⊎ (w ≡ StoreOverflow))
parted FetchOverflow h = inr (inl refl)
parted StoreOverflow h = inr (inr refl)
parted w h = inl h

-- and where the CPU has a prefix that it may have, it has room
abbrev pub EndsIt : Why → Type 0
EndsIt w = is_end_by w ≡ true

pub ends_the_transaction : (f : FlatState) (i : ℕ) (l : Local) (w : Why) → IsFollowed f i l
    → is_prefix l.cpu.prefix ≡ true → is_constrained l.attempt.nest ≡ true
    → fate_by_progress f.text f.storage l.attempt ≡ Ends w → is_end_by w ≡ true
ends_the_transaction f i l w is ok kind h =
    let k = keeps_constraints f i l is kind in
    subst (FateSo EndsIt (λ e. refl)) h
    (fate_so EndsIt (λ e. refl) f.text f.storage l.attempt k.kept k.constraint k.single
    (pifc_none f i l is kind)
    (λ instr fits. subst (Found EndsIt (λ e. refl))
    (sym (has_room f i l k.kept instr is ok k.constraint fits)) tt))

-- ---- what goes is permitted

ends_or_stops : (nest : List Begin) (r : Refusal) (i : Instr) (ranges : List Range)
    → fate_after nest r ≡ Goes i ranges → ⊥
ends_or_stops [] (Excepts e) i ranges h = cc
ends_or_stops (b ∷ bs) (Excepts e) i ranges h = cc
ends_or_stops [] (Because w) i ranges h = cc
ends_or_stops (b ∷ bs) (Because w) i ranges h = cc

tried_goes : (q : Progress) (j i : Instr) (o : Option Refusal) (ranges : List Range)
    → tried q j o ≡ Goes i ranges → (o ≡ None) × (j ≡ i)
tried_goes q j i None ranges h = (refl, cc)
tried_goes q j i (Some r) ranges h = absurd (ends_or_stops q.nest r i ranges h)

fetched_goes : (text : List ℕ) (storage : Storage) (q : Progress) (o : Option ℕ) (read : Option Instr)
    (i : Instr)
    (ranges : List Range) → fetched text storage q o read ≡ Goes i ranges → text_refusal_by q i ≡ None
fetched_goes text storage q (Some code) read i ranges h = absurd (ends_or_stops q.nest (Excepts _) i ranges h)
fetched_goes text storage q None None i ranges h = absurd (ends_or_stops q.nest (Excepts _) i ranges h)
fetched_goes text storage q None (Some j) i ranges h =
    let both = tried_goes q j i (first_refusal (tests_by text storage q j)) ranges h in
    subst (λ (x : Instr). text_refusal_by q x ≡ None) both.1 (found_none (text_refusal_by q j) _ both.0)

pub goes_permitted : (text : List ℕ) (storage : Storage) (q : Progress) (i : Instr) (ranges : List Range)
    (kept : constraint.Kept) → q.constraint ≡ Some kept → fate_by_progress text storage q ≡ Goes i ranges
    → (entry_at i.op.number).permitted ≡ true
unfolding fate_by_progress
goes_permitted text storage q i ranges kept some h =
    permitted_of q i kept some
    (fetched_goes text storage q (fetch_refusal text (at_hand storage q))
    (instruction_at (at_hand storage q)) i
    ranges h)
