-- Attempts that end: by themselves, or from outside.
use Rattle.std.proofs.Common.{◌≡◌, ℕ, suc, ◌+◌, ◌-◌, Bool, true, false, List, [], ◌∷◌, ◌++◌, Some}
use Rattle.std.proofs.Common.{refl, sym, ap, subst, ◌∙◌, arith, length, take, inl, inr}
use Rattle.std.specs.Prelude.{if◌then◌else◌, ◌&&◌, ◌||◌, not, nat_lt}
use Rattle.std.proofs.lemmas.Bool.{true≢false, or_left, or_right, false_from_ne_true}
use Rattle.z_regs.specs.Cpu.{Cpu}
use Rattle.z_regs.specs.declared.ranges.Range.{Range}
use Rattle.z_instr.specs.declared.instr.Instr.{Instr}
use Rattle.z_instr.specs.Table.{entry_at}
use Rattle.z_instr.specs.Roles.{begins, is_end}
use Rattle.z_effect.specs.After.{exception}
use Rattle.z_effect.specs.Beginning.{begin_of}
use Rattle.z_effect.specs.One.{one, length_of}
use Rattle.z_effect.specs.Outcome.{Outcome, Did, Divides, Aborts}
use Rattle.z_effect.specs.Outcome as outcome
use Rattle.tx_control.specs.Nesting.{is_constrained}
use Rattle.tx_control.specs.declared.begins.Begin.{Begin}
use Rattle.tx_control.specs.declared.causes.Why.{Why}
use Rattle.tx_control.specs.declared.causes.Why.TheVariants.{External, FetchConflict, StoreConflict, Starved}
use Rattle.tx_control.specs.Codes.{fixed_point_overflow_code}
use Rattle.tx_constraint.specs.Constraints.{Step}
use Rattle.tx_serial.specs.Entry.TheVariants.{Abort}
use Rattle.tx_serial.specs.Overlay.{Store}
use Rattle.tx_serial.specs.Apply.{apply, only_where}
use Rattle.tx_serial.specs.Attempt.{Run, Open, Overflowed, Missing, last_step}
use Rattle.tx_serial.specs.Ending.{ending, ending_of, fate_cause, fits, is_cause, is_open}
use Rattle.tx_serial.specs.Ending.{comes_from_outside, outcome_cause, overflow_cause, has_operands}
use Rattle.tx_serial.specs.Fate.{Fate, Goes, Ends, fate, cause_in, step_of}
use Rattle.tx_serial.specs.Flat.{Storage, FlatState, operand_stores, operand_bytes}
use Rattle.tx_serial.specs.Remains.{remains, resumed_at, address_in}
use Rattle.tx_serial.specs.Run.{run, may_follow, after, nest_after, outcome_of, with_instruction, overflowed}
use Rattle.tx_serial.proofs.SameCauses.{one_cause}
use Rattle.tx_progress.specs.Followed.{beside_in, Leaves, RunTells}
use Rattle.tx_progress.specs.Local.{Local, flat_from, aborted}
use Rattle.tx_progress.specs.Doing.{Executed, executed, inside, closed_by, stores_of, going_on}
use Rattle.tx_progress.specs.Progress.{Progress, is_live, advanced}
use Rattle.tx_progress.specs.Reached.{progress_of, resumption_of, IsFollowed}
use Rattle.tx_progress.specs.Trial.{fate_by_progress, outcome_by}
use Rattle.tx_progress.specs.declared.done.Done.{Done}
use Rattle.tx_progress.specs.declared.done.Done.TheVariants as done
use Rattle.tx_progress.proofs.OneMore.{run_after, advances, counts, open_is_there}
use Rattle.tx_progress.proofs.Rows.{role_done}
use Rattle.tx_progress.proofs.Standing.{Stands, run_stands, is_begun_so}
use Rattle.tx_progress.proofs.Parts.{left_at_rest, followed_fate, followed_outcome, live_follows}
use Rattle.tx_progress.proofs.Alike.{its_footprint}
use Rattle.tx_progress.proofs.Leaving.{remains_left, aborted_rests, its_address, abort_leaves}
use Rattle.tx_progress.proofs.Moving.{executed_live, next_of, completed_tells}
use Rattle.tx_serial.proofs.Starting.{last_is}

-- ---- an attempt ends by itself

-- the cause by which it ends fits
pub ending_fits : (text : List ℕ) (p : Run) (why : Why) → ending text p ≡ Some why → fits text p why ≡ true
unfolding fits
ending_fits text p why e =
    or_left (is_cause (ending text p) why) (is_open p.mark && comes_from_outside text p why)
    (ap (λ o. is_cause o why) e ∙ one_cause why)

pub open_ending : (text : List ℕ) (p : Run) (o : Fate) → p.mark ≡ Open → fate text p ≡ o
    → ending text p ≡ fate_cause p o
unfolding ending
open_ending text p o opens e = ap (λ m. ending_of m text p) opens ∙ ap (fate_cause p) e

pub its_nest : (p : Run) (q : Progress) → progress_of p ≡ q → p.nest ≡ q.nest
unfolding progress_of
its_nest p q e = ap (λ (x : Progress). x.nest) e

-- by a test of its next instruction
pub refused_leaves : (text : List ℕ) (storage : Storage) (locals : ℕ → Local) (i : ℕ) (why : Why)
    → IsFollowed (flat_from text storage locals) i (locals i) → is_live (locals i).attempt ≡ true
    → fate_by_progress text storage (locals i).attempt ≡ Ends why
    → Leaves text storage locals i (Abort i (locals i).attempt.count why)
    (aborted why (locals i).attempt.cpu.address (beside_in storage locals i))
refused_leaves text storage locals i why is live h =
    let f = flat_from text storage locals in
    let p = run f i (locals i).attempt.count in
    abort_leaves text storage locals i why is live
    (ending_fits text p why (open_ending text p (Ends why) is.opens (followed_fate f i (locals i) is ∙ h)))

-- by a division, or TABORT
undone_leaves : (text : List ℕ) (storage : Storage) (locals : ℕ → Local) (i : ℕ) (instr : Instr)
    (ranges : List Range) (o : Outcome) (why : Why)
    → IsFollowed (flat_from text storage locals) i (locals i) → is_live (locals i).attempt ≡ true
    → fate_by_progress text storage (locals i).attempt ≡ Goes instr ranges
    → outcome_by storage instr ranges (locals i).attempt ≡ o
    → outcome_cause (locals i).attempt.nest instr o ≡ Some why
    → Leaves text storage locals i (Abort i (locals i).attempt.count why)
    (aborted why (locals i).attempt.cpu.address (beside_in storage locals i))
undone_leaves text storage locals i instr ranges o why is live h came cause =
    let f = flat_from text storage locals in
    let q = (locals i).attempt in
    let p = run f i q.count in
    abort_leaves text storage locals i why is live
    (ending_fits text p why (open_ending text p (Goes instr ranges) is.opens (followed_fate f i (locals i) is
    ∙ h)
    ∙ ap (outcome_cause p.nest instr) (followed_outcome f i (locals i) instr ranges is ∙ came)
    ∙ ap (λ n. outcome_cause n instr o) (its_nest p q is.attempt) ∙ cause))

-- ---- by an overflow

still_resumes : (c now : Cpu) (steps : List Step) (nest : List Begin) (t : Step) (k : ℕ)
    → Stands c now steps nest
    → length steps ≡ k → nat_lt 0 k ≡ true
    → resumed_at (is_constrained nest) (steps ++ t ∷ []) ≡ resumption_of (steps ++ t ∷ [])
still_resumes c now [] [] t k h e some = absurd (true≢false (sym some ∙ ap (λ n. nat_lt 0 n) (sym e)))
still_resumes c now [] (b ∷ bs) t k h e some = absurd h
still_resumes c now (s ∷ ss) [] t k h e some = absurd h
still_resumes c now (s ∷ ss) (b ∷ bs) t k h e some =
    ap (λ x. if x then s.at else s.at + length_of s.instruction) (is_begun_so c s ss b bs h)

same_nest : (i : Instr) (general : List ℕ) (nest : List Begin) (c now : Cpu) (bytes given : List ℕ) (depth :
    ℕ)
    → one i now depth given ≡ outcome.Overflowed c bytes → nest_after i general nest ≡ nest
same_nest i general nest c now bytes given depth o =
    plain (begins (entry_at i.op.number)) (is_end (entry_at i.op.number))
    (false_from_ne_true (begins (entry_at i.op.number) || is_end (entry_at i.op.number))
    (λ role. let d = role_done i now depth given role in
    let e : Did d.cpu d.bytes ≡ outcome.Overflowed c bytes = sym d.is ∙ o in absurd (cc)))
  where
    plain : (x y : Bool) → (x || y) ≡ false
        → (if x then nest ++ begin_of i general ∷ [] else if y then take (length nest - 1) nest else nest) ≡
        nest
    plain true y h = absurd (true≢false h)
    plain false true h = absurd (true≢false h)
    plain false false h = refl

pub over_ending : (text : List ℕ) (p : Run) (i : Instr) (ranges : List Range) (c : Cpu) (stores : List Store)
    → ending text (overflowed (with_instruction i ranges c stores p))
    ≡ Some (cause_in (nest_after i p.cpu.general p.nest) (exception fixed_point_overflow_code (length_of i)))
unfolding ending
over_ending text p i ranges c stores =
    ap (overflow_cause (nest_after i p.cpu.general p.nest)) (last_is p.steps (step_of i ranges p.cpu))

pub over_progress : (p : Run) (q : Progress) (i : Instr) (ranges : List Range) (c : Cpu) (bytes : List ℕ)
    → progress_of p ≡ q
    → progress_of (overflowed (with_instruction i ranges c (operand_stores p.cpu.prefix ranges bytes) p))
    ≡ advanced i ranges c (stores_of ranges bytes q) q
unfolding progress_of
over_progress p q i ranges c bytes e =
    advances i ranges c (operand_stores p.cpu.prefix ranges bytes) p
    ∙ ap (λ x. advanced i ranges c (stores_of ranges bytes x) x) e

over_leaves : (text : List ℕ) (storage : Storage) (locals : ℕ → Local) (i : ℕ) (instr : Instr)
    (ranges : List Range) (c : Cpu) (bytes : List ℕ) (why : Why)
    → IsFollowed (flat_from text storage locals) i (locals i) → is_live (locals i).attempt ≡ true
    → fate_by_progress text storage (locals i).attempt ≡ Goes instr ranges
    → outcome_by storage instr ranges (locals i).attempt ≡ outcome.Overflowed c bytes
    → cause_in (next_of (locals i) instr ranges c bytes).nest (exception fixed_point_overflow_code (length_of
    instr))
    ≡ why
    → Leaves text storage locals i (Abort i (next_of (locals i) instr ranges c bytes).count why)
    (aborted why (locals i).attempt.cpu.address
    (going_on (next_of (locals i) instr ranges c bytes) (beside_in storage locals i)))
unfolding apply
over_leaves text storage locals i instr ranges c bytes why is live h came cause =
    let f = flat_from text storage locals in
    let q = (locals i).attempt in
    let p = run f i q.count in
    let next = next_of (locals i) instr ranges c bytes in
    let over = overflowed (with_instruction instr ranges c (operand_stores p.cpu.prefix ranges bytes) p) in
    let after = going_on next (beside_in storage locals i) in
    let at = q.cpu.address in
    let n : q.count + 1 ≡ suc q.count = omega arith in
    let out : outcome_of instr ranges p ≡ outcome.Overflowed c bytes =
    followed_outcome f i (locals i) instr ranges is ∙ came in
    let longer : run f i (q.count + 1) ≡ over =
    ap (run f i) n ∙ run_after f i q.count instr ranges (outcome.Overflowed c bytes) is.opens
    (followed_fate f i (locals i) is ∙ h) (live_follows f i q.count instr is.opens live) out in
    let progress : progress_of over ≡ next = over_progress p q instr ranges c bytes is.attempt in
    let some : nat_lt 0 (q.count + 1) ≡ true = grind (arith) in
    let ends : ending text over ≡ Some why =
    over_ending text p instr ranges c (operand_stores p.cpu.prefix ranges bytes)
    ∙ ap (λ nest. Some (cause_in nest (exception fixed_point_overflow_code (length_of instr))))
    (its_nest over next progress) ∙ ap Some cause in
    let fit : fits text (run f i (q.count + 1)) why ≡ true =
    ap (λ r. fits text r why) longer ∙ ending_fits text over why ends in
    let resumes : resumed_at (is_constrained over.nest) over.steps ≡ resumption_of over.steps =
    ap (λ nest. resumed_at (is_constrained nest) over.steps)
    (same_nest instr p.cpu.general p.nest c p.cpu bytes (operand_bytes p.cpu.prefix p.copy ranges) (length
    p.nest)
    out)
    ∙ still_resumes (f.cpus i) p.cpu p.steps p.nest (step_of instr ranges p.cpu) q.count
    (run_stands f i q.count is.opens) (counts f i q.count (open_is_there p.mark is.opens)) live in
    let told : address_in Overflowed (last_step over.steps) c.address ≡ at =
    ap (λ o. address_in Overflowed o c.address) (last_is p.steps (step_of instr ranges p.cpu))
    ∙ its_address p q is.attempt in
    record {
      applied =
          (λ k. only_where (is.acts live k && (some k && fit k))
          (Some (remains f i (run f i (q.count + 1)) why)))
          ∙ ap (λ r. Some (remains f i r why)) longer
          ∙ ap Some (remains_left text storage locals i over next why at progress resumes told);
      followed = left_at_rest text locals i (aborted why at after) (aborted_rests why at after);
      rests = ap (λ q. q.count) (aborted_rests why at after);
    }

-- ---- what an instruction inside a transaction tells

abbrev cause_told : Why → Done → Why
cause_told d done.Stepped = d
cause_told d (done.Paused turns) = d
cause_told d done.Began = d
cause_told d (done.Committed n) = d
cause_told d (done.Interrupted code) = d
cause_told d (done.Ended why) = why

abbrev AbortLeaves : List ℕ → Storage → (ℕ → Local) → ℕ → Why → Executed → Type 0
AbortLeaves text storage locals i why e =
    Leaves text storage locals i (Abort i e.after.local.attempt.count why)
    (aborted why (locals i).attempt.cpu.address e.after)

pub ended_leaves : (text : List ℕ) (storage : Storage) (locals : ℕ → Local) (i : ℕ) (instr : Instr)
    (ranges : List Range) (why : Why)
    → IsFollowed (flat_from text storage locals) i (locals i) → is_live (locals i).attempt ≡ true
    → fate_by_progress text storage (locals i).attempt ≡ Goes instr ranges
    → (executed instr ranges (beside_in storage locals i)).told ≡ done.Ended why
    → Leaves text storage locals i
    (Abort i (executed instr ranges (beside_in storage locals i)).after.local.attempt.count why)
    (aborted why (locals i).attempt.cpu.address (executed instr ranges (beside_in storage locals i)).after)
ended_leaves text storage locals i instr ranges why is live h told =
    let e = executed_live instr ranges (beside_in storage locals i) live in
    subst (AbortLeaves text storage locals i why) (sym e)
    (by (outcome_by storage instr ranges (locals i).attempt) refl (sym (ap (λ x. x.told) e) ∙ told))
  where
    closed : (next : Progress) (nest : List Begin)
        → (closed_by next nest (beside_in storage locals i)).told ≡ done.Ended why
        → AbortLeaves text storage locals i why (closed_by next nest (beside_in storage locals i))
    closed next [] t = absurd (cc)
    closed next (outermost ∷ inner) t = absurd (cc)

    by : (o : Outcome) → outcome_by storage instr ranges (locals i).attempt ≡ o
        → (inside instr ranges (beside_in storage locals i) o).told ≡ done.Ended why
        → AbortLeaves text storage locals i why (inside instr ranges (beside_in storage locals i) o)
    by (Did c bytes) o t =
        closed (next_of (locals i) instr ranges c bytes) (next_of (locals i) instr ranges c bytes).nest t
    by (outcome.Overflowed c bytes) o t =
        over_leaves text storage locals i instr ranges c bytes why is live h o (ap (cause_told why) t)
    by Divides o t =
        undone_leaves text storage locals i instr ranges Divides why is live h o
        (ap (λ x. Some (cause_told why x)) t)
    by (Aborts code) o t =
        undone_leaves text storage locals i instr ranges (Aborts code) why is live h o
        (ap (λ x. Some (cause_told why x)) t)

-- ---- what the run shows

overflow_shows : (text : List ℕ) (storage : Storage) (locals : ℕ → Local) (i : ℕ) (instr : Instr)
    (ranges : List Range) (c : Cpu) (bytes : List ℕ)
    → IsFollowed (flat_from text storage locals) i (locals i) → is_live (locals i).attempt ≡ true
    → fate_by_progress text storage (locals i).attempt ≡ Goes instr ranges
    → outcome_by storage instr ranges (locals i).attempt ≡ outcome.Overflowed c bytes
    → let next : Run = run (flat_from text storage locals) i (suc (locals i).attempt.count) in
    (next.mark ≡ Overflowed) × (ending text next ≡ Some
    (cause_in (next_of (locals i) instr ranges c bytes).nest
    (exception fixed_point_overflow_code (length_of instr))))
overflow_shows text storage locals i instr ranges c bytes is live h came =
    let f = flat_from text storage locals in
    let q = (locals i).attempt in
    let p = run f i q.count in
    let next = next_of (locals i) instr ranges c bytes in
    let stores = operand_stores p.cpu.prefix ranges bytes in
    let over = overflowed (with_instruction instr ranges c stores p) in
    let longer : run f i (suc q.count) ≡ over =
    run_after f i q.count instr ranges (outcome.Overflowed c bytes) is.opens
    (followed_fate f i (locals i) is ∙ h) (live_follows f i q.count instr is.opens live)
    (followed_outcome f i (locals i) instr ranges is ∙ came) in (
      ap (λ r. r.mark) longer,
      ap (ending text) longer ∙ over_ending text p instr ranges c stores
          ∙ ap (λ nest. Some (cause_in nest (exception fixed_point_overflow_code (length_of instr))))
          (its_nest over next (over_progress p q instr ranges c bytes is.attempt)),
    )

-- the progress of the run with it
pub longer_progress : (f : FlatState) (i : ℕ) (local : Local) (instr : Instr) (ranges : List Range) (c : Cpu)
    (bytes : List ℕ) → IsFollowed f i local
    → fate_by_progress f.text f.storage local.attempt ≡ Goes instr ranges
    → may_follow (run f i local.attempt.count).nest instr ≡ true
    → outcome_by f.storage instr ranges local.attempt ≡ outcome.Overflowed c bytes
    → progress_of (run f i (suc local.attempt.count)) ≡ next_of local instr ranges c bytes
longer_progress f i local instr ranges c bytes is h follows came =
    ap progress_of (run_after f i local.attempt.count instr ranges (outcome.Overflowed c bytes) is.opens
    (followed_fate f i local is ∙ h) follows (followed_outcome f i local instr ranges is ∙ came))
    ∙ over_progress (run f i local.attempt.count) local.attempt instr ranges c bytes is.attempt

undone_shows : (text : List ℕ) (storage : Storage) (locals : ℕ → Local) (i : ℕ) (instr : Instr)
    (ranges : List Range) (o : Outcome) (why : Why)
    → IsFollowed (flat_from text storage locals) i (locals i) → is_live (locals i).attempt ≡ true
    → fate_by_progress text storage (locals i).attempt ≡ Goes instr ranges
    → outcome_by storage instr ranges (locals i).attempt ≡ o
    → outcome_cause (locals i).attempt.nest instr o ≡ Some why
    → ((p : Run) → (after instr ranges p o).mark ≡ Missing)
    → ((run (flat_from text storage locals) i (suc (locals i).attempt.count)).mark ≡ Missing)
    × (ending text (run (flat_from text storage locals) i (locals i).attempt.count) ≡ Some why)
undone_shows text storage locals i instr ranges o why is live h came cause none =
    let f = flat_from text storage locals in
    let q = (locals i).attempt in
    let p = run f i q.count in
    let goes : fate text p ≡ Goes instr ranges = followed_fate f i (locals i) is ∙ h in
    let out : outcome_of instr ranges p ≡ o = followed_outcome f i (locals i) instr ranges is ∙ came in (
      ap (λ r. r.mark) (run_after f i q.count instr ranges o is.opens goes
          (live_follows f i q.count instr is.opens live) out) ∙ none p,
      open_ending text p (Goes instr ranges) is.opens goes ∙ ap (outcome_cause p.nest instr) out
          ∙ ap (λ n. outcome_cause n instr o) (its_nest p q is.attempt) ∙ cause,
    )

abbrev Told : List ℕ → Storage → (ℕ → Local) → ℕ → Executed → Type 0
Told text storage locals i e =
    RunTells text (run (flat_from text storage locals) i (locals i).attempt.count)
    (run (flat_from text storage locals) i (suc (locals i).attempt.count)) (locals i).attempt.count e.after
    e.told

told_inside : (text : List ℕ) (storage : Storage) (locals : ℕ → Local) (i : ℕ) (instr : Instr)
    (ranges : List Range) (o : Outcome)
    → IsFollowed (flat_from text storage locals) i (locals i) → is_live (locals i).attempt ≡ true
    → fate_by_progress text storage (locals i).attempt ≡ Goes instr ranges
    → outcome_by storage instr ranges (locals i).attempt ≡ o
    → Told text storage locals i (inside instr ranges (beside_in storage locals i) o)
told_inside text storage locals i instr ranges (Did c bytes) is live h came =
    completed_tells text storage locals i instr ranges c bytes is live h came
told_inside text storage locals i instr ranges (outcome.Overflowed c bytes) is live h came =
    let shows = overflow_shows text storage locals i instr ranges c bytes is live h came in
    inl (shows.0, shows.1, refl)
told_inside text storage locals i instr ranges Divides is live h came =
    let shows = undone_shows text storage locals i instr ranges Divides _ is live h came refl (λ p. refl) in
    inr (shows.0, shows.1, refl)
told_inside text storage locals i instr ranges (Aborts code) is live h came =
    let shows = undone_shows text storage locals i instr ranges (Aborts code) _ is live h came refl (λ p.
    refl) in
    inr (shows.0, shows.1, refl)

pub run_tells : (text : List ℕ) (storage : Storage) (locals : ℕ → Local) (i : ℕ) (instr : Instr)
    (ranges : List Range) → IsFollowed (flat_from text storage locals) i (locals i)
    → is_live (locals i).attempt ≡ true
    → fate_by_progress text storage (locals i).attempt ≡ Goes instr ranges
    → RunTells text (run (flat_from text storage locals) i (locals i).attempt.count)
    (run (flat_from text storage locals) i (suc (locals i).attempt.count)) (locals i).attempt.count
    (executed instr ranges (beside_in storage locals i)).after
    (executed instr ranges (beside_in storage locals i)).told
run_tells text storage locals i instr ranges is live h =
    subst (Told text storage locals i) (sym (executed_live instr ranges (beside_in storage locals i) live))
    (told_inside text storage locals i instr ranges (outcome_by storage instr ranges (locals i).attempt) is
    live h
    refl)

-- ---- from outside

pub fits_open : (text : List ℕ) (p : Run) (why : Why) → p.mark ≡ Open
    → comes_from_outside text p why ≡ true → fits text p why ≡ true
unfolding fits
fits_open text p why opens h =
    or_right (is_cause (ending text p) why) (is_open p.mark && comes_from_outside text p why)
    (ap (λ m. is_open m && comes_from_outside text p why) opens ∙ h)

-- what may come from outside, by what is followed
pub external_fits : (f : FlatState) (i : ℕ) (local : Local) → IsFollowed f i local
    → fits f.text (run f i local.attempt.count) External ≡ true
external_fits f i local is = fits_open f.text (run f i local.attempt.count) External is.opens refl

pub store_conflict_fits : (f : FlatState) (i line : ℕ) (local : Local) → IsFollowed f i local
    → local.attempt.footprint.stored line ≡ true
    → fits f.text (run f i local.attempt.count) (StoreConflict line) ≡ true
store_conflict_fits f i line local is h =
    fits_open f.text (run f i local.attempt.count) (StoreConflict line) is.opens
    (ap (λ sets. sets.stored line) (its_footprint f i local is) ∙ h)

pub fetch_conflict_fits : (f : FlatState) (i line : ℕ) (local : Local) → IsFollowed f i local
    → local.attempt.footprint.fetched line ≡ true → local.attempt.footprint.stored line ≡ false
    → fits f.text (run f i local.attempt.count) (FetchConflict line) ≡ true
fetch_conflict_fits f i line local is fetched stored =
    fits_open f.text (run f i local.attempt.count) (FetchConflict line) is.opens
    (ap (λ sets. sets.fetched line && not (sets.stored line)) (its_footprint f i local is)
    ∙ (λ k. fetched k && not (stored k)))

pub starved_fits : (f : FlatState) (i : ℕ) (local : Local) (instr : Instr) (r : Range) (rs : List Range)
    → IsFollowed f i local → is_constrained local.attempt.nest ≡ true
    → fate_by_progress f.text f.storage local.attempt ≡ Goes instr (r ∷ rs)
    → fits f.text (run f i local.attempt.count) Starved ≡ true
starved_fits f i local instr r rs is constrained h =
    let p = run f i local.attempt.count in
    let nest : is_constrained p.nest ≡ true =
    ap is_constrained (its_nest p local.attempt is.attempt) ∙ constrained in
    let goes : fate f.text p ≡ Goes instr (r ∷ rs) = followed_fate f i local is ∙ h in
    fits_open f.text p Starved is.opens (λ k. nest k && has_operands (goes k))
