-- What an instruction that goes leaves of a CPU and of storage.
use Rattle.std.proofs.Common.{◌≡◌, ℕ, suc, ◌+◌, Bool, true, false, List, [], ◌∷◌, Some}
use Rattle.std.proofs.Common.{refl, sym, ap, subst, ◌∙◌, arith, length, take}
use Rattle.std.specs.Prelude.{if◌then◌else◌, ◌-◌, not}
use Rattle.std.proofs.lemmas.Bool.{or_left}
use Rattle.z_regs.specs.Cpu.{Cpu}
use Rattle.z_regs.specs.declared.ranges.Range.{Range}
use Rattle.z_instr.specs.declared.instr.Instr.{Instr}
use Rattle.z_instr.specs.Table.{entry_at}
use Rattle.z_instr.specs.Roles.{begins, is_end}
use Rattle.z_effect.specs.Beginning.{begin_of}
use Rattle.z_effect.specs.Outcome.{Outcome, Did, Divides, Aborts}
use Rattle.z_effect.specs.Outcome as outcome
use Rattle.tx_control.specs.declared.begins.Begin.{Begin}
use Rattle.tx_serial.specs.Entry.TheVariants.{Step, Commit}
use Rattle.tx_serial.specs.Apply.{apply, only_where, may_act, after_step, after_commit, with_outcome}
use Rattle.tx_serial.specs.Attempt.{Open, Committed}
use Rattle.tx_serial.specs.Fate.{Goes, fate}
use Rattle.tx_serial.specs.Flat.{Storage, FlatState, at_put, laid_over, operand_stores, operand_bytes}
use Rattle.tx_serial.specs.Run.{run, may_follow, mark_in, nest_after, outcome_of}
use Rattle.tx_progress.specs.Followed.{Advances, beside_in, flat_after, Leaves, GoesOnAs, RunTells}
use Rattle.tx_progress.specs.Local.{Local, Beside, flat_from}
use Rattle.tx_progress.specs.Doing.{Executed, executed, executed_where, outside, stores_of}
use Rattle.tx_progress.specs.Doing.{inside, closed_by, committed, going_on}
use Rattle.tx_progress.specs.Progress.{Progress, resting, is_live, advanced, seen_through}
use Rattle.tx_progress.specs.Reached.{progress_of, IsFollowed}
use Rattle.tx_progress.specs.Trial.{fate_by_progress, outcome_by}
use Rattle.tx_progress.specs.declared.done.Done.{Done}
use Rattle.tx_progress.specs.declared.done.Done.TheVariants as done
use Rattle.tx_progress.proofs.SeenStores.{progress_seen}
use Rattle.tx_progress.proofs.OneMore.{completed}
use Rattle.tx_progress.proofs.Rows.{role_done}
use Rattle.tx_progress.proofs.Parts.{put_part, same_part, rests, left_at_rest, followed_fate, quiet_run}
use Rattle.tx_progress.proofs.Parts.{followed_outcome, live_follows}

-- a CPU of which nothing but its attempt is another one
same_flat : (text : List ℕ) (storage : Storage) (locals : ℕ → Local) (i : ℕ) (l : Local)
    → l.cpu ≡ (locals i).cpu → l.pending ≡ (locals i).pending → l.waiting ≡ (locals i).waiting
    → flat_after text locals i record { local = l; storage = storage } ≡ flat_from text storage locals
same_flat text storage locals i l c p w =
    let cpus = same_part (λ l. l.cpu) locals i l c in
    let blocks = same_part (λ l. l.pending) locals i l p in
    let interruptions = same_part (λ l. l.waiting) locals i l w in
    sym (λ k. record {
      storage = storage;
      text = text;
      cpus = cpus k;
      pending = blocks k;
      waiting = interruptions k;
    })

-- ---- outside transactions

outside_flat : (text : List ℕ) (storage : Storage) (locals : ℕ → Local) (i : ℕ) (instr : Instr)
    (ranges : List Range) (o : Outcome) → (locals i).attempt ≡ resting (locals i).cpu
    → with_outcome (flat_from text storage locals) i instr ranges o
    ≡ flat_after text locals i (outside instr ranges (beside_in storage locals i) o)
outside_flat text storage locals i instr ranges (Did c bytes) rest =
    let after = outside instr ranges (beside_in storage locals i) (Did c bytes) in
    let bytes : laid_over storage (operand_stores (locals i).cpu.prefix ranges bytes) ≡ after.storage =
    ap (λ q. laid_over storage (stores_of ranges bytes q)) (sym rest) in
    let cpus = put_part (λ l. l.cpu) locals i after.local in
    let blocks = same_part (λ l. l.pending) locals i after.local refl in
    let interruptions = same_part (λ l. l.waiting) locals i after.local refl in
    λ k. record {
      storage = bytes k;
      text = text;
      cpus = cpus k;
      pending = blocks k;
      waiting = interruptions k;
    }
outside_flat text storage locals i instr ranges (outcome.Overflowed c bytes) rest =
    let after = outside instr ranges (beside_in storage locals i) (outcome.Overflowed c bytes) in
    let bytes : laid_over storage (operand_stores (locals i).cpu.prefix ranges bytes) ≡ after.storage =
    ap (λ q. laid_over storage (stores_of ranges bytes q)) (sym rest) in
    let cpus = put_part (λ l. l.cpu) locals i after.local in
    let blocks = same_part (λ l. l.pending) locals i after.local refl in
    let interruptions = put_part (λ l. l.waiting) locals i after.local in
    λ k. record {
      storage = bytes k;
      text = text;
      cpus = cpus k;
      pending = blocks k;
      waiting = interruptions k;
    }
outside_flat text storage locals i instr ranges Divides rest =
    let after = outside instr ranges (beside_in storage locals i) Divides in
    let cpus = put_part (λ l. l.cpu) locals i after.local in
    let blocks = same_part (λ l. l.pending) locals i after.local refl in
    let interruptions = put_part (λ l. l.waiting) locals i after.local in
    λ k. record {
      storage = storage;
      text = text;
      cpus = cpus k;
      pending = blocks k;
      waiting = interruptions k;
    }
outside_flat text storage locals i instr ranges (Aborts code) rest =
    sym (same_flat text storage locals i (locals i) refl refl refl)

outside_rests : (storage : Storage) (locals : ℕ → Local) (i : ℕ) (instr : Instr) (ranges : List Range)
    (o : Outcome) → (locals i).attempt ≡ resting (locals i).cpu
    → (outside instr ranges (beside_in storage locals i) o).local.attempt
    ≡ resting (outside instr ranges (beside_in storage locals i) o).local.cpu
outside_rests storage locals i instr ranges (Did c bytes) rest = refl
outside_rests storage locals i instr ranges (outcome.Overflowed c bytes) rest = refl
outside_rests storage locals i instr ranges Divides rest = refl
outside_rests storage locals i instr ranges (Aborts code) rest = rest

-- what is executed, where it is known whether an attempt is live and whether it is a begin
pub executed_is : (instr : Instr) (ranges : List Range) (b : Beside) (live begin : Bool)
    → is_live b.local.attempt ≡ live → begins (entry_at instr.op.number) ≡ begin
    → executed instr ranges b
    ≡ executed_where live begin instr ranges b (outcome_by b.storage instr ranges b.local.attempt)
unfolding executed
executed_is instr ranges b live begin l e =
    λ k. executed_where (l k) (e k) instr ranges b (outcome_by b.storage instr ranges b.local.attempt)

pub executed_live : (instr : Instr) (ranges : List Range) (b : Beside) → is_live b.local.attempt ≡ true
    → executed instr ranges b ≡ inside instr ranges b (outcome_by b.storage instr ranges b.local.attempt)
executed_live instr ranges b live =
    executed_is instr ranges b true (begins (entry_at instr.op.number)) live refl

pub step_leaves : (text : List ℕ) (storage : Storage) (locals : ℕ → Local) (i : ℕ) (instr : Instr)
    (ranges : List Range) → IsFollowed (flat_from text storage locals) i (locals i)
    → may_act (flat_from text storage locals) i ≡ true → is_live (locals i).attempt ≡ false
    → begins (entry_at instr.op.number) ≡ false
    → fate_by_progress text storage (locals i).attempt ≡ Goes instr ranges
    → Leaves text storage locals i (Step i) (executed instr ranges (beside_in storage locals i)).after
unfolding apply
step_leaves text storage locals i instr ranges is acts quiet plain h =
    let f = flat_from text storage locals in
    let b = beside_in storage locals i in
    let o = outcome_by storage instr ranges (locals i).attempt in
    let rest = rests f i (locals i) is quiet in
    let goes : fate text (run f i 0) ≡ Goes instr ranges =
    ap (fate text) (quiet_run f i (locals i) quiet) ∙ followed_fate f i (locals i) is ∙ h in
    let came : outcome_of instr ranges (run f i 0) ≡ o =
    ap (outcome_of instr ranges) (quiet_run f i (locals i) quiet)
    ∙ followed_outcome f i (locals i) instr ranges is in
    subst (λ (e : Executed). Leaves text storage locals i (Step i) e.after)
    (sym (executed_is instr ranges b false false quiet plain)) record {
      applied = (λ k. only_where (acts k) (after_step f i (goes k)))
          ∙ ap (λ x. only_where (not x) (Some (with_outcome f i instr ranges (outcome_of instr ranges (run f i
          0))))) plain
          ∙ ap (λ x. Some (with_outcome f i instr ranges x)) came
          ∙ ap Some (outside_flat text storage locals i instr ranges o rest);
      followed = left_at_rest text locals i (outside instr ranges b o)
          (outside_rests storage locals i instr ranges o rest);
      rests = ap (λ q. q.count) (outside_rests storage locals i instr ranges o rest);
    }

-- ---- one instruction more

more_by : (f : FlatState) (i k : ℕ) (q : Progress) (instr : Instr) (ranges : List Range) (c : Cpu)
    (bytes : List ℕ) → progress_of (run f i k) ≡ q → (run f i k).mark ≡ Open
    → fate f.text (run f i k) ≡ Goes instr ranges → may_follow (run f i k).nest instr ≡ true
    → outcome_of instr ranges (run f i k) ≡ Did c bytes
    → Advances (run f i (suc k)) instr ranges c bytes q (mark_in (nest_after instr q.cpu.general q.nest))
unfolding progress_of
more_by f i k q instr ranges c bytes e opens goes follows came =
    subst (λ (x : Progress). Advances (run f i (suc k)) instr ranges c bytes x
    (mark_in (nest_after instr x.cpu.general x.nest))) e
    (completed f i k instr ranges c bytes opens goes follows came)

abbrev pub next_of : Local → Instr → List Range → Cpu → List ℕ → Progress
next_of local instr ranges c bytes = advanced instr ranges c (stores_of ranges bytes local.attempt)
    local.attempt

-- of what is followed
pub one_more : (f : FlatState) (i : ℕ) (local : Local) (instr : Instr) (ranges : List Range) (c : Cpu)
    (bytes : List ℕ) → IsFollowed f i local
    → fate_by_progress f.text f.storage local.attempt ≡ Goes instr ranges
    → may_follow (run f i local.attempt.count).nest instr ≡ true
    → outcome_by f.storage instr ranges local.attempt ≡ Did c bytes
    → Advances (run f i (next_of local instr ranges c bytes).count) instr ranges c bytes local.attempt
    (mark_in (next_of local instr ranges c bytes).nest)
one_more f i local instr ranges c bytes is h follows o =
    let q = local.attempt in
    let n : suc q.count ≡ q.count + 1 = omega arith in
    subst (λ m. Advances (run f i m) instr ranges c bytes q (mark_in (next_of local instr ranges c
    bytes).nest)) n
    (more_by f i q.count q instr ranges c bytes is.attempt is.opens (followed_fate f i local is ∙ h) follows
    (followed_outcome f i local instr ranges is ∙ o))

-- an attempt that goes on
goes_on_as : (text : List ℕ) (storage : Storage) (locals : ℕ → Local) (i : ℕ) (next : Progress)
    → progress_of (run (flat_from text storage locals) i next.count) ≡ next
    → (run (flat_from text storage locals) i next.count).mark ≡ Open
    → may_act (flat_from text storage locals) i ≡ true → next.count ≡ (locals i).attempt.count + 1
    → GoesOnAs text storage locals i (going_on next (beside_in storage locals i))
goes_on_as text storage locals i next e opens acts count =
    let n : suc (locals i).attempt.count ≡ next.count = omega (arith, count) in
    let after = going_on next (beside_in storage locals i) in
    let same = same_flat text storage locals i after.local refl refl refl in
    record {
      same = same;
      followed = record {
        cpu = ap (λ g. g.cpus i) same;
        pending = ap (λ g. g.pending i) same;
        waiting = ap (λ g. g.waiting i) same;
        attempt = ap (λ g. progress_of (run g i next.count)) same ∙ e;
        opens = ap (λ g. (run g i next.count).mark) same ∙ opens;
        acts = λ live. ap (λ g. may_act g i) same ∙ acts;
      };
      count = count;
      mark = ap (λ m. (run (flat_from text storage locals) i m).mark) n ∙ opens;
    }

-- ---- a transaction is begun, or goes on

pub begin_follows : (f : FlatState) (i : ℕ) (instr : Instr) → begins (entry_at instr.op.number) ≡ true
    → may_follow (run f i 0).nest instr ≡ true
unfolding run
begin_follows f i instr h = h

pub begin_leaves : (text : List ℕ) (storage : Storage) (locals : ℕ → Local) (i : ℕ) (instr : Instr)
    (ranges : List Range) → IsFollowed (flat_from text storage locals) i (locals i)
    → may_act (flat_from text storage locals) i ≡ true → is_live (locals i).attempt ≡ false
    → begins (entry_at instr.op.number) ≡ true
    → fate_by_progress text storage (locals i).attempt ≡ Goes instr ranges
    → GoesOnAs text storage locals i (executed instr ranges (beside_in storage locals i)).after
begin_leaves text storage locals i instr ranges is acts quiet begin h =
    let f = flat_from text storage locals in
    let b = beside_in storage locals i in
    let q = (locals i).attempt in
    let d = role_done instr q.cpu (length q.nest) (operand_bytes q.cpu.prefix (seen_through q.overlay storage)
    ranges) (or_left (begins (entry_at instr.op.number)) (is_end (entry_at instr.op.number)) begin) in
    let follows : may_follow (run f i q.count).nest instr ≡ true =
    ap (λ p. may_follow p.nest instr) (sym (quiet_run f i (locals i) quiet)) ∙ begin_follows f i instr begin
    in
    let more = one_more f i (locals i) instr ranges d.cpu d.bytes is h follows d.is in
    let general : q.nest ≡ [] = ap (λ x. x.nest) (rests f i (locals i) is quiet) in
    let opens : mark_in (next_of (locals i) instr ranges d.cpu d.bytes).nest ≡ Open =
    ap (λ nest. mark_in (nest_after instr q.cpu.general nest)) general
    ∙ ap (λ x. mark_in (if x then begin_of instr q.cpu.general ∷ [] else
    if is_end (entry_at instr.op.number) then take (0 - 1) [] else [])) begin in
    subst (λ (e : Executed). GoesOnAs text storage locals i e.after)
    (sym (executed_is instr ranges b false true quiet begin ∙ ap (executed_where false true instr ranges b)
    d.is))
    (goes_on_as text storage locals i (next_of (locals i) instr ranges d.cpu d.bytes) more.progress
    (more.mark ∙ opens) acts refl)

pub going_leaves : (text : List ℕ) (storage : Storage) (locals : ℕ → Local) (i : ℕ) (instr : Instr)
    (ranges : List Range) → IsFollowed (flat_from text storage locals) i (locals i)
    → is_live (locals i).attempt ≡ true
    → fate_by_progress text storage (locals i).attempt ≡ Goes instr ranges
    → (executed instr ranges (beside_in storage locals i)).told ≡ done.Stepped
    → GoesOnAs text storage locals i (executed instr ranges (beside_in storage locals i)).after
going_leaves text storage locals i instr ranges is live h told =
    let f = flat_from text storage locals in
    let b = beside_in storage locals i in
    let q = (locals i).attempt in
    let e = executed_live instr ranges b live in
    let follows = live_follows f i q.count instr is.opens live in
    subst (λ (e : Executed). GoesOnAs text storage locals i e.after) (sym e)
    (by (outcome_by storage instr ranges q) follows refl (sym (ap (λ x. x.told) e) ∙ told))
  where
    closed : (c : Cpu) (bytes : List ℕ) (nest : List Begin)
        → Advances (run (flat_from text storage locals) i (next_of (locals i) instr ranges c bytes).count)
        instr ranges c bytes (locals i).attempt (mark_in nest)
        → (closed_by (next_of (locals i) instr ranges c bytes) nest (beside_in storage locals i)).told
        ≡ done.Stepped
        → GoesOnAs text storage locals i
        (closed_by (next_of (locals i) instr ranges c bytes) nest (beside_in storage locals i)).after
    closed c bytes [] more t = absurd (cc)
    closed c bytes (outermost ∷ inner) more t =
        goes_on_as text storage locals i (next_of (locals i) instr ranges c bytes) more.progress more.mark
        (is.acts live) refl

    by : (o : Outcome) → may_follow (run (flat_from text storage locals) i (locals i).attempt.count).nest
        instr
        ≡ true → outcome_by storage instr ranges (locals i).attempt ≡ o
        → (inside instr ranges (beside_in storage locals i) o).told ≡ done.Stepped
        → GoesOnAs text storage locals i (inside instr ranges (beside_in storage locals i) o).after
    by (Did c bytes) follows o t =
        closed c bytes (next_of (locals i) instr ranges c bytes).nest
        (one_more (flat_from text storage locals) i (locals i) instr ranges c bytes is h follows o) t
    by (outcome.Overflowed c bytes) follows o t = absurd (cc)
    by Divides follows o t = absurd (cc)
    by (Aborts code) follows o t = absurd (cc)

-- ---- a transaction is committed

abbrev number_in : Done → ℕ
number_in (done.Committed n) = n
number_in done.Stepped = 0
number_in (done.Paused turns) = 0
number_in done.Began = 0
number_in (done.Interrupted code) = 0
number_in (done.Ended why) = 0

commits : (text : List ℕ) (storage : Storage) (locals : ℕ → Local) (i n : ℕ) (next : Progress)
    → progress_of (run (flat_from text storage locals) i n) ≡ next
    → (run (flat_from text storage locals) i n).mark ≡ Committed
    → may_act (flat_from text storage locals) i ≡ true
    → Leaves text storage locals i (Commit i n) (committed next (beside_in storage locals i))
unfolding apply progress_of
commits text storage locals i n next e marked acts =
    let f = flat_from text storage locals in
    let p = run f i n in
    let after = committed next (beside_in storage locals i) in
    let cpu : p.cpu ≡ next.cpu = ap (λ x. x.cpu) e in
    let bytes : p.copy ≡ after.storage =
    progress_seen f i n ∙ ap (λ (x : Progress). seen_through x.overlay storage) e in
    let cpus = ap (at_put (λ j. (locals j).cpu) i) cpu ∙ put_part (λ l. l.cpu) locals i after.local in
    let blocks = same_part (λ l. l.pending) locals i after.local refl in
    let interruptions = same_part (λ l. l.waiting) locals i after.local refl in
    record {
      applied = (λ k. only_where (acts k) (after_commit f i p (marked k)))
          ∙ ap Some (λ k. record {
            storage = bytes k;
            text = text;
            cpus = cpus k;
            pending = blocks k;
            waiting = interruptions k;
          });
      followed = left_at_rest text locals i after refl;
      rests = refl;
    }

pub commit_leaves : (text : List ℕ) (storage : Storage) (locals : ℕ → Local) (i n : ℕ) (instr : Instr)
    (ranges : List Range) → IsFollowed (flat_from text storage locals) i (locals i)
    → is_live (locals i).attempt ≡ true
    → fate_by_progress text storage (locals i).attempt ≡ Goes instr ranges
    → (executed instr ranges (beside_in storage locals i)).told ≡ done.Committed n
    → Leaves text storage locals i (Commit i n) (executed instr ranges (beside_in storage locals i)).after
commit_leaves text storage locals i n instr ranges is live h told =
    let f = flat_from text storage locals in
    let b = beside_in storage locals i in
    let q = (locals i).attempt in
    let e = executed_live instr ranges b live in
    let follows = live_follows f i q.count instr is.opens live in
    subst (λ (e : Executed). Leaves text storage locals i (Commit i n) e.after) (sym e)
    (by (outcome_by storage instr ranges q) follows refl (sym (ap (λ x. x.told) e) ∙ told))
  where
    closed : (c : Cpu) (bytes : List ℕ) (nest : List Begin)
        → Advances (run (flat_from text storage locals) i (next_of (locals i) instr ranges c bytes).count)
        instr ranges c bytes (locals i).attempt (mark_in nest)
        → (closed_by (next_of (locals i) instr ranges c bytes) nest (beside_in storage locals i)).told
        ≡ done.Committed n
        → Leaves text storage locals i (Commit i n)
        (closed_by (next_of (locals i) instr ranges c bytes) nest (beside_in storage locals i)).after
    closed c bytes [] more t =
        subst (λ m. Leaves text storage locals i (Commit i m)
        (committed (next_of (locals i) instr ranges c bytes) (beside_in storage locals i))) (ap number_in t)
        (commits text storage locals i (next_of (locals i) instr ranges c bytes).count
        (next_of (locals i) instr ranges c bytes) more.progress more.mark (is.acts live))
    closed c bytes (outermost ∷ inner) more t = absurd (cc)

    by : (o : Outcome) → may_follow (run (flat_from text storage locals) i (locals i).attempt.count).nest
        instr
        ≡ true → outcome_by storage instr ranges (locals i).attempt ≡ o
        → (inside instr ranges (beside_in storage locals i) o).told ≡ done.Committed n
        → Leaves text storage locals i (Commit i n) (inside instr ranges (beside_in storage locals i) o).after
    by (Did c bytes) follows o t =
        closed c bytes (next_of (locals i) instr ranges c bytes).nest
        (one_more (flat_from text storage locals) i (locals i) instr ranges c bytes is h follows o) t
    by (outcome.Overflowed c bytes) follows o t = absurd (cc)
    by Divides follows o t = absurd (cc)
    by (Aborts code) follows o t = absurd (cc)

-- ---- what the run shows

told_by : (text : List ℕ) (storage : Storage) (locals : ℕ → Local) (i : ℕ) (c : Cpu) (bytes : List ℕ)
    (instr : Instr) (ranges : List Range) (nest : List Begin)
    → Advances (run (flat_from text storage locals) i (next_of (locals i) instr ranges c bytes).count) instr
    ranges c bytes (locals i).attempt (mark_in nest)
    → let e : Executed = closed_by (next_of (locals i) instr ranges c bytes) nest (beside_in storage locals
    i) in
    RunTells text (run (flat_from text storage locals) i (locals i).attempt.count)
    (run (flat_from text storage locals) i (suc (locals i).attempt.count)) (locals i).attempt.count e.after
    e.told
told_by text storage locals i c bytes instr ranges [] more =
    let n : suc (locals i).attempt.count ≡ (locals i).attempt.count + 1 = omega arith in
    (refl, ap (λ m. (run (flat_from text storage locals) i m).mark) n ∙ more.mark)
told_by text storage locals i c bytes instr ranges (outermost ∷ inner) more =
    let n : suc (locals i).attempt.count ≡ (locals i).attempt.count + 1 = omega arith in
    ap (λ m. (run (flat_from text storage locals) i m).mark) n ∙ more.mark

pub completed_tells : (text : List ℕ) (storage : Storage) (locals : ℕ → Local) (i : ℕ) (instr : Instr)
    (ranges : List Range) (c : Cpu) (bytes : List ℕ)
    → IsFollowed (flat_from text storage locals) i (locals i)
    → is_live (locals i).attempt ≡ true
    → fate_by_progress text storage (locals i).attempt ≡ Goes instr ranges
    → outcome_by storage instr ranges (locals i).attempt ≡ Did c bytes
    → let e : Executed = inside instr ranges (beside_in storage locals i) (Did c bytes) in
    RunTells text (run (flat_from text storage locals) i (locals i).attempt.count)
    (run (flat_from text storage locals) i (suc (locals i).attempt.count)) (locals i).attempt.count e.after
    e.told
completed_tells text storage locals i instr ranges c bytes is live h came =
    let f = flat_from text storage locals in
    told_by text storage locals i c bytes instr ranges (next_of (locals i) instr ranges c bytes).nest
    (one_more f i (locals i) instr ranges c bytes is h
    (live_follows f i (locals i).attempt.count instr is.opens live) came)
