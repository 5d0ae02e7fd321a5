-- What is left of a CPU and of storage when an attempt is aborted, a block is stored, an interruption is
-- taken, or a program outside transactions is stopped.
use Rattle.std.proofs.Common.{◌≡◌, ℕ, ◌+◌, true, false, List, [], ◌∷◌, Option, Some, None}
use Rattle.std.proofs.Common.{refl, sym, ap, subst, ◌∙◌}
use Rattle.std.specs.Prelude.{if◌then◌else◌, ◌&&◌, is_none}
use Rattle.std.proofs.lemmas.Bool.{true≢false, and_parts, false_from_ne_true}
use Rattle.z_regs.specs.Cpu.{Cpu}
use Rattle.z_regs.specs.declared.waiting.Waiting.{Waiting}
use Rattle.tx_abort.specs.Block.{block}
use Rattle.tx_abort.specs.Causes.{cause_of}
use Rattle.tx_abort.specs.Registers.{with_restored}
use Rattle.z_effect.specs.One.{length_of}
use Rattle.tx_constraint.specs.Constraints as constraints
use Rattle.tx_control.specs.declared.begins.Begin.{Begin}
use Rattle.tx_control.specs.Nesting.{is_constrained, outermost_mask, outermost_block}
use Rattle.tx_control.specs.declared.causes.Why.{Why}
use Rattle.tx_control.specs.declared.exceptions.Exception.{Exception}
use Rattle.tx_serial.specs.Entry.TheVariants.{Step, Abort, Tdb, Interrupt}
use Rattle.tx_serial.specs.Apply.{apply, only_where, may_act, is_running, after_block, after_interruption}
use Rattle.tx_serial.specs.Apply.{after_step}
use Rattle.tx_serial.specs.Attempt.{Run, last_step}
use Rattle.tx_serial.specs.Ending.{fits}
use Rattle.tx_serial.specs.Fate.{Stops, fate}
use Rattle.tx_serial.specs.Flat.{Storage, FlatState, Pending, at_put}
use Rattle.tx_serial.specs.Remains.{remains, resumed_at, address_in, interrupted_after, pending_after}
use Rattle.tx_serial.specs.Remains.{waiting_after, cpu_after_abort}
use Rattle.tx_serial.specs.Run.{run}
use Rattle.tx_progress.specs.Followed.{beside_in, flat_after, Leaves}
use Rattle.tx_progress.specs.Local.{Local, Beside, flat_from, aborted, block_stored, interruption_taken}
use Rattle.tx_progress.specs.Local.{left_behind, storage_with, taken_by}
use Rattle.tx_progress.specs.Doing.{stopped}
use Rattle.tx_progress.specs.Progress.{Progress, resting, is_live}
use Rattle.tx_progress.specs.Reached.{progress_of, resumption_of, IsFollowed}
use Rattle.tx_progress.specs.Trial.{fate_by_progress}
use Rattle.tx_progress.proofs.SeenStores.{laid_is_seen}
use Rattle.tx_progress.proofs.Standing.{Stands, run_stands, is_begun_so}
use Rattle.tx_progress.proofs.Parts.{put_part, same_part, rests, left_at_rest, followed_fate, quiet_run}

-- ---- an abort

-- a CPU with another attempt
abbrev pub with_attempt : Progress → Local → Local
with_attempt q local = record local { attempt = q }

remains_seen : (text : List ℕ) (storage : Storage) (locals : ℕ → Local) (i : ℕ) (p : Run) (why : Why) (at : ℕ)
    → resumed_at (is_constrained p.nest) p.steps ≡ resumption_of p.steps
    → address_in p.mark (last_step p.steps) p.cpu.address ≡ at
    → remains (flat_from text storage locals) i p why
    ≡ flat_after text locals i
    (aborted why at record { local = with_attempt (progress_of p) (locals i); storage = storage })
unfolding remains aborted progress_of
remains_seen text storage locals i p why at resumes told =
    let saved = (locals i).cpu in
    let left = left_behind saved (progress_of p) why at in
    let goes_on : cpu_after_abort saved p why ≡ left.cpu =
    ap (λ (a : ℕ). interrupted_after why (record (with_restored saved.general (outermost_mask p.nest) p.cpu) {
      address = a;
      condition = (cause_of why).condition;
    })) resumes in
    let bytes = ap (block why p.nest p.cpu.general) told in
    let cpus = ap (at_put (λ j. (locals j).cpu) i) goes_on ∙ put_part (λ l. l.cpu) locals i left in
    let blocks =
    ap (λ b. at_put (λ j. (locals j).pending) i (pending_after (outermost_block p.nest) b)) bytes
    ∙ put_part (λ l. l.pending) locals i left in
    let interruptions =
    ap (λ b. at_put (λ j. (locals j).waiting) i (waiting_after p.cpu.prefix b why)) bytes
    ∙ put_part (λ l. l.waiting) locals i left in
    λ k. record {
      storage = laid_is_seen p.lasting storage k;
      text = text;
      cpus = cpus k;
      pending = blocks k;
      waiting = interruptions k;
    }

-- with its progress by another name
pub remains_left : (text : List ℕ) (storage : Storage) (locals : ℕ → Local) (i : ℕ) (p : Run) (q : Progress)
    (why : Why) (at : ℕ) → progress_of p ≡ q
    → resumed_at (is_constrained p.nest) p.steps ≡ resumption_of p.steps
    → address_in p.mark (last_step p.steps) p.cpu.address ≡ at
    → remains (flat_from text storage locals) i p why
    ≡ flat_after text locals i
    (aborted why at record { local = with_attempt q (locals i); storage = storage })
remains_left text storage locals i p q why at e resumes told =
    remains_seen text storage locals i p why at resumes told
    ∙ ap (λ x. flat_after text locals i
    (aborted why at record { local = with_attempt x (locals i); storage = storage })) e

-- an attempt that is aborted leaves a CPU at rest
pub aborted_rests : (why : Why) (at : ℕ) (b : Beside)
    → (aborted why at b).local.attempt ≡ resting (aborted why at b).local.cpu
unfolding aborted
aborted_rests why at b = refl

-- where the program goes on, by the first instruction and by the nest
resumes : (c now : Cpu) (steps : List constraints.Step) (nest : List Begin) → Stands c now steps nest
    → resumed_at (is_constrained nest) steps ≡ resumption_of steps
resumes c now [] [] h = refl
resumes c now [] (b ∷ bs) h = absurd h
resumes c now (s ∷ ss) [] h = absurd h
resumes c now (s ∷ ss) (b ∷ bs) h =
    ap (λ x. if x then s.at else s.at + length_of s.instruction) (is_begun_so c s ss b bs h)

pub its_address : (p : Run) (q : Progress) → progress_of p ≡ q → p.cpu.address ≡ q.cpu.address
unfolding progress_of
its_address p q e = ap (λ (x : Progress). x.cpu.address) e

pub abort_leaves : (text : List ℕ) (storage : Storage) (locals : ℕ → Local) (i : ℕ) (why : Why)
    → IsFollowed (flat_from text storage locals) i (locals i) → is_live (locals i).attempt ≡ true
    → fits text (run (flat_from text storage locals) i (locals i).attempt.count) why ≡ true
    → Leaves text storage locals i (Abort i (locals i).attempt.count why)
    (aborted why (locals i).attempt.cpu.address (beside_in storage locals i))
unfolding apply
abort_leaves text storage locals i why is live fit =
    let f = flat_from text storage locals in
    let q = (locals i).attempt in
    let p = run f i q.count in
    let at = q.cpu.address in
    let told = ap (λ m. address_in m (last_step p.steps) p.cpu.address) is.opens ∙ its_address p q is.attempt
    in
    record {
      applied =
          (λ k. only_where (is.acts live k && (live k && fit k)) (Some (remains f i p why)))
          ∙ ap Some (remains_left text storage locals i p q why at is.attempt
          (resumes (f.cpus i) p.cpu p.steps p.nest (run_stands f i q.count is.opens)) told);
      followed = left_at_rest text locals i (aborted why at (beside_in storage locals i))
          (aborted_rests why at (beside_in storage locals i));
      rests = ap (λ q. q.count) (aborted_rests why at (beside_in storage locals i));
    }

-- ---- a block that is pending

no_block : (o : Option Pending) → is_none o ≡ true → o ≡ None
no_block None h = refl
no_block (Some b) h = absurd (true≢false (sym h))

pub has_no_block : (f : FlatState) (i : ℕ) → may_act f i ≡ true → f.pending i ≡ None
has_no_block f i h =
    no_block (f.pending i) (and_parts (is_running (f.cpus i).state) (is_none (f.pending i)) h).1

no_some : {A : Type 0} (b : Pending) → None ≡ Some b → A
no_some b e = absurd (cc)

-- while a block is pending nothing is live
pub quiet_with_block : (f : FlatState) (i : ℕ) (local : Local) (b : Pending) → IsFollowed f i local
    → local.pending ≡ Some b → is_live local.attempt ≡ false
quiet_with_block f i local b is e =
    false_from_ne_true (is_live local.attempt)
    (λ live. no_some b (sym (has_no_block f i (is.acts live)) ∙ is.pending ∙ e))

pub block_leaves : (text : List ℕ) (storage : Storage) (locals : ℕ → Local) (i : ℕ) (b : Pending)
    → IsFollowed (flat_from text storage locals) i (locals i) → (locals i).pending ≡ Some b
    → Leaves text storage locals i (Tdb i) (block_stored (beside_in storage locals i))
unfolding apply block_stored
block_leaves text storage locals i b is e =
    let f = flat_from text storage locals in
    let after = block_stored (beside_in storage locals i) in
    let bytes = ap (λ o. storage_with (locals i).cpu.prefix o storage) e in
    let cpus = same_part (λ l. l.cpu) locals i after.local refl in
    let blocks = put_part (λ l. l.pending) locals i after.local in
    let interruptions = same_part (λ l. l.waiting) locals i after.local refl in
    record {
      applied = ap (after_block f i) e
          ∙ ap Some (λ k. record {
            storage = sym bytes k;
            text = text;
            cpus = cpus k;
            pending = blocks k;
            waiting = interruptions k;
          });
      followed = left_at_rest text locals i after
          (rests f i (locals i) is (quiet_with_block f i (locals i) b is e));
      rests = ap (λ q. q.count) (rests f i (locals i) is (quiet_with_block f i (locals i) b is e));
    }

-- ---- an interruption that waits

taken_leaves : (text : List ℕ) (storage : Storage) (locals : ℕ → Local) (i : ℕ) (w : Waiting)
    → (locals i).pending ≡ None → (locals i).waiting ≡ Some w
    → Leaves text storage locals i (Interrupt i) (taken_by (Some w) (beside_in storage locals i))
unfolding apply
taken_leaves text storage locals i w none e =
    let f = flat_from text storage locals in
    let after = taken_by (Some w) (beside_in storage locals i) in
    let cpus = put_part (λ l. l.cpu) locals i after.local in
    let blocks = same_part (λ l. l.pending) locals i after.local refl in
    let interruptions = put_part (λ l. l.waiting) locals i after.local in
    record {
      applied = (λ k. after_interruption f i (none k) (e k))
          ∙ ap Some (λ k. record {
            storage = after.storage;
            text = text;
            cpus = cpus k;
            pending = blocks k;
            waiting = interruptions k;
          });
      followed = left_at_rest text locals i after refl;
      rests = refl;
    }

pub interruption_leaves : (text : List ℕ) (storage : Storage) (locals : ℕ → Local) (i : ℕ) (w : Waiting)
    → (locals i).pending ≡ None → (locals i).waiting ≡ Some w
    → Leaves text storage locals i (Interrupt i) (interruption_taken (beside_in storage locals i))
unfolding interruption_taken
interruption_leaves text storage locals i w none e =
    subst (λ o. Leaves text storage locals i (Interrupt i) (taken_by o (beside_in storage locals i))) (sym e)
    (taken_leaves text storage locals i w none e)

-- ---- an exception outside transactions

pub stop_leaves : (text : List ℕ) (storage : Storage) (locals : ℕ → Local) (i : ℕ) (e : Exception)
    → IsFollowed (flat_from text storage locals) i (locals i)
    → may_act (flat_from text storage locals) i ≡ true → is_live (locals i).attempt ≡ false
    → fate_by_progress text storage (locals i).attempt ≡ Stops e
    → Leaves text storage locals i (Step i) record { local = stopped e (locals i); storage = storage }
unfolding apply stopped
stop_leaves text storage locals i e is acts quiet h =
    let f = flat_from text storage locals in
    let stops : fate text (run f i 0) ≡ Stops e =
    ap (fate text) (quiet_run f i (locals i) quiet) ∙ followed_fate f i (locals i) is ∙ h in
    let left = stopped e (locals i) in
    let cpus = put_part (λ l. l.cpu) locals i left in
    let blocks = same_part (λ l. l.pending) locals i left refl in
    let interruptions = put_part (λ l. l.waiting) locals i left in
    record {
      applied = (λ k. only_where (acts k) (after_step f i (stops k)))
          ∙ ap Some (λ k. record {
            storage = storage;
            text = text;
            cpus = cpus k;
            pending = blocks k;
            waiting = interruptions k;
          });
      followed = left_at_rest text locals i record { local = left; storage = storage } refl;
      rests = refl;
    }
