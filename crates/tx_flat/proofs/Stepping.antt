-- One instruction outside transactions, and states before and after it.
use Rattle.std.proofs.Common.{◌≡◌, ℕ, true, false, List, Some, None}
use Rattle.std.proofs.Common.{sym, ap, subst, ◌∙◌, length}
use Rattle.std.specs.Prelude.{not, Result, Ok, Err}
use Rattle.z_regs.specs.Cpu.{Cpu, cpu_of}
use Rattle.z_regs.specs.Prefix.{storage_size}
use Rattle.z_regs.specs.Seen.{seen_by}
use Rattle.z_regs.specs.declared.ranges.Range.{Range}
use Rattle.z_instr.specs.declared.instr.Instr.{Instr}
use Rattle.z_instr.specs.Roles.{begins}
use Rattle.z_instr.specs.Table.{entry_at}
use Rattle.z_effect.specs.After.{AreInside, ranges_of, storage_after, cpu_after, with_stored}
use Rattle.z_effect.specs.Interrupted.{interrupted_by, cpu_outside}
use Rattle.z_effect.specs.One.{length_of}
use Rattle.z_effect.specs.Outcome.{Outcome, Did, Divides, Aborts}
use Rattle.z_effect.specs.Outcome as outcome
use Rattle.tx_control.specs.declared.exceptions.Exception.{Exception}
use Rattle.tx_journal.specs.declared.entries.Entry.TheVariants.{Step}
use Rattle.tx_serial.specs.Apply.{apply, only_where, may_act, after_step, with_outcome}
use Rattle.tx_serial.specs.Attempt.{Run, at_rest}
use Rattle.tx_serial.specs.Fate.{Fate, Goes, Stops, Passes, fate, operands}
use Rattle.tx_serial.specs.Flat.{Storage, FlatState, at_put, bytes_of, laid_over, operand_stores}
use Rattle.tx_serial.specs.Remains.{waiting_with}
use Rattle.tx_serial.specs.Run.{run as runs, outcome_of}
use Rattle.tx_serial.proofs.Passing.{goes_where_passes}
use Rattle.tx_private.specs.declared.attempt.Attempt.{Attempt}
use Rattle.tx_private.specs.declared.execution.Completion.{Completion}
use Rattle.tx_private.specs.declared.execution.Completion.TheVariants as completion
use Rattle.tx_flat.specs.declared.slot.ApplyFault.{ApplyFault}
use Rattle.tx_flat.specs.declared.slot.ApplyFault.TheVariants.{Memory, Misfit}
use Rattle.tx_flat.specs.declared.slot.Slot.{Slot}
use Rattle.tx_private.specs.Bytes.{function_of}
use Rattle.tx_private.specs.Done.{IsExecuted, completion_of, outcome_at}
use Rattle.tx_flat.specs.Outside.{HasStopped, HasEnded, IsPerformed, cpu_ended, waiting_ended}
use Rattle.tx_private.specs.Shows.{Shows}
use Rattle.tx_flat.specs.Slots.{Holds, holding, pending_of, IsApplied}
use Rattle.tx_flat.proofs.Applied.{held, put_back, seen_back}
use Rattle.tx_private.proofs.Inside.{inside}
use Rattle.tx_private.proofs.Fetched.{copy_size}
use Rattle.tx_private.proofs.Laid.{listed, ends}
use Rattle.tx_private.proofs.Settled.{same_outcome, stored_copy, ends_still}

-- ---- what an instruction leaves

-- what is known of an instruction that was performed on this storage and slot
pub record Performed (i : Instr) (s t : List ℕ) (old new : Slot) (seen seen_after : List ℕ) (after : Cpu)
    (done : Completion) : Type 0 where
  pub size : length s ≡ storage_size
  pub copy : seen ≡ seen_by old.image.prefix s
  pub inside : AreInside (ranges_of i (cpu_of old.image)) seen
  pub executed : IsExecuted 0 i (cpu_of old.image) after seen seen_after done
  pub again : t ≡ seen_by old.image.prefix seen_after
  pub ended : HasEnded (length_of i) done after old new

module _ (i : Instr) (s t : List ℕ) (old new : Slot) (seen seen_after : List ℕ) (after : Cpu)
    (done : Completion) (h : Performed i s t old new seen seen_after after done) where
  abbrev here : Cpu
  here = cpu_of old.image

  abbrev resting : Run
  resting = at_rest (function_of s) here

  same_doing : outcome_at 0 i here seen ≡ outcome_of i (operands i here) resting
  same_doing = same_outcome i resting seen old.image.prefix_in
      (h.copy ∙ ap (seen_by old.image.prefix) (sym (listed s h.size))) h.inside

  -- the stores of the operands
  stored : (bytes : List ℕ) → seen_after ≡ with_stored (ranges_of i here) bytes seen
      → function_of t ≡ laid_over (function_of s) (operand_stores old.image.prefix (operands i here) bytes)
  stored bytes e =
      let ok = old.image.prefix_in in
      let copy : seen ≡ seen_by old.image.prefix (bytes_of (function_of s)) =
      h.copy ∙ ap (seen_by old.image.prefix) (sym (listed s h.size)) in
      let x = laid_over (function_of s) (operand_stores old.image.prefix (operands i here) bytes) in
      seen_back x old.image.prefix seen_after t ok
      (e ∙ stored_copy i resting (function_of s) seen bytes ok copy h.inside)
      (ends_still i resting (function_of s) seen bytes ok (copy_size seen resting ok copy) h.inside (ends s
      h.size))
      h.again

  stored_in : (f : FlatState) (k : ℕ) (text : List ℕ) → Holds f k s text old → (bytes : List ℕ)
      → seen_after ≡ with_stored (ranges_of i here) bytes seen
      → function_of t ≡ laid_over f.storage (operand_stores (f.cpus k).prefix (operands i here) bytes)
  stored_in f k text holds bytes e =
      stored bytes e
      ∙ ap (λ x. laid_over x (operand_stores old.image.prefix (operands i here) bytes)) (sym holds.storage)
      ∙ ap (λ (c : Cpu). laid_over f.storage (operand_stores c.prefix (operands i here) bytes)) (sym holds.cpu)

  still_pending : (f : FlatState) (k : ℕ) (text : List ℕ) → Holds f k s text old
      → at_put f.pending k (pending_of new.pending) ≡ f.pending
  still_pending f k text holds =
      put_back f.pending k (pending_of new.pending) (holds.pending ∙ ap pending_of (sym h.ended.pending))

  -- nothing is stored
  unstored : seen_after ≡ seen → function_of t ≡ function_of s
  unstored e =
      seen_back (function_of s) old.image.prefix seen_after t old.image.prefix_in
      (e ∙ h.copy ∙ ap (seen_by old.image.prefix) (sym (listed s h.size))) (ends s h.size) h.again

  -- by its outcome
  left_by : (f : FlatState) (k : ℕ) (text : List ℕ) → Holds f k s text old → (o : Outcome)
      → outcome_at 0 i here seen ≡ o
      → with_outcome f k i (operands i here) o ≡ holding f k t new
  left_by f k text holds (Did c bytes) e =
      let same : done ≡ completion_of (Did c bytes) = h.executed.answer ∙ ap completion_of e in
      let cpu : cpu_of new.image ≡ c =
      h.ended.cpu ∙ ap (λ d. cpu_ended (length_of i) d after) same ∙ h.executed.image
      ∙ ap (cpu_after here) e in
      held f k t new
      (laid_over f.storage (operand_stores (f.cpus k).prefix (operands i here) bytes))
      (at_put f.cpus k c) f.pending f.waiting
      (stored_in f k text holds bytes (h.executed.storage ∙ ap (storage_after (ranges_of i here) seen) e))
      (ap (at_put f.cpus k) cpu)
      (still_pending f k text holds)
      (put_back f.waiting k new.waiting
      (holds.waiting ∙ sym (h.ended.waiting ∙ ap (λ d. waiting_ended (length_of i) d after old.waiting) same)))
  left_by f k text holds (outcome.Overflowed c bytes) e =
      let same : done ≡ completion_of (outcome.Overflowed c bytes) = h.executed.answer ∙ ap completion_of e in
      let behind : after ≡ c = h.executed.image ∙ ap (cpu_after here) e in
      held f k t new
      (laid_over f.storage (operand_stores (f.cpus k).prefix (operands i here) bytes))
      (at_put f.cpus k (cpu_outside (length_of i) (f.cpus k) (outcome.Overflowed c bytes))) f.pending
      (at_put f.waiting k (waiting_with c.prefix (length_of i) None))
      (stored_in f k text holds bytes (h.executed.storage ∙ ap (storage_after (ranges_of i here) seen) e))
      (ap (at_put f.cpus k)
      (h.ended.cpu ∙ ap (λ d. cpu_ended (length_of i) d after) same
      ∙ ap (cpu_ended (length_of i) completion.Overflowed) behind))
      (still_pending f k text holds)
      (ap (at_put f.waiting k)
      (h.ended.waiting ∙ ap (λ d. waiting_ended (length_of i) d after old.waiting) same
      ∙ ap (λ d. waiting_ended (length_of i) completion.Overflowed d old.waiting) behind))
  left_by f k text holds Divides e =
      let same : done ≡ completion_of Divides = h.executed.answer ∙ ap completion_of e in
      let behind : after ≡ f.cpus k = h.executed.image ∙ ap (cpu_after here) e ∙ sym holds.cpu in
      held f k t new f.storage
      (at_put f.cpus k (cpu_outside (length_of i) (f.cpus k) Divides)) f.pending
      (at_put f.waiting k (waiting_with (f.cpus k).prefix (length_of i) None))
      (unstored (h.executed.storage ∙ ap (storage_after (ranges_of i here) seen) e) ∙ sym holds.storage)
      (ap (at_put f.cpus k)
      (h.ended.cpu ∙ ap (λ d. cpu_ended (length_of i) d after) same
      ∙ ap (cpu_ended (length_of i) completion.Divides) behind))
      (still_pending f k text holds)
      (ap (at_put f.waiting k)
      (h.ended.waiting ∙ ap (λ d. waiting_ended (length_of i) d after old.waiting) same
      ∙ ap (λ d. waiting_ended (length_of i) completion.Divides d old.waiting) behind))
  left_by f k text holds (Aborts code) e =
      let same : done ≡ completion_of (Aborts code) = h.executed.answer ∙ ap completion_of e in
      held f k t new f.storage f.cpus f.pending f.waiting
      (unstored (h.executed.storage ∙ ap (storage_after (ranges_of i here) seen) e) ∙ sym holds.storage)
      (put_back f.cpus k (cpu_of new.image)
      (holds.cpu ∙ sym (h.ended.cpu ∙ ap (λ d. cpu_ended (length_of i) d after) same ∙ h.executed.image
      ∙ ap (cpu_after here) e)))
      (still_pending f k text holds)
      (put_back f.waiting k new.waiting
      (holds.waiting ∙ sym (h.ended.waiting ∙ ap (λ d. waiting_ended (length_of i) d after old.waiting) same)))

  -- on every state that has this storage and slot
  pub performs : (f : FlatState) (k : ℕ) (text : List ℕ) → Holds f k s text old
      → with_outcome f k i (operands i (f.cpus k))
      (outcome_of i (operands i (f.cpus k)) (at_rest f.storage (f.cpus k)))
      ≡ holding f k t new
  performs f k text holds =
      ap (λ (c : Cpu). with_outcome f k i (operands i c) (outcome_of i (operands i c) (at_rest f.storage c)))
      holds.cpu
      ∙ ap (λ (x : Storage). with_outcome f k i (operands i here)
      (outcome_of i (operands i here) (at_rest x here))) holds.storage
      ∙ left_by f k text holds (outcome_of i (operands i here) resting) same_doing

-- from what the calls ensure
pub performed : (i : Instr) (s t : List ℕ) (old new : Slot) (a : Attempt) (after : Cpu) (seen_after : List ℕ)
    (done : Completion) (n : ℕ)
    → length s ≡ storage_size → Shows (function_of s) a (at_rest (function_of s) (cpu_of old.image))
    → AreInside (ranges_of i (cpu_of a.image)) a.seen
    → IsExecuted 0 i (cpu_of a.image) after a.seen seen_after done
    → t ≡ seen_by old.image.prefix seen_after → n ≡ length_of i → HasEnded n done after old new
    → Performed i s t old new a.seen seen_after after done
performed i s t old new a after seen_after done n size shows inside executed again len ended = record {
  size = size;
  copy = shows.copy ∙ ap (seen_by old.image.prefix) (listed s size);
  inside = subst (λ (c : Cpu). AreInside (ranges_of i c) a.seen) (sym shows.cpu) inside;
  executed = subst (λ (c : Cpu). IsExecuted 0 i c after a.seen seen_after done) (sym shows.cpu) executed;
  again = again;
  ended = subst (λ m. HasEnded m done after old new) len ended;
}

-- ---- the entry

fate_here : (f : FlatState) (k : ℕ) (s text : List ℕ) (old : Slot) → Holds f k s text old
    → fate f.text (at_rest f.storage (f.cpus k)) ≡ fate text (at_rest (function_of s) (cpu_of old.image))
fate_here f k s text old holds =
    ap (λ x. fate x (at_rest f.storage (f.cpus k))) holds.text
    ∙ ap (λ (x : Storage). fate text (at_rest x (f.cpus k))) holds.storage
    ∙ ap (λ (c : Cpu). fate text (at_rest (function_of s) c)) holds.cpu

-- by the fate of the next instruction
pub step_by : (f : FlatState) (k : ℕ) (s text : List ℕ) (old : Slot) (g : Fate) → Holds f k s text old
    → may_act f k ≡ true → fate text (at_rest (function_of s) (cpu_of old.image)) ≡ g
    → apply f (Step k) ≡ after_step f k g
unfolding apply runs
step_by f k s text old g holds may is =
    ap (λ b. only_where b (after_step f k (fate f.text (at_rest f.storage (f.cpus k))))) may
    ∙ ap (after_step f k) (fate_here f k s text old holds ∙ is)

pub no_step : (f : FlatState) (k : ℕ) → may_act f k ≡ false → apply f (Step k) ≡ None
unfolding apply
no_step f k may = ap (λ b. only_where b (after_step f k (fate f.text (runs f k 0)))) may

-- an instruction that goes, and is no begin
after_going : (f : FlatState) (k : ℕ) (i : Instr) (ranges : List Range) → ranges ≡ operands i (f.cpus k)
    → begins (entry_at i.op.number) ≡ false
    → after_step f k (Goes i ranges)
    ≡ Some (with_outcome f k i (operands i (f.cpus k))
    (outcome_of i (operands i (f.cpus k)) (at_rest f.storage (f.cpus k))))
unfolding runs
after_going f k i ranges same begin =
    ap (λ b. only_where (not b) (Some (with_outcome f k i ranges (outcome_of i ranges (at_rest f.storage
    (f.cpus k)))))) begin
    ∙ ap (λ rs. Some (with_outcome f k i rs (outcome_of i rs (at_rest f.storage (f.cpus k))))) same

pub stepped : (f : FlatState) (k : ℕ) (s text t : List ℕ) (old new : Slot) (i : Instr) (ranges : List Range)
    → Holds f k s text old → may_act f k ≡ true
    → Passes text (at_rest (function_of s) (cpu_of old.image)) i ranges
    → begins (entry_at i.op.number) ≡ false
    → with_outcome f k i (operands i (f.cpus k))
    (outcome_of i (operands i (f.cpus k)) (at_rest f.storage (f.cpus k)))
    ≡ holding f k t new
    → apply f (Step k) ≡ Some (holding f k t new)
stepped f k s text t old new i ranges holds may passes begin done =
    let p = at_rest (function_of s) (cpu_of old.image) in
    step_by f k s text old (Goes i ranges) holds may (goes_where_passes text p i ranges passes)
    ∙ after_going f k i ranges (passes.touches ∙ ap (operands i) (sym holds.cpu)) begin
    ∙ ap (λ x. Some x) done

-- a begin does not fit
pub begun : (f : FlatState) (k : ℕ) (s text : List ℕ) (old : Slot) (i : Instr) (ranges : List Range)
    → Holds f k s text old → may_act f k ≡ true
    → Passes text (at_rest (function_of s) (cpu_of old.image)) i ranges
    → begins (entry_at i.op.number) ≡ true → apply f (Step k) ≡ None
begun f k s text old i ranges holds may passes begin =
    let p = at_rest (function_of s) (cpu_of old.image) in
    step_by f k s text old (Goes i ranges) holds may (goes_where_passes text p i ranges passes)
    ∙ ap (λ b. only_where (not b) (Some (with_outcome f k i ranges (outcome_of i ranges (runs f k 0))))) begin

-- an exception that interrupts the program
pub interrupted : (f : FlatState) (k : ℕ) (s text : List ℕ) (old new : Slot) (e : Exception)
    → Holds f k s text old → may_act f k ≡ true
    → fate text (at_rest (function_of s) (cpu_of old.image)) ≡ Stops e → HasStopped e old new
    → apply f (Step k) ≡ Some (holding f k s new)
interrupted f k s text old new e holds may is stops =
    step_by f k s text old (Stops e) holds may is
    ∙ ap (λ x. Some x)
    (held f k s new f.storage (at_put f.cpus k (interrupted_by e (f.cpus k))) f.pending
    (at_put f.waiting k (waiting_with (f.cpus k).prefix e.length None))
    (sym holds.storage)
    (ap (at_put f.cpus k) (stops.cpu ∙ ap (interrupted_by e) (sym holds.cpu)))
    (put_back f.pending k (pending_of new.pending) (holds.pending ∙ ap pending_of (sym stops.pending)))
    (ap (at_put f.waiting k)
    (stops.waiting ∙ ap (λ (c : Cpu). waiting_with c.prefix e.length None) (sym holds.cpu))))

-- as its call answers
pub stepped_as : (s text t : List ℕ) (old new : Slot) (i : Instr) (ranges : List Range)
    (r : Result (Unit {0}) ApplyFault)
    → ((f : FlatState) (k : ℕ) → Holds f k s text old → may_act f k ≡ true)
    → Passes text (at_rest (function_of s) (cpu_of old.image)) i ranges
    → begins (entry_at i.op.number) ≡ false → IsPerformed i s t old new r
    → IsApplied (λ f k. apply f (Step k)) text s t old new r
stepped_as s text t old new i ranges (Ok u) may passes begin h = λ f k holds.
    stepped f k s text t old new i ranges holds (may f k holds) passes begin (h f k text holds)
stepped_as s text t old new i ranges (Err Misfit) may passes begin h = absurd h
stepped_as s text t old new i ranges (Err Memory) may passes begin h = h
