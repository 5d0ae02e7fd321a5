-- In every state that a history leaves, a CPU that is interrupted has an interruption to take, where it has a
-- prefix, and a CPU that runs has none.
use Rattle.std.proofs.Common.{◌≡◌, ℕ, zero, suc, Bool, true, false, List, [], ◌∷◌, Option, Some, None}
use Rattle.std.proofs.Common.{is_some}
use Rattle.std.proofs.Common.{refl, sym, ap, subst, ◌∙◌}
use Rattle.std.specs.Prelude.{◌&&◌, not, All, nat_lt, is_none}
use Rattle.std.proofs.lemmas.Bool.{cases_eq, and_parts}
use Rattle.std.proofs.lemmas.List.Elements.{All-head, All-tail}
use borrow.Enum.Arm.{by_way}
use Rattle.z_regs.specs.Cpu.{Cpu}
use Rattle.z_regs.specs.Psw.{loaded, running_where}
use Rattle.z_regs.specs.declared.image.RunState.{RunState}
use Rattle.z_regs.specs.declared.image.RunState.TheVariants.{Running, Halted, Interrupted}
use Rattle.z_regs.specs.declared.ranges.Range.{Range}
use Rattle.z_regs.specs.declared.waiting.Waiting.{Waiting}
use Rattle.z_instr.specs.declared.instr.Instr.{Instr}
use Rattle.z_instr.specs.Table.{entry_at}
use Rattle.z_instr.specs.Roles.{begins}
use Rattle.z_effect.specs.One.{length_of}
use Rattle.z_effect.specs.After.{cpu_after}
use Rattle.z_effect.specs.Outcome.{Outcome, Did, Divides, Aborts}
use Rattle.z_effect.specs.Outcome as outcome
use Rattle.tx_control.specs.declared.causes.Why.{Why}
use Rattle.tx_control.specs.declared.causes.Why.TheVariants.{External, Program, FetchConflict}
use Rattle.tx_control.specs.declared.causes.Why.TheVariants.{StoreConflict, FetchOverflow, StoreOverflow}
use Rattle.tx_control.specs.declared.causes.Why.TheVariants.{Restricted, Filtered, Depth, Starved, Tabort}
use Rattle.tx_journal.specs.Content.{Content}
use Rattle.tx_journal.specs.Image.{IsImage, IsStarting}
use Rattle.tx_journal.specs.declared.entries.Entry.{Entry}
use Rattle.tx_journal.specs.declared.entries.Entry.TheVariants.{Step, Commit, Abort, Tdb, Interrupt}
use Rattle.tx_serial.specs.Flat.{FlatState, Pending, at_put, operand_bytes}
use Rattle.tx_serial.specs.Attempt.{Mark, Open, Committed, Overflowed, Missing}
use Rattle.tx_serial.specs.Changes.{cpu_of_entry}
use Rattle.tx_serial.specs.Fate.{Fate, Goes, Ends, Stops, fate}
use Rattle.tx_serial.specs.Run.{run, outcome_of}
use Rattle.tx_serial.specs.Remains.{remains, waiting_with, interrupted_after, waiting_after}
use Rattle.tx_serial.specs.Apply.{apply, only_where, may_act, is_running, after_step, with_outcome}
use Rattle.tx_serial.specs.Apply.{after_commit}
use Rattle.tx_serial.specs.Apply.{after_block, after_interruption}
use Rattle.tx_serial.specs.Ending.{fits}
use Rattle.tx_serial.specs.History.{start_of, replay, replay_from, cpu_at}
use Rattle.tx_serial.proofs.Entries.{at_put_same, entry_changes, replay_none}
use Rattle.tx_keeping.proofs.Interrupted.{is_interrupted, run_stays, keeps_running}

-- of one CPU, with what waits for it
pub record Awaits (c : Cpu) (w : Option Waiting) : Type 0 where
  pub awaited : (code first : ℕ) → c.state ≡ Interrupted code → c.prefix ≡ Some first → is_some w ≡ true
  pub stopped : (x : Waiting) → w ≡ Some x → is_running c.state ≡ false

abbrev pub AllAwait : FlatState → Type 0
AllAwait f = (i : ℕ) → Awaits (f.cpus i) (f.waiting i)

-- ---- one CPU

not_interrupted : (state : RunState) (code : ℕ) → is_interrupted state ≡ false → state ≡ Interrupted code → ⊥
not_interrupted state code h e = let x : false ≡ true = sym h ∙ ap is_interrupted e in cc

-- a CPU that is not interrupted, for which nothing waits
quiet : (c : Cpu) → is_interrupted c.state ≡ false → Awaits c None
quiet c h = record {
  awaited = λ code first e p. absurd (not_interrupted c.state code h e);
  stopped = λ x e. absurd (let n : None ≡ Some x = e in cc);
}

-- a CPU that is interrupted
stops : (c : Cpu) (code length : ℕ) (prefix : Option ℕ) (bytes : Option (List ℕ)) → c.state ≡ Interrupted code
    → c.prefix ≡ prefix → Awaits c (waiting_with prefix length bytes)
stops c code length None bytes is same = record {
  awaited = λ other first e p. absurd (let n : None ≡ Some first = sym same ∙ p in cc);
  stopped = λ x e. absurd (let n : None ≡ Some x = e in cc);
}
stops c code length (Some at) bytes is same = record {
  awaited = λ other first e p. refl;
  stopped = λ x e. ap is_running is;
}

-- nothing waits for a CPU that runs
nothing_waits : (c : Cpu) (w : Option Waiting) → Awaits c w → is_running c.state ≡ true → w ≡ None
nothing_waits c None a h = refl
nothing_waits c (Some x) a h = absurd (let n : false ≡ true = sym (a.stopped x refl) ∙ h in cc)

runs_not_interrupted : (state : RunState) → is_running state ≡ true → is_interrupted state ≡ false
runs_not_interrupted Running h = refl
runs_not_interrupted Halted h = absurd (let n : false ≡ true = h in cc)
runs_not_interrupted (Interrupted code) h = absurd (let n : false ≡ true = h in cc)

-- ---- one entry

abbrev Left : ℕ → Option FlatState → Type 0
Left i None = Unit {0}
Left i (Some f) = Awaits (f.cpus i) (f.waiting i)

left_where : (i : ℕ) (b : Bool) (o : Option FlatState) → (b ≡ true → Left i o) → Left i (only_where b o)
left_where i true o h = h refl
left_where i false o h = tt

at_one : (f : FlatState) (i : ℕ) (c : Cpu) (w : Option Waiting) → Awaits c w
    → Awaits (at_put f.cpus i c i) (at_put f.waiting i w i)
at_one f i c w a =
    subst (λ c. Awaits c (at_put f.waiting i w i)) (sym (at_put_same f.cpus i c))
    (subst (Awaits c) (sym (at_put_same f.waiting i w)) a)

-- where the CPU alone changes
at_cpu : (f : FlatState) (i : ℕ) (c : Cpu) → Awaits c (f.waiting i)
    → Awaits (at_put f.cpus i c i) (f.waiting i)
at_cpu f i c a = subst (λ c. Awaits c (f.waiting i)) (sym (at_put_same f.cpus i c)) a

record Acts (f : FlatState) (i : ℕ) : Type 0 where
  runs : is_running (f.cpus i).state ≡ true
  none : f.waiting i ≡ None

acts_from : (f : FlatState) (i : ℕ) → AllAwait f → may_act f i ≡ true → Acts f i
acts_from f i all h =
    let runs = (and_parts (is_running (f.cpus i).state) (is_none (f.pending i)) h).0 in
    record { runs = runs; none = nothing_waits (f.cpus i) (f.waiting i) (all i) runs }

-- a CPU that has not been interrupted, where nothing waited
still_quiet : (f : FlatState) (i : ℕ) (c : Cpu) → Acts f i → is_interrupted c.state ≡ false
    → Awaits (at_put f.cpus i c i) (f.waiting i)
still_quiet f i c acts h = at_cpu f i c (subst (Awaits c) (sym acts.none) (quiet c h))

outcome_left : (f : FlatState) (i : ℕ) (instr : Instr) (ranges : List Range) (o : Outcome) → AllAwait f
    → Acts f i
    → o ≡ outcome_of instr ranges (run f i 0)
    → Left i (Some (with_outcome f i instr ranges o))
unfolding run
outcome_left f i instr ranges (Did c bytes) all acts e =
    still_quiet f i c acts
    (subst (λ o. is_interrupted (cpu_after (f.cpus i) o).state ≡ false) (sym e)
    (keeps_running instr (f.cpus i) 0 (operand_bytes (f.cpus i).prefix f.storage ranges)
    (runs_not_interrupted (f.cpus i).state acts.runs)))
outcome_left f i instr ranges (outcome.Overflowed c bytes) all acts e =
    at_one f i _ _ (stops _ _ (length_of instr) _ None refl refl)
outcome_left f i instr ranges Divides all acts e =
    at_one f i _ _ (stops _ _ (length_of instr) _ None refl refl)
outcome_left f i instr ranges (Aborts code) all acts e = all i

step_left : (f : FlatState) (i : ℕ) (o : Fate) → AllAwait f → Acts f i → Left i (after_step f i o)
step_left f i (Goes instr ranges) all acts =
    left_where i (not (begins (entry_at instr.op.number))) _
    (λ e. outcome_left f i instr ranges (outcome_of instr ranges (run f i 0)) all acts refl)
step_left f i (Ends why) all acts = tt
step_left f i (Stops e) all acts = at_one f i _ _ (stops _ e.code e.length _ None refl refl)

commit_left : (f : FlatState) (i n : ℕ) (m : Mark) → Acts f i → Left i (after_commit f i (run f i n) m)
commit_left f i n Committed acts =
    still_quiet f i (run f i n).cpu acts (run_stays f i n (runs_not_interrupted (f.cpus i).state acts.runs))
commit_left f i n Open acts = tt
commit_left f i n Overflowed acts = tt
commit_left f i n Missing acts = tt

cause_left : (f : FlatState) (i : ℕ) (c : Cpu) (why : Why) (bytes : List ℕ) → is_interrupted c.state ≡ false
    → Awaits (interrupted_after why c) (waiting_after c.prefix bytes why)
cause_left f i c (Program e) bytes h = stops _ _ e.length c.prefix (Some bytes) refl refl
cause_left f i c External bytes h = quiet c h
cause_left f i c (FetchConflict line) bytes h = quiet c h
cause_left f i c (StoreConflict line) bytes h = quiet c h
cause_left f i c FetchOverflow bytes h = quiet c h
cause_left f i c StoreOverflow bytes h = quiet c h
cause_left f i c Restricted bytes h = quiet c h
cause_left f i c (Filtered e) bytes h = quiet c h
cause_left f i c Depth bytes h = quiet c h
cause_left f i c Starved bytes h = quiet c h
cause_left f i c (Tabort code) bytes h = quiet c h

remains_of : (f : FlatState) (i n : ℕ) (why : Why) → Acts f i → Left i (Some (remains f i (run f i n) why))
unfolding remains
remains_of f i n why acts =
    at_one f i _ _ (cause_left f i _ why _
    (run_stays f i n (runs_not_interrupted (f.cpus i).state acts.runs)))

block_left : (f : FlatState) (i : ℕ) (b : Option Pending) → AllAwait f → Left i (after_block f i b)
block_left f i None all = tt
block_left f i (Some b) all = all i

runs_or_halts : (b : Bool) → is_interrupted (running_where b) ≡ false
runs_or_halts true = refl
runs_or_halts false = refl

loaded_runs : (psw : List ℕ) (c : Cpu) → is_interrupted (loaded psw c).state ≡ false
unfolding loaded
loaded_runs psw c = runs_or_halts _

interruption_left : (f : FlatState) (i : ℕ) (b : Option Pending) (w : Option Waiting)
    → Left i (after_interruption f i b w)
interruption_left f i (Some b) w = tt
interruption_left f i None None = tt
interruption_left f i None (Some w) = at_one f i _ None (quiet _ (loaded_runs _ (f.cpus i)))

entry_left : (f : FlatState) (e : Entry) → AllAwait f → Left (cpu_of_entry e) (apply f e)
unfolding apply
entry_left f (Step i) all =
    left_where i (may_act f i) _ (λ h. step_left f i (fate f.text (run f i 0)) all (acts_from f i all h))
entry_left f (Commit i n) all =
    left_where i (may_act f i) _ (λ h. commit_left f i n (run f i n).mark (acts_from f i all h))
entry_left f (Abort i n why) all =
    left_where i (may_act f i && (nat_lt 0 n && fits f.text (run f i n) why)) _
    (λ h. remains_of f i n why (acts_from f i all (and_parts (may_act f i) _ h).0))
entry_left f (Tdb i) all = block_left f i (f.pending i) all
entry_left f (Interrupt i) all = interruption_left f i (f.pending i) (f.waiting i)

entry_awaits : (f after : FlatState) (e : Entry) → AllAwait f → apply f e ≡ Some after → AllAwait after
entry_awaits f after e all h j =
    let i = cpu_of_entry e in
    let only = entry_changes f after e h in
    by_way (cases_eq j i)
    (λ own. subst (λ k. Awaits (after.cpus k) (after.waiting k)) (sym own)
    (subst (Left i) h (entry_left f e all)))
    (λ ne. subst (λ c. Awaits c (after.waiting j)) (sym (only.cpus j ne))
    (subst (Awaits (f.cpus j)) (sym (only.waiting j ne)) (all j)))

-- ---- a history

starts_quiet : (cs : List Cpu) → All IsStarting cs → (i : ℕ) → is_interrupted (cpu_at cs i).state ≡ false
starts_quiet [] all i = refl
starts_quiet (c ∷ cs) all zero = ap is_interrupted (All-head IsStarting c cs all).runs
starts_quiet (c ∷ cs) all (suc i) = starts_quiet cs (All-tail IsStarting c cs all) i

start_awaits : (image : Content) → IsImage image → AllAwait (start_of image)
unfolding start_of
start_awaits image is i = quiet (cpu_at image.cpus i) (starts_quiet image.cpus is.starting i)

after_one : (rest : List Entry) (after : FlatState) (o : Option FlatState)
    → ((g : FlatState) → o ≡ Some g → replay_from rest (Some g) ≡ Some after → AllAwait after)
    → replay_from rest o ≡ Some after → AllAwait after
after_one rest after None more h = absurd (let n : None ≡ Some after = sym (replay_none rest) ∙ h in cc)
after_one rest after (Some g) more h = more g refl h

after_entries : (history : List Entry) (f after : FlatState) → AllAwait f
    → replay_from history (Some f) ≡ Some after
    → AllAwait after
unfolding replay_from
after_entries [] f after all h = let same : f ≡ after = cc in subst AllAwait same all
after_entries (e ∷ rest) f after all h =
    after_one rest after (apply f e) (λ g some more. after_entries rest g after
    (entry_awaits f g e all some) more) h

pub replay_awaits : (image : Content) (history : List Entry) (f : FlatState) → IsImage image
    → replay image history ≡ Some f → AllAwait f
replay_awaits image history f is h = after_entries history (start_of image) f (start_awaits image is) h

pub awaits_at : (f : FlatState) → AllAwait f → (i : ℕ) → Awaits (f.cpus i) (f.waiting i)
awaits_at f all i = all i
