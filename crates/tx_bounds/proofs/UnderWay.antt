-- What is kept of a CPU in the middle of a constrained transaction, and what an abort makes of it.
use Rattle.std.proofs.Common.{◌≡◌, ◌≢◌, ℕ, ◌+◌, ◌<◌, ◌≤◌, Bool, true, false, []}
use Rattle.std.proofs.Common.{None, refl, sym, ap, ◌∙◌, subst, arith}
use Rattle.std.specs.Prelude.{◌==◌, if◌then◌else◌, nat_lt}
use Rattle.std.proofs.lemmas.Bool.{eqb-true, eqb-false, true≢false}
use Rattle.z_regs.specs.Cpu.{Cpu}
use Rattle.z_instr.specs.declared.instr.Instr.{Instr}
use Rattle.z_instr.specs.declared.operand.Demand.TheVariants.{BeginConstrained}
use Rattle.z_instr.specs.Table.{entry_at}
use Rattle.tx_abort.specs.Causes.{cause_of}
use Rattle.tx_abort.specs.Registers.{with_restored}
use Rattle.tx_control.specs.Nesting.{outermost_block, outermost_mask}
use Rattle.tx_control.specs.declared.causes.Why.{Why}
use Rattle.tx_control.specs.declared.causes.Why.TheVariants.{External, Program, FetchConflict}
use Rattle.tx_control.specs.declared.causes.Why.TheVariants.{StoreConflict, FetchOverflow, StoreOverflow}
use Rattle.tx_control.specs.declared.causes.Why.TheVariants.{Restricted, Filtered, Depth, Starved, Tabort}
use Rattle.tx_ladder.specs.Parameters.{Parameters}
use Rattle.tx_ladder.specs.Rungs.{Standing, after_conflict, next_rung, delay_after}
use Rattle.tx_ladder.specs.declared.ladder.Next.{Next}
use Rattle.tx_ladder.specs.declared.ladder.Next.TheVariants as rung
use Rattle.tx_serial.specs.Apply.{is_running}
use Rattle.tx_serial.specs.Attempt.{at_rest}
use Rattle.tx_serial.specs.Fate.{Goes, fate}
use Rattle.tx_serial.specs.History.{start_of}
use Rattle.tx_progress.specs.Local.{Local, left_behind, block_at}
use Rattle.tx_meaning.specs.Limits.{Setting}
use Rattle.tx_meaning.specs.State.{Numbers, State}
use Rattle.tx_meaning.specs.Stretches.{is_end_by}
use Rattle.tx_meaning.specs.Changes.{without_attempt, after_cause, aborting, on_rung}
use Rattle.tx_keeping.specs.Kept.{Kept, text_of}
use Rattle.tx_keeping.specs.Moves.{standing_after}
use Rattle.tx_bounds.proofs.Again.{goes_again}
use Rattle.tx_bounds.proofs.Resuming.{Leads, interrupts_not, waits_not, no_pending}
use Rattle.tx_serial.proofs.Entries.{at_put_same}

-- ---- what is kept

abbrev pub lives : ℕ → Bool
lives completed = nat_lt 0 completed

-- the begin of the transaction goes where the CPU stands at rest, and nothing is left to be done; the CPU
-- waits as its rung says, and not in the queue
pub record Amid (m : Setting) (completed delay : ℕ) (st : Standing) (l : Local) : Type 0 where
  pub begin : Instr
  pub is : (entry_at begin.op.number).demand ≡ BeginConstrained
  pub goes : fate (text_of m) (at_rest (start_of m.image).storage l.cpu) ≡ Goes begin []
  pub pending : l.pending ≡ None
  pub waiting : l.waiting ≡ None
  pub kind : lives completed ≡ true → st.constrained ≡ true
  pub short : delay ≤ delay_after m.image.parms st.aborts
  pub queued : st.aborts ≡ m.image.parms.stop → delay ≡ 0
  pub running : lives completed ≡ false → is_running l.cpu.state ≡ true

-- and of every CPU: a live attempt waits no turns, and not so many of its requests were rejected that it
-- starves
pub record HoldsBelow (m : Setting) (most : ℕ) (busy : Bool) (completed delay : ℕ) (st : Standing) (l : Local)
    : Type 0 where
  pub parms : st.parms ≡ m.image.parms
  pub rests : lives completed ≡ true → delay ≡ 0
  pub fewer : lives completed ≡ true → st.constrained ≡ true → st.requests_rejected < most
  pub amid : busy ≡ true → Amid m completed delay st l

abbrev pub Holds : Setting → Bool → ℕ → ℕ → Standing → Local → Type 0
Holds m busy completed delay st l = HoldsBelow m m.image.parms.starve busy completed delay st l

abbrev pub AmidOf : Setting → ℕ → Kept → Type 0
AmidOf m c k = Amid m (k.state.numbers c).completed (k.state.numbers c).delay (k.standings c) (k.locals c)

abbrev pub HoldsOfBelow : Setting → ℕ → Bool → ℕ → Kept → Type 0
HoldsOfBelow m most busy c k =
    HoldsBelow m most busy (k.state.numbers c).completed (k.state.numbers c).delay (k.standings c)
    (k.locals c)

abbrev pub HoldsOf : Setting → Bool → ℕ → Kept → Type 0
HoldsOf m busy c k = HoldsOfBelow m m.image.parms.starve busy c k

-- ---- where nothing of it changes

pub record SameStanding (s t : Standing) : Type 0 where
  pub parms : t.parms ≡ s.parms
  pub aborts : t.aborts ≡ s.aborts
  pub constrained : t.constrained ≡ s.constrained
  pub refused : t.requests_rejected ≡ s.requests_rejected

pub record SameParts (l n : Local) : Type 0 where
  pub cpu : n.cpu ≡ l.cpu
  pub pending : n.pending ≡ l.pending
  pub waiting : n.waiting ≡ l.waiting

module _ (m : Setting) where
  pub amid_same : (a d b e : ℕ) (s t : Standing) (l n : Local) → lives b ≡ lives a → e ≡ d
      → t.aborts ≡ s.aborts
      → t.constrained ≡ s.constrained → SameParts l n → Amid m a d s l → Amid m b e t n
  amid_same a d b e s t l n live delay aborts constrained parts h = record {
    begin = h.begin;
    is = h.is;
    goes = subst (λ c. fate (text_of m) (at_rest (start_of m.image).storage c) ≡ Goes h.begin [])
        (sym parts.cpu) h.goes;
    pending = parts.pending ∙ h.pending;
    waiting = parts.waiting ∙ h.waiting;
    kind = λ x. constrained ∙ h.kind (sym live ∙ x);
    short = subst (λ x. e ≤ delay_after m.image.parms x) (sym aborts)
        (subst (λ x. x ≤ delay_after m.image.parms s.aborts) (sym delay) h.short);
    queued = λ x. delay ∙ h.queued (sym aborts ∙ x);
    running = λ off. ap (λ (c : Cpu). is_running c.state) parts.cpu ∙ h.running (sym live ∙ off);
  }

  pub holds_same : (busy : Bool) (a d b e : ℕ) (s t : Standing) (l n : Local) → lives b ≡ lives a → e ≡ d
      → SameStanding s t → SameParts l n → Holds m busy a d s l → Holds m busy b e t n
  holds_same busy a d b e s t l n live delay same parts h = record {
    parms = same.parms ∙ h.parms;
    rests = λ x. delay ∙ h.rests (sym live ∙ x);
    fewer = λ x k.
        subst (λ v. v < m.image.parms.starve) (sym same.refused)
        (h.fewer (sym live ∙ x) (sym same.constrained ∙ k));
    amid = λ o. amid_same a d b e s t l n live delay same.aborts same.constrained parts (h.amid o);
  }

  -- no live attempt, and no transaction under way
  pub holds_quiet : (b e : ℕ) (t : Standing) (n : Local) → t.parms ≡ m.image.parms → lives b ≡ false
      → Holds m false b e t n
  holds_quiet b e t n parms off = record {
    parms = parms;
    rests = λ x. absurd (true≢false (sym x ∙ off));
    fewer = λ x. absurd (true≢false (sym x ∙ off));
    amid = λ o. absurd (true≢false (sym o));
  }

  pub holds_less : (busy : Bool) (b e : ℕ) (t : Standing) (n : Local) → Holds m busy b e t n
      → Holds m false b e t n
  holds_less busy b e t n h = record {
    parms = h.parms;
    rests = h.rests;
    fewer = h.fewer;
    amid = λ o. absurd (true≢false (sym o));
  }

-- ---- an abort

-- what it makes of the conflict aborts and of the delay
pub data Rung (parms : Parameters) (aborts delay after later : ℕ) : Type 0 where
  Stays : after ≡ aborts → later ≡ delay → Rung parms aborts delay after later
  Waits : aborts + 1 ≢ parms.stop → after ≡ aborts + 1 → later ≡ delay_after parms (aborts + 1)
      → Rung parms aborts delay after later
  Joins : aborts + 1 ≡ parms.stop → after ≡ aborts + 1 → later ≡ delay → Rung parms aborts delay after later

abbrev next_by : Standing → Bool → Bool → Next
next_by st constrained full =
    if constrained
    then (if full then rung.Queue else rung.Delay (delay_after st.parms (st.aborts + 1))) else rung.Plain

rung_by : (i : ℕ) (st : Standing) (s : State) (constrained full : Bool)
    → (st.aborts + 1 == st.parms.stop) ≡ full
    → Rung st.parms st.aborts (s.numbers i).delay (if constrained then st.aborts + 1 else st.aborts)
    ((on_rung i (next_by st constrained full) s).numbers i).delay
rung_by i st s false full e = Stays refl refl
rung_by i st s true true e = Joins (eqb-true _ _ e) refl refl
rung_by i st s true false e =
    Waits (eqb-false _ _ e) refl (ap (λ (n : Numbers). n.delay) (at_put_same s.numbers i _))

conflict_rung : (i : ℕ) (st : Standing) (s : State)
    → Rung st.parms st.aborts (s.numbers i).delay (after_conflict st).aborts
    ((on_rung i (next_rung st) s).numbers i).delay
conflict_rung i st s = rung_by i st s st.constrained (st.aborts + 1 == st.parms.stop) refl

cause_rung : (i : ℕ) (st : Standing) (w : Why) (s : State) → is_end_by w ≡ false
    → Rung st.parms st.aborts (s.numbers i).delay (standing_after w st).aborts
    ((after_cause i st w s).numbers i).delay
cause_rung i st (FetchConflict line) s h = conflict_rung i st s
cause_rung i st (StoreConflict line) s h = conflict_rung i st s
cause_rung i st Starved s h = conflict_rung i st s
cause_rung i st (Program e) s h = absurd (true≢false h)
cause_rung i st External s h = Stays refl refl
cause_rung i st FetchOverflow s h = Stays refl refl
cause_rung i st StoreOverflow s h = Stays refl refl
cause_rung i st Restricted s h = Stays refl refl
cause_rung i st (Filtered e) s h = Stays refl refl
cause_rung i st Depth s h = Stays refl refl
cause_rung i st (Tabort code) s h = Stays refl refl

pub abort_rung : (i : ℕ) (st : Standing) (n : ℕ) (w : Why) (s : State) → is_end_by w ≡ false
    → Rung st.parms st.aborts (s.numbers i).delay (standing_after w st).aborts
    ((aborting i st n w s).numbers i).delay
unfolding aborting
abort_rung i st n w s h =
    subst (λ d. Rung st.parms st.aborts d (standing_after w st).aborts
    ((after_cause i st w (without_attempt i s)).numbers i).delay)
    (ap (λ (v : Numbers). v.delay) (at_put_same s.numbers i (record (s.numbers i) { completed = 0 })))
    (cause_rung i st w (without_attempt i s) h)

-- the turns that a CPU waits behind an abort of an attempt that waited none
rung_delay : (parms : Parameters) (aborts delay after later : ℕ) → delay ≡ 0
    → Rung parms aborts delay after later → later ≤ delay_after parms after
rung_delay parms aborts delay after later none (Stays same e) = omega (arith, none, e)
rung_delay parms aborts delay after later none (Waits off up e) =
    subst (λ x. x ≤ delay_after parms after) (sym e)
    (subst (λ x. delay_after parms (aborts + 1) ≤ delay_after parms x) (sym up) (omega arith))
rung_delay parms aborts delay after later none (Joins full up e) = omega (arith, none, e)

rung_queued : (parms : Parameters) (aborts delay after later : ℕ) → delay ≡ 0
    → Rung parms aborts delay after later → after ≡ parms.stop → later ≡ 0
rung_queued parms aborts delay after later none (Stays same e) full = e ∙ none
rung_queued parms aborts delay after later none (Waits off up e) full = absurd (off (sym up ∙ full))
rung_queued parms aborts delay after later none (Joins here up e) full = e ∙ none

module _ (m : Setting) (l : Local) (w : Why) (at : ℕ) (leads : Leads l) (goes_on : is_end_by w ≡ false) where
  abbrev left : Local
  left = left_behind l.cpu l.attempt w at

  left_from : Cpu
  left_from = record (with_restored l.cpu.general (outermost_mask l.attempt.nest) l.attempt.cpu) {
    address = l.attempt.resumes_at;
    condition = (cause_of w).condition;
  }

  left_cpu : left.cpu ≡ left_from
  unfolding left_from
  left_cpu = interrupts_not w _ goes_on

  left_goes : (begin : Instr) → (entry_at begin.op.number).demand ≡ BeginConstrained
      → fate (text_of m) (at_rest (start_of m.image).storage l.cpu) ≡ Goes begin []
      → fate (text_of m) (at_rest (start_of m.image).storage left.cpu) ≡ Goes begin []
  unfolding left_from
  left_goes begin is goes =
      goes_again (text_of m) (start_of m.image).storage (start_of m.image).storage l.cpu left.cpu begin [] is
      (ap (λ (c : Cpu). c.prefix) left_cpu ∙ leads.prefix) (ap (λ (c : Cpu). c.address) left_cpu
      ∙ leads.again)
      (λ a h. refl) goes

  left_runs : is_running left.cpu.state ≡ true
  unfolding left_from
  left_runs = ap (λ (c : Cpu). is_running c.state) left_cpu ∙ leads.runs

  -- the transaction is under way behind an abort
  pub amid_left : (completed delay later : ℕ) (st : Standing) (after : Standing) → after ≡ standing_after w st
      → lives completed ≡ true → delay ≡ 0 → st.parms ≡ m.image.parms → Amid m completed delay st l
      → Rung st.parms st.aborts delay (standing_after w st).aborts later
      → Amid m 0 later after left
  amid_left completed delay later st after is live none parms h r =
      let r2 : Rung m.image.parms st.aborts delay (standing_after w st).aborts later =
      subst (λ p. Rung p st.aborts delay (standing_after w st).aborts later) parms r in
      subst (λ x. Amid m 0 later x left) (sym is) (record {
        begin = h.begin;
        is = h.is;
        goes = left_goes h.begin h.is h.goes;
        pending = no_pending (outermost_block l.attempt.nest) (block_at l.attempt w at) leads.block;
        waiting = waits_not l.attempt.cpu.prefix (block_at l.attempt w at) w goes_on;
        kind = λ x. absurd (true≢false (sym x));
        short = rung_delay m.image.parms st.aborts delay _ later none r2;
        queued = rung_queued m.image.parms st.aborts delay _ later none r2;
        running = λ off. left_runs;
      })
