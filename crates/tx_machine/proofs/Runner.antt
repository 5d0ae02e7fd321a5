-- A CPU that is lent runs.
use Rattle.std.proofs.Common.{◌≡◌, ℕ, ◌<◌, Bool, true, false, Option, Some, None, refl, sym, ap, ◌∙◌, subst, length}
use Rattle.std.specs.Prelude.{◌&&◌, is_none, is_some, if◌then◌else◌}
use Rattle.std.specs.Option.{option_or}
use Rattle.std.proofs.lemmas.Bool.{and_parts, false≢true}
use Rattle.tx_serial.specs.Apply.{is_running}
use Rattle.tx_home.specs.Parts.{local_of}
use Rattle.tx_home.specs.Progress.{Progress}
use Rattle.tx_home.specs.Reached.{progress_of}
use Rattle.tx_meaning.specs.Idle.{has_ended, is_spent, kept_back}
use Rattle.tx_meaning.specs.Limits.{Setting}
use Rattle.tx_meaning.specs.Meaning.{IsSetting}
use Rattle.tx_meaning.specs.State.{cpus_of, is_live}
use Rattle.tx_meaning.specs.declared.outcome.Outcome.{Outcome}
use Rattle.tx_meaning.specs.declared.outcome.Outcome.TheVariants as outcome
use Rattle.tx_home.specs.Kept.{Kept, kept_flat, kept_finished}
use Rattle.tx_home.specs.Turn.{k_idle}
use Rattle.tx_home.proofs.Turning.{may_by}
use Rattle.tx_home.proofs.Truth.{Truth}
use Rattle.tx_opacity.proofs.Running.{run_runs}
use Rattle.tx_home.specs.Works.{Works, Seat, kept_by, seats_of}
use Rattle.tx_home.specs.Lending.{refusal_of}
use Rattle.tx_home.specs.declared.lending.Refusal.{Refusal}
use Rattle.tx_home.specs.declared.lending.Refusal.TheVariants as refusal
use Rattle.tx_machine.specs.Machine.{Stands, nobody}
use Rattle.tx_machine.proofs.Going.{same_seat}
use Rattle.tx_machine.proofs.Shown.{shown}
use Rattle.tx_serial.proofs.TextStays.{or_first, or_second}

-- ---- no reason holds

pub record NoReason (idle : Option Outcome) (left : Bool) : Type 0 where
  pub ready : idle ≡ None
  pub nothing : left ≡ false

no_reason : (idle : Option Outcome) (waits left ticks : Bool) (rest : Option Refusal)
    → option_or (if is_some idle then Some refusal.Idle else (if waits then Some refusal.Delayed
    else (if left then Some refusal.Pending else (if ticks then Some refusal.TickDue else None)))) rest ≡ None
    → NoReason idle left
no_reason (Some o) waits left ticks rest none = absurd (false≢true (ap is_none none))
no_reason None true left ticks rest none = absurd (false≢true (ap is_none none))
no_reason None false true ticks rest none = absurd (false≢true (ap is_none none))
no_reason None false false ticks rest none = record { ready = refl; nothing = refl }

no_some : {A : Type 0} (o : Option A) → is_some o ≡ false → o ≡ None
no_some None is = refl
no_some (Some a) is = absurd (false≢true (sym is))

-- the program of a CPU whose turn is not idle has not ended
unfinished : (finished spent : Bool) (o : Option Outcome)
    → (if finished then Some outcome.Halted else (if spent then Some outcome.Spent else o)) ≡ None → finished ≡ false
unfinished true spent o none = absurd (false≢true (ap is_none none))
unfinished false spent o none = refl

-- ---- it runs

module _ (m : Setting) (s : IsSetting m) (i : ℕ) (k : Kept) (t : Truth m k) where
  -- the CPU of an attempt
  attempt_runs : kept_finished k i ≡ false → (k.locals i).pending ≡ None → (k.locals i).waiting ≡ None
      → is_running (k.locals i).attempt.cpu.state ≡ true
  unfolding progress_of
  attempt_runs going none empty =
      let f = kept_flat m k in
      let may = may_by m s i k (is_live k.state i) t refl going none empty in
      let now = (and_parts (is_running (k.locals i).cpu.state) _ may).0 in
      subst (λ (q : Progress). is_running q.cpu.state ≡ true) (t.each i).followed.attempt
      (run_runs f i (k.locals i).attempt.count now)

pub lent_runs : (m : Setting) (w : Works) (remaining : ℕ) → Stands m w remaining → (i : ℕ) → i < cpus_of m → (rest : Seat)
    → refusal_of m i (kept_by rest w) ≡ None → is_running ((kept_by rest w).locals i).attempt.cpu.state ≡ true
unfolding k_idle
lent_runs m w remaining s i within rest none =
    let there : i < length w.slots = subst (λ n. i < n) (sym s.cpus) within in
    let same = same_seat m w remaining s rest i there in
    let k = kept_by (nobody m) w in
    let reason = no_reason (k_idle m (kept_by rest w) i) _ _ _ _ none in
    let l = local_of (seats_of rest w.slots i).cpu in
    let going = unfinished (kept_finished (kept_by rest w) i) (is_spent m.limits ((kept_by rest w).state.numbers i))
    (kept_back w.queue i) reason.ready in
    subst (λ (seat : Seat). is_running (local_of seat.cpu).attempt.cpu.state ≡ true) same
    (attempt_runs m s.setting i k (shown m w remaining s).good.truth
    (ap (λ (seat : Seat). is_none (local_of seat.cpu).pending
    && has_ended (local_of seat.cpu).attempt.cpu.state (local_of seat.cpu).attempt.cpu.prefix) same ∙ going)
    (ap (λ (seat : Seat). (local_of seat.cpu).pending) same
    ∙ no_some l.pending (or_first (is_some l.pending) (is_some l.waiting) reason.nothing))
    (ap (λ (seat : Seat). (local_of seat.cpu).waiting) same
    ∙ no_some l.waiting (or_second (is_some l.pending) (is_some l.waiting) reason.nothing)))
