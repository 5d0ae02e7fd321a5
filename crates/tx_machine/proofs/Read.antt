-- What is read of a machine is read of the meaning of its events.
use Rattle.std.proofs.Common.{◌≡◌, ℕ, Bool, true, false, Option, Some, None, is_some, refl, ap, ◌∙◌}
use Rattle.std.specs.Prelude.{◌&&◌, not, get_or, is_none}
use Rattle.z_regs.specs.Cpu.{Cpu}
use Rattle.tx_meaning.specs.Idle.{idle, is_finished, has_ended}
use Rattle.tx_home.specs.Kept.{kept_finished}
use Rattle.tx_home.specs.Turn.{k_idle}
use Rattle.tx_home.proofs.Turning.{idle_is}
use Rattle.tx_serial.specs.Flat.{FlatState}
use Rattle.tx_home.specs.Parts.{local_of}
use Rattle.tx_home.specs.Owned.{storage_in}
use Rattle.tx_meaning.specs.Limits.{Setting}
use Rattle.tx_meaning.specs.Meaning.{meaning}
use Rattle.tx_meaning.specs.State.{State, flat_of, cpu_of}
use Rattle.std.proofs.Common.{List, length}
use Rattle.std.specs.Prelude.{if◌then◌else◌}
use Rattle.tx_control.specs.declared.begins.Begin.{Begin}
use Rattle.tx_home.specs.Plans.{levels_of}
use Rattle.tx_meaning.specs.State.{is_live}
use Rattle.tx_meaning.specs.Shown.{levels_at}
use Rattle.tx_home.proofs.Truth.{flat_is, cpu_is, nest_is, attempt_is}
use Rattle.tx_home.specs.Kept.{kept_flat, text_of}
use Rattle.tx_home.proofs.Parts.{followed_fate}
use Rattle.tx_home.specs.Progress.{Progress}
use Rattle.tx_home.specs.Reached.{progress_of}
use Rattle.tx_serial.specs.Attempt.{Run}
use Rattle.tx_serial.specs.Fate.{Fate, fate}
use Rattle.tx_serial.specs.Run.{run}
use Rattle.tx_meaning.specs.State.{attempt_of}
use Rattle.z_regs.specs.Absolute.{absolute_ranges}
use Rattle.tx_home.specs.Wanted.{wanted, wanted_by, real_ranges}
use Rattle.tx_home.specs.Works.{Works, kept_by}
use Rattle.tx_machine.specs.Machine.{Stands, nobody}
use Rattle.tx_machine.proofs.Shown.{shown}

pub none_by : {A : Type 0} (o : Option A) (b : Bool) → is_some o ≡ not b → b ≡ is_none o
none_by None true e = refl
none_by (Some x) false e = refl
none_by None false e = let n : false ≡ true = e in absurd (cc)
none_by (Some x) true e = let n : true ≡ false = e in absurd (cc)

module _ (m : Setting) (w : Works) (remaining : ℕ) (s : Stands m w remaining) where
  pub reads_state : meaning m w.events ≡ (kept_by (nobody m) w).state
  reads_state = (shown m w remaining s).is

  pub reads_storage : (a : ℕ) → (flat_of m (meaning m w.events)).storage a ≡ storage_in w.lines a
  reads_storage a =
      ap (λ (t : State). (flat_of m t).storage a) reads_state
      ∙ ap (λ (f : FlatState). f.storage a)
      (flat_is m (kept_by (nobody m) w) (shown m w remaining s).good.truth)

  pub reads_cpu : (i : ℕ)
      → cpu_of m (meaning m w.events) i ≡ (local_of (get_or w.slots i (nobody m)).cpu).attempt.cpu
  reads_cpu i =
      ap (λ (t : State). cpu_of m t i) reads_state
      ∙ cpu_is m (kept_by (nobody m) w) (shown m w remaining s).good.truth i

  pub reads_idle : (i : ℕ) → idle m (meaning m w.events) i ≡ k_idle m (kept_by (nobody m) w) i
  reads_idle i =
      ap (λ (t : State). idle m t i) reads_state
      ∙ idle_is m s.setting i (kept_by (nobody m) w) (shown m w remaining s).good.truth

  pub reads_finished : (i : ℕ)
      → is_finished m (meaning m w.events) i ≡ kept_finished (kept_by (nobody m) w) i
  reads_finished i =
      let k = kept_by (nobody m) w in
      let truth = (shown m w remaining s).good.truth in
      ap (λ (t : State). is_finished m t i) reads_state
      ∙ ap (λ (f : FlatState). is_none (f.pending i) && has_ended (cpu_of m k.state i).state (cpu_of m k.state i).prefix)
      (flat_is m k truth)
      ∙ ap (λ (c : Cpu). is_none (k.locals i).pending && has_ended c.state c.prefix) (cpu_is m k truth i)

  pub reads_levels : (i : ℕ)
      → levels_at m (meaning m w.events) i ≡ levels_of (local_of (get_or w.slots i (nobody m)).cpu).attempt
  reads_levels i =
      let k = kept_by (nobody m) w in
      ap (λ (t : State). levels_at m t i) reads_state
      ∙ ap (λ (nest : List Begin). if is_live k.state i then Some (length nest, (k.state.numbers i).completed) else None)
      (nest_is m k (shown m w remaining s).good.truth i)

  pub reads_pending : (i : ℕ)
      → (flat_of m (meaning m w.events)).pending i ≡ (local_of (get_or w.slots i (nobody m)).cpu).pending
  reads_pending i =
      ap (λ (t : State). (flat_of m t).pending i) reads_state
      ∙ ap (λ (f : FlatState). f.pending i)
      (flat_is m (kept_by (nobody m) w) (shown m w remaining s).good.truth)

  pub reads_waiting : (i : ℕ)
      → (flat_of m (meaning m w.events)).waiting i ≡ (local_of (get_or w.slots i (nobody m)).cpu).waiting
  reads_waiting i =
      ap (λ (t : State). (flat_of m t).waiting i) reads_state
      ∙ ap (λ (f : FlatState). f.waiting i)
      (flat_is m (kept_by (nobody m) w) (shown m w remaining s).good.truth)

  pub reads_wanted : (i : ℕ) → wanted m (meaning m w.events) i
      ≡ wanted_by m (storage_in w.lines) (local_of (get_or w.slots i (nobody m)).cpu)
  unfolding wanted wanted_by progress_of
  reads_wanted i =
      let k = kept_by (nobody m) w in
      let l = k.locals i in
      let truth = (shown m w remaining s).good.truth in
      let followed = (truth.each i).followed in
      ap (λ (t : State). wanted m t i) reads_state
      ∙ ap (λ (f : FlatState). absolute_ranges (cpu_of m k.state i).prefix (real_ranges (f.pending i) (f.waiting i)
      (fate f.text (attempt_of m k.state i)))) (flat_is m k truth)
      ∙ ap (λ (p : Run). absolute_ranges p.cpu.prefix (real_ranges l.pending l.waiting (fate (text_of m) p)))
      (attempt_is m k truth i)
      ∙ ap (λ (n : Option ℕ). absolute_ranges n (real_ranges l.pending l.waiting (fate (text_of m)
      (run (kept_flat m k) i l.attempt.count)))) (ap (λ (q : Progress). q.cpu.prefix) followed.attempt)
      ∙ ap (λ (f : Fate). absolute_ranges l.attempt.cpu.prefix (real_ranges l.pending l.waiting f))
      (followed_fate (kept_flat m k) i l followed)
