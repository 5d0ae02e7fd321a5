-- Before the first instruction there is nothing.
use Rattle.std.proofs.Common.{◌≡◌, subst}
use Rattle.z_regs.specs.Cpu.{Cpu}
use Rattle.tx_progress.specs.Progress.{resting}
use Rattle.tx_attempt.specs.Tracked.{Tracked, IsSound, progress}
use Rattle.tx_attempt.proofs.Resting.{progress-rests}
use Rattle.tx_attempt.proofs.attempt.Attempt.is_sound.Goals as goal

pub returns-clause-rests : goal.returns-clause-rests
returns-clause-rests c =
    subst (λ (t : Tracked). t.count ≡ 0 → (x : Cpu) → progress t x ≡ resting x) c.self.view_is
    (λ none x. progress-rests _ x none (c.self.invariant.rests none))

pub returns-clause-sound : goal.returns-clause-sound
returns-clause-sound c = subst IsSound c.self.view_is c.self.invariant
