-- What is kept of an attempt that is none, and of one that is live.
use Rattle.std.proofs.Common.{◌≡◌, ◌<◌, ◌+◌, ℕ, Some, true, false, arith, length, subst}
use Rattle.std.specs.Prelude.{nat_lt}
use Rattle.std.proofs.lemmas.Bool.Decides.{nat_tests}
use Rattle.tx_progress.specs.Progress.{is_live, resting}
use Rattle.tx_constraint.specs.Kept.{Kept}
use Rattle.store_cache.specs.Overlay.{has_block}
use Rattle.tx_cpu.specs.Parts.{Parts, local_of}
use Rattle.tx_progress.proofs.Parts.{not_live}
use Rattle.tx_cpu.proofs.one.Cpu.is_sound.Goals as goal

some_of : (n : ℕ) → nat_lt 0 n ≡ true → 0 < n
some_of n h = grind (arith, nat_tests)

pub returns-clause-rests : goal.returns-clause-rests
returns-clause-rests c =
    subst (λ (p : Parts). is_live (local_of p).attempt ≡ false
    → (local_of p).attempt ≡ resting (local_of p).attempt.cpu) c.self.view_is
    (λ rests. c.is_sound.ensures.rests (not_live _ rests) _)

pub returns-clause-opens : goal.returns-clause-opens
returns-clause-opens c =
    subst (λ (p : Parts). is_live (local_of p).attempt ≡ true → 0 < length (local_of p).attempt.nest)
    c.self.view_is (λ live. c.is_sound.ensures.opens (some_of _ live))

pub returns-clause-blocks : goal.returns-clause-blocks
returns-clause-blocks c =
    subst (λ (p : Parts). (block : ℕ) → has_block (local_of p).attempt.overlay block ≡ true
    → (local_of p).attempt.footprint.blocks block ≡ true) c.self.view_is
    c.is_sound.ensures.sound.blocks

pub returns-clause-counted : goal.returns-clause-counted
returns-clause-counted c =
    subst (λ (p : Parts). (k : Kept) → (local_of p).attempt.constraint ≡ Some k
    → k.count + 1 ≡ (local_of p).attempt.count) c.self.view_is c.is_sound.ensures.sound.counted
