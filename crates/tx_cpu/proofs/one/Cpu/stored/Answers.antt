-- A byte that the attempt has stored lies in a block of its footprint.
use Rattle.std.proofs.Common.{◌≡◌, ◌/◌, true, subst}
use Rattle.std.specs.Prelude.{IfSome}
use Rattle.tx_footprint.specs.Touched.{sets_of}
use Rattle.tx_cpu.specs.Parts.{Parts}
use Rattle.tx_cpu.proofs.one.Cpu.stored.Goals as goal

pub returns-clause-block : goal.returns-clause-block
returns-clause-block c =
    subst (λ (p : Parts). IfSome c.stored.result (λ byte. (sets_of p.attempt.footprint).blocks (c.args.address / 128)
    ≡ true)) c.self.view_is c.stored.ensures.block
