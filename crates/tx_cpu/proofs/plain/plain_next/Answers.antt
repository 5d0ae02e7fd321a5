-- It goes, since the attempt admits it.
use Rattle.std.proofs.Common.{rules, ◌≡◌, true}
use Rattle.std.specs.FinSet.{items}
use Rattle.z_regs.specs.Cpu.{cpu_of}
use Rattle.tx_program.specs.Shapes.{is_reached}
use Rattle.tx_attempt.specs.Tracked.{progress}
use Rattle.tx_cpu.proofs.Plainly.{goes-by}
use Rattle.tx_program.proofs.Placed.{reached-placed}
use Rattle.tx_cpu.proofs.plain.plain_next.Goals as goal

pub admits-requires-clause-placed : goal.admits-requires-clause-placed
admits-requires-clause-placed c =
    reached-placed c.in_ok-ready.ready.now.shape c.in_ok-first.first (items c.guard.result.now)
    c.in_ok-first.ensures.reached

pub returns-clause-goes : goal.returns-clause-goes
returns-clause-goes c =
    let r = c.in_ok-ready.ready.now in
    let text = items c.args.program.now.guard in
    let reached : is_reached r.shape c.in_ok-first.first text ≡ true = search rules in
    goes-by text c.args.program.now.storage (progress c.args.attempt.now (cpu_of c.args.image.now)) r
    c.in_ok-first.first c.requires c.in_ok-ready.ensures c.in_ok-first.ensures.first reached
    (c.admits.ensures c.if-not-admits.false)
