-- The first test that finds something decides.
use Rattle.std.proofs.Common.{ℕ}
use Rattle.std.specs.FinSet.{items}
use Rattle.z_regs.specs.Cpu.{cpu_of}
use Rattle.tx_attempt.specs.Tracked.{progress}
use Rattle.tx_attempt.specs.Refused.{refusal_of}
use Rattle.tx_cpu.proofs.Tests.{heads, tails, tried-first, tried-later, tried-goes}
use Rattle.tx_cpu.proofs.Tests.{specified-heads}
use Rattle.tx_cpu.proofs.plan.tried.Goals as goal

pub returns-in-Err : goal.returns-in-Err
returns-in-Err c storage =
    let q = progress c.args.attempt.now (cpu_of c.args.image.now) in
    tried-first q c.args.instr.now (heads storage q c.args.instr.now) (tails (items c.args.guard.now) storage q
    c.args.instr.now) c.nest-nest.result.now (refusal_of c.in-Err.refusal) _ c.nest-nest.ensures
    c.after_refusal.ensures (c.in-Err.ensures storage)

pub permitted-requires-clause-specified : goal.permitted-requires-clause-specified
permitted-requires-clause-specified c =
    let q = progress c.args.attempt.now (cpu_of c.args.image.now) in
    specified-heads (λ (a : ℕ). 0) q c.args.instr.now (c.in_default.ensures (λ (a : ℕ). 0))

pub returns-in-Err-permitted : goal.returns-in-Err-permitted
returns-in-Err-permitted c storage =
    let q = progress c.args.attempt.now (cpu_of c.args.image.now) in
    tried-later q c.args.instr.now (heads storage q c.args.instr.now) (tails (items c.args.guard.now) storage q
    c.args.instr.now) c.nest-nest.result.now (refusal_of c.in-Err-permitted.refusal) _ c.nest-nest.ensures
    c.after_refusal-in-Err-permitted.ensures (c.in_default.ensures storage) (c.in-Err-permitted.ensures storage)

pub returns-in-Ok : goal.returns-in-Ok
returns-in-Ok c storage =
    let q = progress c.args.attempt.now (cpu_of c.args.image.now) in
    tried-goes q c.args.instr.now (heads storage q c.args.instr.now) (tails (items c.args.guard.now) storage q
    c.args.instr.now) c.ranges-need.result (c.in_default.ensures storage) (c.in-Ok.ensures storage) c.ranges-need.ensures
