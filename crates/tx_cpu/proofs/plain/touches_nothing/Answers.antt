-- Of an instruction without an operand, nothing is touched where it goes.
use Rattle.std.proofs.Common.{rules, ◌≡◌, sym, ◌∙◌, None}
use Rattle.std.specs.FinSet.{items}
use Rattle.z_regs.specs.Cpu.{cpu_of}
use Rattle.tx_attempt.specs.Tracked.{progress}
use Rattle.tx_cpu.proofs.Plainly.{goes-untouched}
use Rattle.tx_cpu.proofs.plain.touches_nothing.Goals as goal

pub returns-then-has_no_operand : goal.returns-then-has_no_operand
returns-then-has_no_operand c i need so goes =
    let r = c.in-Some.ready.now in
    let none : c.args.image.now.prefix ≡ None = search rules in
    goes-untouched (items c.args.program.now.guard) c.args.program.now.storage
    (progress c.args.attempt.now (cpu_of c.args.image.now)) r i need none c.in-Some.ensures
    (sym c.has_no_operand.ensures ∙ c.if-has_no_operand.true) (c.sees_instruction.ensures so) goes
