use Rattle.std.proofs.Common.{◌∙◌, ap}
use Rattle.std.specs.FinSet.{items}
use Rattle.z_regs.specs.Cpu.{cpu_of}
use Rattle.z_touch.specs.Refusals.{answer, refusal}
use Rattle.tx_serial.specs.Fate.{operands}
use Rattle.tx_private.proofs.Tested.{operands_ok, operands_err}
use Rattle.tx_private.proofs.refusals.operand_test.Goals as goal

pub returns-in-Ok : goal.returns-in-Ok
returns-in-Ok c = λ base p shows.
    let i = c.args.instr.now in
    let cpu = cpu_of c.args.a.now.image in
    let text = items c.args.guard.now in
    operands_ok base c.args.a.now p i text c.in-Ok.touches shows (c.requires base p shows)
    (c.in-Ok.ensures ∙ ap (λ n. answer (refusal i cpu n text) i (operands i cpu)) c.depth.ensures.«open»)

pub returns-in-Err : goal.returns-in-Err
returns-in-Err c = λ base p shows.
    let i = c.args.instr.now in
    let cpu = cpu_of c.args.a.now.image in
    let text = items c.args.guard.now in
    operands_err base c.args.a.now p i text c.in-Err.exception shows (c.requires base p shows)
    (c.in-Err.ensures ∙ ap (λ n. answer (refusal i cpu n text) i (operands i cpu)) c.depth.ensures.«open»)
