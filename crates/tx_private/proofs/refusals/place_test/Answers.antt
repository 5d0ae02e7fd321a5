use Rattle.std.proofs.Common.{◌∙◌, sym, true}
use Rattle.tx_constraint.specs.Kept.{next_operand_breach}
use Rattle.tx_private.proofs.Tested.{place_by, answer_kept, answer_broken, same_limit}
use Rattle.tx_private.proofs.refusals.place_test.Goals as goal

pub returns-in-Ok : goal.returns-in-Ok
returns-in-Ok c = λ base p shows.
    answer_kept (next_operand_breach c.args.a.now.constraint c.args.instr.now c.args.touches.now)
    c.args.instr.now (c.in-Ok.ensures).value
    ∙ sym (place_by base c.args.a.now p c.args.instr.now c.args.touches.now shows
    (same_limit base c.args.a.now p c.constrains.result true shows c.constrains.ensures
    c.if-not-constrains.false) (c.requires base p shows))

pub returns-in-Err : goal.returns-in-Err
returns-in-Err c = λ base p shows.
    answer_broken (next_operand_breach c.args.a.now.constraint c.args.instr.now c.args.touches.now)
    c.args.instr.now c.in-Err.field-0
    c.exception.result c.exception.ensures (c.in-Err.ensures).value
    ∙ sym (place_by base c.args.a.now p c.args.instr.now c.args.touches.now shows
    (same_limit base c.args.a.now p c.constrains.result true shows c.constrains.ensures
    c.if-not-constrains.false) (c.requires base p shows))
