use Rattle.std.proofs.Common.{◌∙◌, sym}
use Rattle.z_operands.proofs.Forms.{form_length}
use Rattle.z_operands.proofs.instruction.code_for.Goals as goal

pub fields_from-requires-clause-same : goal.fields_from-requires-clause-same
fields_from-requires-clause-same c = form_length c.slots_for-slots.result.now c.args.operands.now
    (sym c.has_form.ensures ∙ c.if-not-has_form.false)
