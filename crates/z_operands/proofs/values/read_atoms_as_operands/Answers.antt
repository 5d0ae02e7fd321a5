use Rattle.std.proofs.Common.{◌∙◌, sym, ap}
use Rattle.z_operands.specs.Operands.{goes_on_rightly}
use Rattle.z_operands.proofs.Atoms.{operands_pushed, no_operand, wrong_behind, operands_end}
use Rattle.z_operands.proofs.values.read_atoms_as_operands.Goals as goal

pub returns-in_default : goal.returns-in_default
returns-in_default c = no_operand c.loop-rest.rest.now c.loop-rest.operands.items _ c.loop-rest-test.true
    (sym c.piece_at.ensures ∙ c.in_default.is) c.loop-rest.invariant

pub returns-then-not-goes_on_rightly : goal.returns-then-not-goes_on_rightly
returns-then-not-goes_on_rightly c =
    wrong_behind c.loop-rest.rest.now c.in-Some.piece c.loop-rest.operands.items _ c.loop-rest-test.true
    (sym c.piece_at.ensures ∙ c.in-Some.is)
    (ap goes_on_rightly (sym c.behind.ensures)
    ∙ (sym c.goes_on_rightly.ensures ∙ c.if-not-goes_on_rightly.true)) c.loop-rest.invariant

pub loop-rest-preserved : goal.loop-rest-preserved
loop-rest-preserved c =
    rw (c.in_ok-push.ensures.items, c.behind-rest.ensures)
    (operands_pushed c.loop-rest.rest.now c.in-Some.piece c.loop-rest.operands.items _ c.loop-rest-test.true
    (sym c.piece_at.ensures ∙ c.in-Some.is)
    (ap goes_on_rightly (sym c.behind.ensures)
    ∙ (sym c.goes_on_rightly.ensures ∙ c.if-not-goes_on_rightly.false)) c.loop-rest.invariant)

pub returns : goal.returns
returns c = operands_end c.loop-rest.rest.now c.loop-rest.operands.items _ c.loop-rest-test.false
    c.loop-rest.invariant
