-- The operand is the one that the shape says.
use Rattle.std.proofs.Common.{List, None, sym, ap, subst, ◌∙◌}
use Rattle.z_regs.specs.declared.ranges.Range.{Range}
use Rattle.tx_progress.specs.Progress.{advanced}
use Rattle.tx_program.specs.Shapes.{is_nothing}
use Rattle.tx_program.proofs.Placed.{nothing-touched}
use Rattle.tx_serial.specs.Flat.{operand_stores}
use Rattle.tx_attempt.specs.Advancing.{MayStep}
use Rattle.tx_attempt.specs.Tracked.{progress}
use Rattle.tx_cpu.proofs.plain.advance_there.Goals as goal

pub advance_without_stores-requires-clause-goes_on : goal.advance_without_stores-requires-clause-goes_on
advance_without_stores-requires-clause-goes_on c =
    let shape = c.args.shape in
    let none = c.none.ensures ∙ sym (nothing-touched shape.touch c.args.first shape.size (ap is_nothing c.in-Nothing.is)) in
    subst (MayStep c.args.attempt.now None) (sym none) c.requires.goes_on

pub returns-in-Nothing-clause-value : goal.returns-in-Nothing-clause-value
returns-in-Nothing-clause-value c i x y bytes plain prefix =
    let shape = c.args.shape in
    let none = c.none.ensures ∙ sym (nothing-touched shape.touch c.args.first shape.size (ap is_nothing c.in-Nothing.is)) in
    c.advance_without_stores.ensures.value i x y bytes plain prefix
    ∙ ap (λ (rs : List Range). advanced i rs y (operand_stores None rs bytes) (progress c.args.attempt.now x)) none

pub returns-in_default-clause-value : goal.returns-in_default-clause-value
returns-in_default-clause-value c i x y bytes plain prefix =
    c.advance_without_stores-in_default.ensures.value i x y bytes plain prefix
    ∙ ap (λ (rs : List Range). advanced i rs y (operand_stores None rs bytes) (progress c.args.attempt.now x))
    c.operands_at-need.ensures
