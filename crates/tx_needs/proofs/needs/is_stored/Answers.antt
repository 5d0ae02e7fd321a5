-- A range that stores into the line is found, and before that there is none.
use Rattle.std.proofs.Common.{sym}
use Rattle.std.specs.Prelude.{◌&&◌}
use Rattle.tx_meaning.specs.Needs.{has_line}
use Rattle.z_regs.proofs.Elements.{list_any_passed, list_any_longer}
use Rattle.tx_needs.proofs.needs.is_stored.Goals as goal

pub returns-then-stores_into : goal.returns-then-stores_into
returns-then-stores_into c =
    sym (list_any_passed (λ r. r.store && has_line c.args.line r) c.args.ranges.now c.loop-i.i c.at.result c.at.ensures
    (sym (c.if-stores_into.ensures)))

pub loop-i-preserved : goal.loop-i-preserved
loop-i-preserved c =
    list_any_longer (λ r. r.store && has_line c.args.line r) c.args.ranges.now c.loop-i.i c.at.result c.at.ensures
    c.loop-i.invariant (sym (c.if-stores_into.ensures))
