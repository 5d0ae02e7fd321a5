use Rattle.std.proofs.Common.{◌≡◌, ◌+◌, ◌%◌, true, false, not, sym, ap, arith}
use Rattle.std.proofs.lemmas.Bool.{le-leb, lt-leb}
use Rattle.tx_constraint.specs.Constraints.{is_split}
use Rattle.z_regs.proofs.Elements.{list_any_passed, list_any_longer}
use Rattle.tx_constraint.proofs.pieces.is_one_split.Goals as goal

pub returns-then-range-unit : goal.returns-then-range-unit
returns-then-range-unit c =
    let over : is_split c.args.unit c.at-range.result ≡ true =
    ap not (lt-leb (c.at-range.result.first % c.args.unit + c.at-range.result.length) c.args.unit
    (omega arith)) in
    sym (list_any_passed
    (is_split c.args.unit) c.args.touches.now c.loop-i.i c.at-range.result c.at-range.ensures over)

pub loop-i-preserved : goal.loop-i-preserved
loop-i-preserved c =
    let in_one : is_split c.args.unit c.at-range.result ≡ false =
    ap not (le-leb (c.at-range.result.first % c.args.unit + c.at-range.result.length) c.args.unit
    (omega arith)) in
    list_any_longer (is_split c.args.unit) c.args.touches.now c.loop-i.i c.at-range.result c.at-range.ensures c.loop-i.invariant in_one
