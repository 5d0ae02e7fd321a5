use Rattle.std.proofs.Common.{length, ◌≤◌, sym, subst, arith}
use Rattle.std.specs.Prelude.{All}
use Rattle.z_text.specs.Tokens.{LiesIn}
use Rattle.z_text.proofs.Heads.{head_lies}
use Rattle.z_text.proofs.line.split_line.Goals as goal

pub operands-requires-clause-inside : goal.operands-requires-clause-inside
operands-requires-clause-inside c =
    let parts = c.fields_of-parts.ensures in
    let good = c.has_bad_head.ensures in
    let lies = head_lies (length c.args.line.now) c.fields_of-parts.result
    (good.label_size c.if-has_bad_head.false) parts.label (good.some c.if-has_bad_head.false)
    (good.operation_size c.if-has_bad_head.false) (omega arith) in
    subst (λ ts. All (LiesIn (length c.args.line.now)) ts) (sym c.in_ok-push_head.ensures) lies.0

pub operands-requires-clause-few : goal.operands-requires-clause-few
operands-requires-clause-few c =
    let parts = c.fields_of-parts.ensures in
    let good = c.has_bad_head.ensures in
    let lies = head_lies (length c.args.line.now) c.fields_of-parts.result
    (good.label_size c.if-has_bad_head.false) parts.label (good.some c.if-has_bad_head.false)
    (good.operation_size c.if-has_bad_head.false) (omega arith) in
    subst (λ ts. length ts ≤ c.fields_of-parts.result.operands) (sym c.in_ok-push_head.ensures) (omega (
      arith,
      lies.1,
    ))
