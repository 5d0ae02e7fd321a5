use Rattle.std.proofs.Common.{◌+◌, ◌*◌, get_or, ap₂, ◌∙◌, arith}
use Rattle.z_decode.proofs.Rows.{byte_there, none_behind}
use Rattle.z_decode.proofs.spell.byte_at.Goals as goal

pub returns-then-place-layout : goal.returns-then-place-layout
returns-then-place-layout c =
    ap₂ (λ x y. x * 16 + y) c.digit_in.ensures.digit c.digit_in-then-place-layout.ensures.digit
    ∙ byte_there c.args.layout.now (λ rank. get_or c.args.numbers.now rank 0) c.args.place _ c.if-place-layout.true

pub returns-else-place-layout : goal.returns-else-place-layout
returns-else-place-layout c =
    none_behind c.args.layout.now (λ rank. get_or c.args.numbers.now rank 0) c.args.place (omega (arith, c.if-place-layout.false))
