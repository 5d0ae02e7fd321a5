use Rattle.std.proofs.Common.{◌∙◌, sym, subst, ap, ◌<◌, ◌*◌, ◌%◌, ◌^◌}
use Rattle.z_decode.proofs.Rows.{half_is, half_small}
use Rattle.z_decode.proofs.read.part_of.Goals as goal

pub returns-clause-part : goal.returns-clause-part
returns-clause-part c =
    ap (λ h. h * 2 ^ (4 * c.args.digit.index) % 18446744073709551616) c.from.ensures
    ∙ half_is c.args.half c.args.digit.index c.requires.half c.requires.small

pub returns-clause-small : goal.returns-clause-small
returns-clause-small c =
    subst (λ n. n < 4294967296) (sym (returns-clause-part c))
    (half_small c.args.half c.args.digit.index c.requires.half c.requires.small)
