use Rattle.std.proofs.Common.{◌∙◌}
use Rattle.z_instr.specs.Layouts.{rank}
use Rattle.z_decode.proofs.Rows.{digit_is}
use Rattle.z_decode.proofs.spell.digit_in.Goals as goal

pub returns-clause-digit : goal.returns-clause-digit
returns-clause-digit c =
    digit_is c.args.numbers.now (rank c.args.wanted.field) c.from.result c.args.wanted.index
    (c.from.ensures ∙ c.rank_of.ensures.rank)
