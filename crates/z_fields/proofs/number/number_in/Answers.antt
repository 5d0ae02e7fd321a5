use Rattle.std.proofs.Common.{◌∙◌, sym, arith}
use Rattle.z_text.proofs.Numbers.{number_ends}
use Rattle.z_fields.proofs.number.number_in.Goals as goal

pub returns : goal.returns
returns c = sym (number_ends 10 c.loop-b.number c.loop-b.b-index c.args.digits.now
    (omega arith) c.loop-b.invariant.fits) ∙ c.loop-b.invariant.same
