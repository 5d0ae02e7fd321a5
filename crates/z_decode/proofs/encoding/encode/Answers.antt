use Rattle.std.proofs.Common.{length, ap, ◌∙◌, arith}
use Rattle.z_instr.specs.Layouts.{layout_of}
use Rattle.z_instr.proofs.Wholes.{length_at}
use Rattle.z_decode.proofs.encoding.encode.Goals as goal

pub returns-clause-length : goal.returns-clause-length
returns-clause-length c =
    let o = c.args.instr.now.op in
    let size = ap length (c.digits_of-layout.ensures ∙ ap layout_of c.line-line.ensures.row)
    ∙ length_at o.number o.known in
    omega (arith, size)
