use Rattle.std.proofs.Common.{ap, ◌∙◌, arith}
use Rattle.byteorder.specs.Endian.{big_bytes}
use Rattle.z_regs.specs.Written.{written}
use Rattle.z_regs.proofs.Items.{slice_rightmost}
use Rattle.line_copies.proofs.lines.CoherentLines.store_part.Goals as goal

pub returns-in_default-clause-bytes : goal.returns-in_default-clause-bytes
returns-in_default-clause-bytes c =
    c.store_across-in_default.ensures.bytes
    ∙ ap (written c.args.self.now.bytes c.args.address)
    (slice_rightmost c.from.result c.args.value c.to_be_bytes-item.result c.to_be_bytes-item.ensures
    (omega (arith, c.from.ensures, c.requires.high))
    ∙ ap (λ n. big_bytes n c.args.value) c.from.ensures)
