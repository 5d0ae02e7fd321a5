-- What a window keeps, after a number is stored through it.
use Rattle.std.proofs.Common.{length, ap, ◌∙◌, arith}
use Rattle.byteorder.specs.Endian.{big_bytes}
use Rattle.byteorder.specs.Numbers.{length-bytes_high_first}
use Rattle.z_regs.proofs.Writes.{length-written}
use Rattle.line_copies.proofs.window.WindowBytes.put_word.Goals as goal

pub invariant_of-self : goal.invariant_of-self
invariant_of-self g c =
    let before = c.args.self.now in
    let many = length-bytes_high_first c.args.count c.args.value in
    record {
      holds = c.put_word.ensures.held ∙ before.holds;
      same_reference = c.put_word.ensures.same_reference ∙ before.same_reference;
      in_range = omega (arith, c.put_word.ensures.who, ap (λ h. h.cpus) c.put_word.ensures.held, before.in_range);
      size = ap length c.put_word.ensures.bytes
          ∙ length-written before.reach.lines.now.bytes c.args.address (big_bytes c.args.count c.args.value)
          (omega (arith, many, c.requires.inside))
          ∙ before.size;
    }
