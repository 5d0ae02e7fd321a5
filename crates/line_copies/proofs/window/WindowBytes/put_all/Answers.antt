-- What a window keeps, after bytes are stored through it.
use Rattle.std.proofs.Common.{length, ap, ◌∙◌, arith}
use Rattle.z_regs.proofs.Writes.{length-written}
use Rattle.line_copies.proofs.window.WindowBytes.put_all.Goals as goal

pub invariant_of-self : goal.invariant_of-self
invariant_of-self g c =
    let before = c.args.self.now in
    record {
      holds = c.put_all.ensures.held ∙ before.holds;
      same_reference = c.put_all.ensures.same_reference ∙ before.same_reference;
      in_range = omega (arith, c.put_all.ensures.who, ap (λ h. h.cpus) c.put_all.ensures.held, before.in_range);
      size = ap length c.put_all.ensures.bytes
          ∙ length-written before.reach.lines.now.bytes c.args.address c.args.items.now
          (omega (arith, c.requires.inside))
          ∙ before.size;
    }
