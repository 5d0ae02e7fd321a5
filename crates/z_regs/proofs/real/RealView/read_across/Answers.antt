use Rattle.std.proofs.Common.{◌≡◌, ◌∙◌, ◌+◌, ◌<◌, ap, sym, arith, length, take_all, length-set}
use Rattle.z_regs.specs.Prefix.{storage_size}
use Rattle.z_regs.specs.Seen.{seen_by}
use Rattle.z_regs.specs.Written.{range_at}
use Rattle.z_regs.proofs.Exchange.{length-seen}
use Rattle.z_regs.proofs.Items.{copied_more}
use Rattle.z_regs.proofs.real.RealView.read_across.Goals as goal

pub loop-k-preserved : goal.loop-k-preserved
loop-k-preserved g c =
    let view = c.args.self.now in
    let seen = seen_by view.prefix (g.V.Bytes.bytes view.below) in
    let size : length seen ≡ storage_size = length-seen view.prefix _ view.prefix_in view.sized in
    let inside : c.args.address + c.loop-k.k < length seen =
    omega (arith, size, c.loop-k.invariant.size, c.requires) in
    record {
      copied = copied_more c.loop-k.into seen c.args.address c.loop-k.k c.byte.result (omega (arith, c.loop-k.invariant.size)) inside
          c.loop-k.invariant.copied c.byte.ensures;
      size = length-set c.loop-k.into c.loop-k.k c.byte.result ∙ c.loop-k.invariant.size;
    }

pub returns : goal.returns
returns g c =
    let view = c.args.self.now in
    let seen = seen_by view.prefix (g.V.Bytes.bytes view.below) in
    let count : c.loop-k.k ≡ length c.args.into.now = omega (arith, c.loop-k.invariant.size) in
    sym (take_all c.loop-k.k c.loop-k.into (omega (arith, count, c.loop-k.invariant.size)))
    ∙ c.loop-k.invariant.copied
    ∙ ap (range_at seen c.args.address) count
