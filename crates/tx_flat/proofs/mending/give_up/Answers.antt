use Rattle.std.proofs.Common.{refl, None, arith}
use Rattle.tx_private.proofs.Turned.{seen_so}
use Rattle.tx_flat.proofs.mending.give_up.Goals as goal

pub returns : goal.returns
returns c = record {
  prefix_in = refl;
  seen = seen_so None c.args.storage.now c.refresh_lines.new.to refl c.is_whole.ensures c.refresh_lines.ensures.size
      (λ j within. c.refresh_lines.ensures.copied j (omega arith) (omega (arith, within)));
  lasting = seen_so None c.args.storage.now c.refresh_lines-2.new.to refl c.is_whole.ensures
      c.refresh_lines-2.ensures.size
      (λ j within. c.refresh_lines-2.ensures.copied j (omega arith) (omega (arith, within)));
}
