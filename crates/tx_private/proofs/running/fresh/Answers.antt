use Rattle.std.proofs.Common.{refl, sym, ◌∙◌, None}
use Rattle.tx_private.proofs.Turned.{unprefixed}
use Rattle.tx_private.proofs.running.fresh.Goals as goal

pub returns : goal.returns
returns c = record {
  prefix_in = refl;
  seen = c.in_ok-seen.ensures ∙ c.as_slice.ensures.bytes ∙ sym (unprefixed None c.args.storage.now refl);
  lasting = c.in_ok-lasting.ensures ∙ c.as_slice-2.ensures.bytes ∙ sym (unprefixed None c.args.storage.now refl);
}
