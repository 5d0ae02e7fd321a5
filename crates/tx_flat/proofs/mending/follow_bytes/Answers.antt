use Rattle.std.proofs.Common.{refl, sym, ap, ◌∙◌, None}
use Rattle.z_regs.specs.Prefix.{is_prefix}
use Rattle.tx_serial.specs.Flat.{with_bytes_at}
use Rattle.tx_private.specs.Bytes.{function_of}
use Rattle.tx_private.proofs.Turned.{same_storage, unprefixed}
use Rattle.tx_flat.proofs.mending.follow_bytes.Goals as goal

pub returns : goal.returns
returns c = λ old new ready size is. record {
  prefix_in = ap is_prefix ready.turned;
  seen = same_storage c.store_bytes.new.storage new c.store_bytes.ensures.size size
      (c.store_bytes.ensures.stored
      ∙ ap (λ s. with_bytes_at c.args.prefix c.args.address c.args.bytes.now (function_of s))
      (ready.seen ∙ unprefixed None old refl) ∙ sym is)
      ∙ sym (unprefixed c.args.a.now.turned new ready.turned);
  lasting = same_storage c.store_bytes-2.new.storage new c.store_bytes-2.ensures.size size
      (c.store_bytes-2.ensures.stored
      ∙ ap (λ s. with_bytes_at c.args.prefix c.args.address c.args.bytes.now (function_of s))
      (ready.lasting ∙ unprefixed None old refl) ∙ sym is)
      ∙ sym (unprefixed c.args.a.now.turned new ready.turned);
}
