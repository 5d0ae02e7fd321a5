use Rattle.std.proofs.Common.{sym, ap, refl, None, ◌∙◌}
use Rattle.z_regs.specs.Prefix.{is_prefix}
use Rattle.z_regs.specs.Cpu.{cpu_of}
use Rattle.tx_serial.specs.Apply.{with_stored_interruption}
use Rattle.tx_private.specs.Bytes.{function_of}
use Rattle.tx_private.proofs.Turned.{same_storage, unprefixed}
use Rattle.tx_flat.proofs.interruption.follow_interruption.Goals as goal

pub returns : goal.returns
returns c = λ old new ready size is. record {
  prefix_in = ap is_prefix ready.turned;
  seen = same_storage c.store_interruption.new.storage new c.store_interruption.ensures.size size
      (c.store_interruption.ensures.stored
      ∙ ap (λ s. with_stored_interruption (cpu_of c.args.image.now) c.args.waiting (function_of s))
      (ready.seen ∙ unprefixed None old refl) ∙ sym is)
      ∙ sym (unprefixed c.args.a.now.turned new ready.turned);
  lasting = same_storage c.store_interruption-2.new.storage new c.store_interruption-2.ensures.size size
      (c.store_interruption-2.ensures.stored
      ∙ ap (λ s. with_stored_interruption (cpu_of c.args.image.now) c.args.waiting (function_of s))
      (ready.lasting ∙ unprefixed None old refl) ∙ sym is)
      ∙ sym (unprefixed c.args.a.now.turned new ready.turned);
}
