-- The items of all registers are stored at once.
use Rattle.std.proofs.Common.{◌∙◌, ap, take, arith}
use Rattle.z_regs.specs.Cpu.{cpu_of}
use Rattle.z_effect.specs.StorageEffect.{items}
use Rattle.z_effect.specs.After.{written}
use Rattle.z_storage.proofs.Items.{first_written}
use Rattle.z_effect.proofs.Lengths.{length-items}
use Rattle.z_storage.proofs.registers.store_registers.Goals as goal

pub returns : goal.returns
returns g c =
    let stored = items c.args.count c.args.w c.args.first (cpu_of c.args.image.now) in
    c.put_all.ensures
    ∙ ap (written (g.V.Bytes.bytes c.args.view.now) c.args.address)
    (ap (λ bytes. take c.place.result bytes) c.put_registers.ensures
    ∙ first_written c.place.result _ stored (length-items c.args.count c.args.w c.args.first (cpu_of c.args.image.now)
    ∙ omega (arith, c.place.ensures)))
