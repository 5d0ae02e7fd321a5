-- In a row the register behind k others is that of the definition, which goes on with 0 after 15.
use Rattle.std.proofs.Common.{◌≡◌, arith, ◌*◌, ◌+◌, ◌%◌, ◌∙◌, ap}
use Rattle.byteorder.specs.Endian.{big_number}
use Rattle.z_arith.specs.declared.Width.TheVariants.{Double}
use Rattle.z_instr.specs.declared.operand.Size.TheVariants.{Doubleword}
use Rattle.z_regs.specs.Cpu.{cpu_of}
use Rattle.z_effect.specs.Registers.{with_register}
use Rattle.z_effect.specs.StorageEffect.{number, with_items}
use Rattle.z_effect.specs.After.{range_at}
use Rattle.z_storage.proofs.Items.{none_loaded, load_step}
use Rattle.z_storage.proofs.registers.take_row.Goals as goal

pub loop-k-init : goal.loop-k-init
loop-k-init c =
    none_loaded Double c.args.first (range_at c.args.from.now 0 (c.args.count * 8)) (cpu_of c.args.image.now)

pub loop-k-preserved : goal.loop-k-preserved
loop-k-preserved c =
    let k = c.loop-k.k in
    let s = c.args.from.now in
    let now = cpu_of c.loop-k.image in
    let item = c.number_in-value.result in
    let at : k * 8 ≡ 0 + k * 8 = omega arith in
    let place : c.from-start.result + k ≡ (c.args.first + k) % 16 = omega (arith, c.from-start.ensures) in
    let value : item ≡ number Doubleword (range_at s (0 + k * 8) 8) =
    c.number_in-value.ensures.value ∙ ap (λ n. big_number 8 (range_at s n 8)) at in
    let new : cpu_of c.set_register.new.image ≡ with_register Double ((c.args.first + k) % 16) item now =
    c.set_register.ensures ∙ ap (λ r. with_register Double r item now) place in
    load_step k Double c.args.first c.args.count s 0 (cpu_of c.args.image.now) now
    (cpu_of c.set_register.new.image) item (omega arith) c.loop-k.invariant value new

pub returns : goal.returns
returns c =
    let all : c.loop-k.k ≡ c.args.count = omega arith in
    c.loop-k.invariant
    ∙ ap (λ n. with_items n Double c.args.first (range_at c.args.from.now 0 (c.args.count * 8))
    (cpu_of c.args.image.now)) all
