use Rattle.std.proofs.Common.{◌≡◌, arith, ◌*◌, ◌+◌, ◌∙◌, ap}
use Rattle.byteorder.specs.Endian.{big_number}
use Rattle.z_instr.specs.Operands.{bytes_of}
use Rattle.z_regs.specs.Cpu.{cpu_of}
use Rattle.z_effect.specs.StorageEffect.{number}
use Rattle.z_instr.specs.Kinds.{item}
use Rattle.z_effect.specs.After.{range_at}
use Rattle.z_storage.proofs.Items.{none_loaded, load_step}
use Rattle.z_storage.proofs.registers.take_items.Goals as goal

pub loop-k-init : goal.loop-k-init
loop-k-init c =
    none_loaded c.args.w c.args.first (range_at c.args.from.now 0
    (c.args.count * bytes_of (item c.args.w))) (cpu_of c.args.image.now)

pub loop-k-preserved : goal.loop-k-preserved
loop-k-preserved c =
    let w = c.args.w in
    let s = c.args.from.now in
    let b = bytes_of (item w) in
    let many : c.bytes.result ≡ b = c.bytes.ensures.count ∙ ap bytes_of c.item.ensures in
    let value : c.number_in-value.result ≡ number (item w) (range_at s (0 + c.loop-k.k * b) b) =
    c.number_in-value.ensures.value ∙ (λ j. big_number (many j) (range_at s (c.place.ensures j) (many j))) in
    load_step c.loop-k.k w c.args.first c.args.count s 0 (cpu_of c.args.image.now)
    (cpu_of c.loop-k.image) (cpu_of c.put.new.image) c.number_in-value.result
    (omega arith) c.loop-k.invariant
    value c.put.ensures
