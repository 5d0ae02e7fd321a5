use Rattle.std.proofs.Common.{◌≡◌, arith, rules, ◌∙◌, ap, length, ◌+◌, ◌*◌, ◌%◌}
use Rattle.z_instr.specs.Operands.{bytes_of}
use Rattle.z_regs.specs.Cpu.{cpu_of}
use Rattle.z_effect.specs.Registers.{register}
use Rattle.z_effect.specs.StorageEffect.{stored}
use Rattle.z_instr.specs.Kinds.{item}
use Rattle.z_effect.specs.After.{written}
use Rattle.z_storage.proofs.Items.{none_stored, store_step, length-stored}
use Rattle.z_storage.proofs.registers.put_items.Goals as goal

pub loop-k-init : goal.loop-k-init
loop-k-init c =
    record {
      so_far = none_stored c.args.w c.args.first c.args.into.now 0 (cpu_of c.args.image.now);
      size = search rules;
    }

pub loop-k-preserved : goal.loop-k-preserved
loop-k-preserved c =
    let w = c.args.w in
    let now = c.loop-k.into in
    let at = 0 + c.loop-k.k * bytes_of (item w) in
    let value = register (cpu_of c.args.image.now) ((c.args.first + c.loop-k.k) % 16) in
    let new : c.put_item.new.into ≡ written now at (stored (item w) value) =
    c.put_item.ensures ∙ (λ j. written now (c.place.ensures j) (stored (item w) (c.register-value.ensures j))) in
    record {
      so_far =
          store_step c.loop-k.k w c.args.first c.args.into.now now
          c.put_item.new.into 0 (cpu_of c.args.image.now) (omega arith)
          c.loop-k.invariant.so_far new;
      size = ap length new ∙ length-stored now at (item w) value (search rules) ∙ c.loop-k.invariant.size;
    }
