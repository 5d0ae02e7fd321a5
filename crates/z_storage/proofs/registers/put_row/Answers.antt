-- In a row the register behind k others is that of the definition, which goes on with 0 after 15.
use Rattle.std.proofs.Common.{◌≡◌, arith, rules, ◌∙◌, ap, length, ◌+◌, ◌*◌, ◌%◌}
use Rattle.z_arith.specs.declared.Width.TheVariants.{Double}
use Rattle.z_instr.specs.declared.operand.Size.TheVariants.{Doubleword}
use Rattle.z_regs.specs.Cpu.{cpu_of}
use Rattle.z_effect.specs.Registers.{register}
use Rattle.z_effect.specs.StorageEffect.{items, stored}
use Rattle.z_effect.specs.After.{written}
use Rattle.z_storage.proofs.Items.{none_stored, store_step, length-stored}
use Rattle.z_storage.proofs.registers.put_row.Goals as goal

pub loop-k-init : goal.loop-k-init
loop-k-init c =
    record {
      so_far = none_stored Double c.args.first c.args.into.now 0 (cpu_of c.args.image.now);
      size = search rules;
    }

pub loop-k-preserved : goal.loop-k-preserved
loop-k-preserved c =
    let now = c.loop-k.into in
    let k = c.loop-k.k in
    let cpu = cpu_of c.args.image.now in
    let at : k * 8 ≡ 0 + k * 8 = omega arith in
    let place : c.from-start.result + k ≡ (c.args.first + k) % 16 = omega (arith, c.from-start.ensures) in
    let value = register cpu ((c.args.first + k) % 16) in
    let same : c.register_at.result ≡ value = c.register_at.ensures ∙ ap (λ r. register cpu r) place in
    let new : c.put_at.new.into ≡ written now (0 + k * 8) (stored Doubleword value) =
    c.put_at.ensures ∙ (λ j. written now (at j) (stored Doubleword (same j))) in
    record {
      so_far =
          store_step k Double c.args.first c.args.into.now now c.put_at.new.into 0 cpu (omega arith)
          c.loop-k.invariant.so_far new;
      size = ap length new ∙ length-stored now (0 + k * 8) Doubleword value (search rules) ∙ c.loop-k.invariant.size;
    }

pub returns : goal.returns
returns c =
    let all : c.loop-k.k ≡ c.args.count = omega arith in
    c.loop-k.invariant.so_far
    ∙ ap (λ n. written c.args.into.now 0 (items n Double c.args.first (cpu_of c.args.image.now))) all
