-- A row has doublewords.
use Rattle.std.proofs.Common.{◌≤◌, ◌*◌, length, ap, sym, subst, ◌∙◌}
use Rattle.z_arith.specs.declared.Width.{Width}
use Rattle.z_instr.specs.Operands.{bytes_of}
use Rattle.z_regs.specs.Cpu.{cpu_of}
use Rattle.z_effect.specs.StorageEffect.{with_items}
use Rattle.z_instr.specs.Kinds.{item}
use Rattle.z_effect.specs.After.{range_at}
use Rattle.z_storage.proofs.registers.take_registers.Goals as goal

pub take_row-requires-clause-room : goal.take_row-requires-clause-room
take_row-requires-clause-room c =
    subst (λ (w : Width). c.args.count * bytes_of (item w) ≤ length c.args.from.now)
    (c.is_row.ensures.double c.if-is_row.true) c.requires.room

pub returns-then-is_row : goal.returns-then-is_row
returns-then-is_row c =
    c.take_row.ensures
    ∙ ap (λ (w : Width). with_items c.args.count w c.args.first
    (range_at c.args.from.now 0 (c.args.count * bytes_of (item w))) (cpu_of c.args.image.now))
    (sym (c.is_row.ensures.double c.if-is_row.true))
