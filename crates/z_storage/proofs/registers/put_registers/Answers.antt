-- A row has doublewords.
use Rattle.std.proofs.Common.{◌≤◌, ◌*◌, length, ap, sym, subst, ◌∙◌}
use Rattle.z_arith.specs.declared.Width.{Width}
use Rattle.z_instr.specs.Operands.{bytes_of}
use Rattle.z_regs.specs.Cpu.{cpu_of}
use Rattle.z_effect.specs.StorageEffect.{items}
use Rattle.z_instr.specs.Kinds.{item}
use Rattle.z_effect.specs.After.{written}
use Rattle.z_storage.proofs.registers.put_registers.Goals as goal

pub put_row-requires-clause-room : goal.put_row-requires-clause-room
put_row-requires-clause-room c =
    subst (λ (w : Width). c.args.count * bytes_of (item w) ≤ length c.args.into.now)
    (c.is_row.ensures.double c.if-is_row.true) c.requires.room

pub returns-then-is_row : goal.returns-then-is_row
returns-then-is_row c =
    c.put_row.ensures
    ∙ ap (λ (w : Width). written c.args.into.now 0 (items c.args.count w c.args.first (cpu_of c.args.image.now)))
    (sym (c.is_row.ensures.double c.if-is_row.true))
