use Rattle.std.proofs.Common.{◌≡◌, true, sym, subst}
use Rattle.std.proofs.Math.Facts.{to_z-of_z}
use Rattle.z_instr.specs.Ranges.{is_within, bounds}
use Rattle.z_decode.proofs.Rows.{wide_immediate, wide_fits}
use Rattle.z_decode.proofs.spell.numbers_of.Goals as goal

pub last_bits-requires-3 : goal.last_bits-requires-3
last_bits-requires-3 c =
    let i = c.args.instr.now in
    subst (λ z. is_within (bounds 2147483648 4294967296) z ≡ true)
    (sym (to_z-of_z (wide_fits i.imm (wide_immediate i)))) (wide_immediate i)
