-- What a transaction instruction of n bytes does at a nesting depth, apart from beginning and ending
-- transactions.
use Rattle.std.specs.Prelude.{ℕ, ◌^◌, min, ◌&&◌, not, nat_eq, if◌then◌else◌}
use Rattle.z_arith.specs.declared.Width.TheVariants as width
use Rattle.z_instr.specs.declared.instr.Instr.{Instr}
use Rattle.z_instr.specs.declared.operand.Size.TheVariants.{Doubleword}
use Rattle.z_instr.specs.Operands.{first_address}
use Rattle.z_instr.specs.Roles.{asks_for_time}
use Rattle.z_instr.specs.Table.{entry_at}
use Rattle.z_regs.specs.Cpu.{Cpu}
use Rattle.z_instr.specs.declared.kind.Transaction.{Transaction}
use Rattle.z_instr.specs.declared.kind.Transaction.TheVariants.{Begin, BeginConstrained, End, Abort, ExtractDepth, StoreLasting, Assist}
use Rattle.z_effect.specs.Registers.{register, operand_in, with_register, with_condition, advanced}
use Rattle.z_effect.specs.StorageEffect.{stored}
use Rattle.z_effect.specs.Outcome.{Outcome, Did, Aborts, done}

-- how many delay turns an assist outside transactions gives: with 1 in M3 and a count in the word of R1, two
-- to the power of the count and at most 64, but none for 0; with another M3 none
unfoldable pub delay_of : Instr → Cpu → ℕ
delay_of i c =
    let count = operand_in width.Word c i.r1 in
    if nat_eq i.mask 1 && not (nat_eq count 0) then 2 ^ min count 6 else 0

-- how many turns the program waits after an instruction outside transactions: behind an assist alone
abbrev pub delay_given : Instr → Cpu → ℕ
delay_given i c = if asks_for_time (entry_at i.op.number) then delay_of i c else 0

unfoldable pub transaction_effect : Transaction → ℕ → Instr → Cpu → ℕ → Outcome
transaction_effect Begin n i c depth = done (advanced n (with_condition 0 c))
transaction_effect BeginConstrained n i c depth = done (advanced n (with_condition 0 c))
transaction_effect End n i c depth = done (advanced n (with_condition (if nat_eq depth 0 then 2 else 0) c))
transaction_effect Abort n i c depth = Aborts (first_address i c.general)
transaction_effect ExtractDepth n i c depth = done (advanced n (with_register width.Word i.r1 depth c))
transaction_effect StoreLasting n i c depth = Did (advanced n c) (stored Doubleword (register c i.r1))
transaction_effect Assist n i c depth = done (advanced n c)
