-- When an attempt may go on with one instruction more.
use Rattle.std.specs.Prelude.{◌≡◌, ℕ, ◌<◌, ◌≤◌, true, false, length, is_some, if◌then◌else◌}
use Rattle.std.specs.Prelude.{List, Option, None, Some, Ok}
use Rattle.z_regs.specs.Cpu.{Cpu}
use Rattle.z_regs.specs.Absolute.{absolute_ranges}
use Rattle.z_regs.specs.declared.ranges.Range.{Range}
use Rattle.z_instr.specs.declared.instr.Instr.{Instr}
use Rattle.z_instr.specs.Roles.{begins, is_end}
use Rattle.z_instr.specs.Table.{entry_at, kind_at}
use Rattle.z_effect.specs.Beginning.{begin_of}
use Rattle.z_effect.specs.Registers.{register}
use Rattle.tx_control.specs.declared.begins.Begin.{Begin}
use Rattle.tx_serial.specs.Fate.{operands}
use Rattle.tx_attempt.specs.declared.advancing.Before.{Before}
use Rattle.tx_constraint.specs.Kept.{Kept, added}
use Rattle.tx_constraint.specs.Octowords.{with_octowords}
use Rattle.tx_footprint.specs.Touched.{sets_of, touching, fit_of}
use Rattle.tx_attempt.specs.Performed.{is_transaction}
use Rattle.tx_attempt.specs.Tracked.{Tracked}

-- a constrained attempt has run one more instruction, with these operands
abbrev pub grown : List Range → Option Kept → Option Kept
grown ranges None = None
grown ranges (Some kept) = Some (added kept ranges)

-- There is a begin more or less, as the instruction says, and one is left open; what is touched keeps the
-- limits; and a constrained attempt, which begins nothing more, has few instructions and octowords.
pub record MayAdvance (t : Tracked) (i : Instr) (prefix : Option ℕ) (need : List Range) : Type 0 where
  pub depth : begins (entry_at i.op.number) ≡ true → length t.nest < 16
  pub leaves : is_end (entry_at i.op.number) ≡ true → 1 < length t.nest
  pub plain : is_some t.constraint ≡ true → begins (entry_at i.op.number) ≡ false
  pub few : (k : Kept) → t.constraint ≡ Some k → k.count < 32
  pub octowords : (k : Kept) → t.constraint ≡ Some k → length (with_octowords k.octowords need) ≤ 4
  pub fits : fit_of (touching (sets_of t.footprint) (absolute_ranges prefix need)) ≡ Ok tt

-- the begin that an instruction opens, where it opens one
abbrev pub opened_by : Instr → List ℕ → Option Begin
opened_by i general = if begins (entry_at i.op.number) then Some (begin_of i general) else None

-- what is known of a CPU as it was before an instruction
pub record IsBefore (b : Before) (i : Instr) (c : Cpu) : Type 0 where
  pub prefix : b.prefix ≡ c.prefix
  pub source : b.source ≡ register c i.r1
  pub opens : b.opens ≡ opened_by i c.general

-- and some CPU was so, with these operands of the instruction
pub record WasBefore (b : Before) (i : Instr) (need : List Range) : Type 0 where
  pub cpu : Cpu
  pub known : IsBefore b i cpu
  pub operands_are : need ≡ operands i cpu

-- An attempt may go on with an instruction that is not about transactions, and some CPU has these operands of it.
pub record MayStep (t : Tracked) (prefix : Option ℕ) (need : List Range) : Type 0 where
  pub instr : Instr
  pub cpu : Cpu
  pub plain : is_transaction (kind_at instr.op.number) ≡ false
  pub operands_are : need ≡ operands instr cpu
  pub advances : MayAdvance t instr prefix need
