-- What an attempt asks of an instruction beside the operand that it has.
use Rattle.std.specs.Prelude.{◌≡◌, ℕ, ◌+◌, ◌<◌, false, ◌&&◌, nat_le, length, List, None, Ok}
use Rattle.z_regs.specs.Absolute.{absolute_ranges}
use Rattle.z_regs.specs.declared.ranges.Range.{Range}
use Rattle.z_instr.specs.declared.instr.Instr.{Instr}
use Rattle.z_instr.specs.Roles.{begins}
use Rattle.z_instr.specs.Table.{entry_at}
use Rattle.tx_constraint.specs.Kept.{next_text_breach, next_operand_breach}
use Rattle.tx_footprint.specs.Touched.{sets_of, touching, fit_of}
use Rattle.tx_serial.specs.Fate.{is_restricted, overflow_in}
use Rattle.tx_progress.specs.Progress.{Progress}
use Rattle.tx_progress.specs.Trial.{text_refusal_by, constraint_refusal}
use Rattle.tx_attempt.specs.Tracked.{Tracked}

-- The attempt has stored over none of the next six bytes; its begins allow the instruction, and one more where it
-- is one; and its constraints and its footprint admit the instruction with these operands.
pub record Admits (q : Progress) (i : Instr) (need : List Range) : Type 0 where
  pub bare : (k : ℕ) → k < 6 → q.overlay (q.cpu.address + k) ≡ None
  pub text : text_refusal_by q i ≡ None
  pub allowed : is_restricted q.nest (entry_at i.op.number) ≡ false
  pub shallow : (begins (entry_at i.op.number) && nat_le 16 (length q.nest)) ≡ false
  pub place : constraint_refusal (λ kept. next_operand_breach kept i need) i q.constraint ≡ None
  pub fits : overflow_in q.nest (touching q.footprint (absolute_ranges q.cpu.prefix need)) ≡ None

-- what grows with each instruction lets the attempt have one more, at an address and with these operands: it keeps the
-- constraints, where there are any, and the limits of the footprint
pub record KeepsLimits (t : Tracked) (i : Instr) (at : ℕ) (need : List Range) : Type 0 where
  pub text : constraint_refusal (λ kept. next_text_breach kept i at) i t.constraint ≡ None
  pub place : constraint_refusal (λ kept. next_operand_breach kept i need) i t.constraint ≡ None
  pub fits : fit_of (touching (sets_of t.footprint) need) ≡ Ok tt
