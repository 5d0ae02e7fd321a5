-- When the line of a plain instruction's operand is there.
use Rattle.std.specs.Prelude.{◌≡◌, ℕ, Bool, true, false, Option}
use Rattle.line_table.specs.declared.table.Mode.{Mode}
use Rattle.line_table.specs.declared.table.Mode.TheVariants.{Shared, Exclusive}
use Rattle.tx_program.specs.Shapes.{touched_by}
use Rattle.tx_program.specs.declared.ready.Shape.{Shape}
use Rattle.tx_program.specs.declared.ready.Touch.{Touch}
use Rattle.tx_program.specs.declared.ready.Touch.TheVariants as touch
use Rattle.tx_meaning.specs.Asking.{is_there}
use Rattle.tx_meaning.specs.Limits.{Setting}
use Rattle.tx_meaning.specs.Needs.{operand_needs}
use Rattle.tx_keeping.specs.Kept.{Kept}
use Rattle.tx_keeping.specs.Turn.{KTurned, k_with_lines}

-- the mode in which the CPU holds the line of the operand is enough
abbrev pub is_held : Touch → Option Mode → Bool
is_held touch.Nothing held = true
is_held touch.Fetch held = is_there Shared held
is_held touch.Store held = is_there Exclusive held
is_held touch.Other held = false

-- nobody is asked for a line, and what comes next is done with what is kept
pub record IsThere (i : ℕ) (s : Shape) (first : ℕ) (k : Kept) : Type 0 where
  pub goes_on : (m : Setting) (next : Kept → KTurned) → next k
      ≡ k_with_lines m i (operand_needs (k.locals i).attempt.cpu.prefix (touched_by s.touch first s.size)) k next
