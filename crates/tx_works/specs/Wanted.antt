-- What a CPU asks for in its next turn: the bytes that it has to fetch or store, by absolute addresses.
use Rattle.std.specs.Prelude.{◌≡◌, ℕ, ◌+◌, ◌≤◌, List, [], ◌∷◌, Option, Some, None}
use Rattle.z_regs.specs.Absolute.{absolute_ranges}
use Rattle.z_regs.specs.Prefix.{storage_size}
use Rattle.z_regs.specs.declared.ranges.Range.{Range}
use Rattle.z_regs.specs.declared.waiting.Waiting.{Waiting}
use Rattle.z_instr.specs.declared.instr.Instr.{Instr}
use Rattle.tx_serial.specs.Fate.{Fate, Goes, Ends, Stops, fate}
use Rattle.tx_serial.specs.Flat.{Pending, Storage}
use Rattle.tx_progress.specs.Local.{Local}
use Rattle.tx_progress.specs.Trial.{fate_by_progress}
use Rattle.tx_meaning.specs.Limits.{Setting}
use Rattle.tx_meaning.specs.Needs.{stored, interruption_ranges}
use Rattle.tx_meaning.specs.State.{State, flat_of, attempt_of, cpu_of}
use Rattle.tx_keeping.specs.Kept.{text_of}
use Rattle.tx_works.specs.Ready.{IsInReach, image_storage}

-- the operands of an instruction that goes; one that does not go asks for nothing
abbrev pub operands_of : Fate → List Range
operands_of (Goes instr ranges) = ranges
operands_of (Ends why) = []
operands_of (Stops e) = []

-- by real addresses: those of a pending block, else of a waiting interruption, else of the next instruction
abbrev pub real_ranges : Option Pending → Option Waiting → Fate → List Range
real_ranges (Some b) waiting next = stored b.address 256 ∷ []
real_ranges None (Some w) next = interruption_ranges w.block
real_ranges None None next = operands_of next

unfoldable pub wanted : Setting → State → ℕ → List Range
wanted m s i =
    let f = flat_of m s in
    absolute_ranges (cpu_of m s i).prefix
    (real_ranges (f.pending i) (f.waiting i) (fate f.text (attempt_of m s i)))

-- ---- the same by what is kept of a CPU, and storage

unfoldable pub wanted_by : Setting → Storage → Local → List Range
wanted_by m storage l =
    absolute_ranges l.attempt.cpu.prefix
    (real_ranges l.pending l.waiting (fate_by_progress (text_of m) storage l.attempt))

-- what is left to do lies in storage, and the next instruction is the one that the image's storage says, with
-- operands that are accessible
pub record MayWant (m : Setting) (storage : Storage) (l : Local) : Type 0 where
  pub inside : (b : Pending) → l.pending ≡ Some b → b.address + 256 ≤ storage_size
  pub reach : (instr : Instr) (ranges : List Range)
      → fate_by_progress (text_of m) storage l.attempt ≡ Goes instr ranges
      → IsInReach l.attempt.cpu.prefix ranges
  pub text : fate_by_progress (text_of m) (image_storage m) l.attempt
      ≡ fate_by_progress (text_of m) storage l.attempt
