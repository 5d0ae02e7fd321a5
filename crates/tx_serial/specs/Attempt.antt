-- What a CPU has done alone since its outermost begin.
use Rattle.std.specs.Prelude.{List, [], ◌∷◌, Option, Some, None}
use Rattle.z_regs.specs.Cpu.{Cpu}
use Rattle.z_regs.specs.declared.ranges.Range.{Range}
use Rattle.tx_control.specs.declared.begins.Begin.{Begin}
use Rattle.tx_constraint.specs.Constraints.{Step}
use Rattle.tx_constraint.specs.Constraints.{Attempt, begun}
use Rattle.tx_footprint.specs.Touched.{Sets, untouched, touching}
use Rattle.store_cache.specs.Overlay.{Store}
use Rattle.tx_serial.specs.Flat.{Storage}

-- the transaction is open, it is committed, its last instruction ended in a fixed-point overflow exception,
-- or there is no run of so many instructions
pub data Mark : Type 0 where
  Open : Mark
  Committed : Mark
  Overflowed : Mark
  Missing : Mark

-- The CPU as it is now; its own copy of storage; the stores that made it, in order, and those of NTSTG
-- among them; the open begins, oldest first; the operands of all instructions by absolute addresses, in
-- order; the instructions, the begin first, each with its address and its operands by real addresses; and
-- the mark.
pub record Run : Type 0 where
  pub cpu : Cpu
  pub copy : Storage
  pub stores : List Store
  pub lasting : List Store
  pub nest : List Begin
  pub touched : List Range
  pub steps : List Step
  pub mark : Mark

-- no instruction yet
abbrev pub at_rest : Storage → Cpu → Run
at_rest storage c = record {
  cpu = c;
  copy = storage;
  stores = [];
  lasting = [];
  nest = [];
  touched = [];
  steps = [];
  mark = Open;
}

abbrev pub missing : Run → Run
missing p = record p { mark = Missing }

-- the lines that were fetched, the lines that were stored, and the blocks that were stored
abbrev pub footprint : Run → Sets
footprint p = touching untouched p.touched

-- the begin's address and the instructions behind it, for the constraints
abbrev pub attempt_of : List Step → Attempt
attempt_of [] = begun 0
attempt_of (begin ∷ steps) = record { begin = begin.at; steps = steps }

abbrev pub last_step : List Step → Option Step
last_step [] = None
last_step (s ∷ []) = Some s
last_step (s ∷ t ∷ rest) = last_step (t ∷ rest)
