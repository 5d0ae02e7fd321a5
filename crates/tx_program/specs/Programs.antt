-- What the bytes from an address on read as.
use Rattle.std.specs.Prelude.{ℕ, List, take, drop}
use Rattle.z_instr.specs.declared.instr.Instr.{Instr}
use Rattle.z_instr.specs.Computing.{reading_of}
use Rattle.tx_journal.specs.Image.{length_at}
use Rattle.std.specs.Prelude.{Option}

-- the instruction that the bytes from an address on read as, as many as the first of them says
abbrev pub read_at : List ℕ → ℕ → Option Instr
read_at storage place = reading_of (take (length_at storage place) (drop place storage))
