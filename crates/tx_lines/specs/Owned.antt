-- What contracts see of the lines of a machine: the bytes of storage, and who holds which line.
use Rattle.std.specs.Prelude.{ℕ, List, get_or, Option}
use Rattle.line_table.specs.declared.table.Mode.{Mode}
use Rattle.line_table.specs.Holders.{Holders, mode_in}
use Rattle.tx_meaning.specs.Flat.{Storage}
use Rattle.tx_run.specs.Local.{Beside}
use Rattle.tx_run.specs.Parts.{Parts, local_of}

-- the bytes of storage, the number of CPUs, and the modes of the lines for one CPU after the other
pub record Owned : Type 0 where
  pub bytes : List ℕ
  pub cpus : ℕ
  pub modes : List (Option Mode)

-- a list of bytes as storage, with zeros behind its end
abbrev pub storage_of : List ℕ → Storage
storage_of bytes address = get_or bytes address 0

abbrev pub storage_in : Owned → Storage
storage_in lines = storage_of lines.bytes

abbrev pub holders_in : Owned → Holders
holders_in lines = mode_in (record { cpus = lines.cpus; modes = lines.modes })

-- a CPU with the storage of the lines beside it
abbrev pub with_lines : Parts → Owned → Beside
with_lines cpu lines = record { local = local_of cpu; storage = storage_in lines }
