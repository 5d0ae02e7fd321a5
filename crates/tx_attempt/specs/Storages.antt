-- A list of bytes as storage.
use Rattle.std.specs.Prelude.{ℕ, List, get_or}
use Rattle.tx_serial.specs.Flat.{Storage}

-- with zeros behind its end
abbrev pub storage_of : List ℕ → Storage
storage_of bytes address = get_or bytes address 0
