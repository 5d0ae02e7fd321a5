-- Storage as a list of bytes, read as a function of addresses.
use Rattle.std.specs.Prelude.{ℕ, List, get_or}
use Rattle.tx_serial.specs.Flat.{Storage}

-- addresses behind the end of the list have zeros
abbrev pub function_of : List ℕ → Storage
function_of bytes = λ a. get_or bytes a 0
