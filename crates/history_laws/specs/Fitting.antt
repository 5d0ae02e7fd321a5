-- What it is for an entry to fit on a flat state.
use Rattle.std.specs.Prelude.{◌≡◌, Some}
use Rattle.tx_journal.specs.declared.entries.Entry.{Entry}
use Rattle.tx_serial.specs.Apply.{apply}
use Rattle.tx_serial.specs.Flat.{FlatState}

-- it can come next in a serial history, and leaves a state
abbrev pub Fits : FlatState → Entry → Type 0
Fits f entry = (after : FlatState) × (apply f entry ≡ Some after)
