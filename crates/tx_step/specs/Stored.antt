-- Lines that cover what live attempts have stored into.
use Rattle.std.specs.Prelude.{◌≡◌, ℕ, true, List}
use Rattle.tx_meaning.specs.Limits.{Setting}
use Rattle.tx_meaning.specs.State.{State, footprint_of}
use Rattle.step_changes.specs.Stored.{has}
use Rattle.step_changes.specs.declared.stored.StoredLine.{StoredLine}

-- each line that a live attempt has stored into is among them
abbrev pub Covers : Setting → State → List StoredLine → Type 0
Covers m s lines = (i line : ℕ) → (footprint_of m s i).stored line ≡ true → has lines i line ≡ true
