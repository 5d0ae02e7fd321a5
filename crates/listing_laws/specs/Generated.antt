-- What is said of the generator's listings.
use Rattle.std.specs.Prelude.{ℕ, List}
use Rattle.tx_journal.specs.Content.{Content}
use Rattle.z_assemble.specs.Whole.{Stands}

-- the assembler has an image for the text
abbrev pub HasImage : List ℕ → Type 0
HasImage text = (image : Content) × Stands text image
