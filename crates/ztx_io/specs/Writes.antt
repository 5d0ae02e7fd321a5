-- What writing does: bytes are appended to those taken, where the sink tells them.
use Rattle.std.specs.Prelude.{ℕ, List, length, take, Option}
use Rattle.std.specs.Io.KnownBytes.{Appends, Keeps}
use Rattle.ztx_io.specs.Reads.{IsCount}
use Rattle.ztx_io.specs.declared.Write.{Write}
use Rattle.ztx_io.specs.declared.Write.TheVariants as answer

-- one call of `write`: the first n bytes of the piece were appended, or nothing was
abbrev pub Writes : Option (List ℕ) → Option (List ℕ) → List ℕ → Write → Type 0
Writes held after piece (answer.Took n) = IsCount n (length piece) × Appends held after (take n piece)
Writes held after piece answer.Failed = Keeps held after
Writes held after piece answer.NoMemory = Keeps held after

-- a beginning of the text was appended, perhaps nothing
abbrev pub AppendsPrefix : Option (List ℕ) → Option (List ℕ) → List ℕ → Type 0
AppendsPrefix held after text = (n : ℕ) × Appends held after (take n text)
