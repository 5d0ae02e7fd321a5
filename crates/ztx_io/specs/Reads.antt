-- What reading does: bytes are taken from the front of those that are left, where the source tells them.
use Rattle.std.specs.Prelude.{◌≡◌, ℕ, ◌<◌, ◌≤◌, List, length, take, drop, Option}
use Rattle.std.specs.Io.KnownBytes.{Consumes, IsAtEnd, Keeps}
use Rattle.ztx_io.specs.declared.Read.{Read}
use Rattle.ztx_io.specs.declared.Read.TheVariants as answer
use Rattle.ztx_io.specs.declared.whole.InFault.{InFault}
use Rattle.ztx_io.specs.declared.whole.InFault.TheVariants as fault

-- at least one, and at most as many as there is room for
abbrev pub IsCount : ℕ → ℕ → Type 0
IsCount n room = (0 < n) × (n ≤ room)

-- one call of `read`: the first n bytes of the buffer are the next n that were left and its rest is as it
-- was; or nothing is left; or nothing was taken
abbrev pub Reads : Option (List ℕ) → Option (List ℕ) → List ℕ → List ℕ → Read → Type 0
Reads left after buffer filled (answer.Got n) =
    IsCount n (length buffer) × Consumes left after (take n filled) × (drop n filled ≡ drop n buffer)
Reads left after buffer filled answer.End = Keeps left after × IsAtEnd after
Reads left after buffer filled answer.Failed = Keeps left after

-- all that was left came, up to the end, and it is within the limit
abbrev pub ReadsWhole : ℕ → Option (List ℕ) → Option (List ℕ) → List ℕ → Type 0
ReadsWhole limit left after bytes = (length bytes ≤ limit) × Consumes left after bytes × IsAtEnd after

-- some bytes came, more than the limit
abbrev pub PassesLimit : ℕ → Option (List ℕ) → Option (List ℕ) → Type 0
PassesLimit limit left after = (got : List ℕ) × Consumes left after got × (limit < length got)

-- some bytes came, perhaps none, and not more than the limit
abbrev pub StaysInLimit : ℕ → Option (List ℕ) → Option (List ℕ) → Type 0
StaysInLimit limit left after = (got : List ℕ) × Consumes left after got × (length got ≤ limit)

-- what came before reading was given up
abbrev pub GivesUp : ℕ → Option (List ℕ) → Option (List ℕ) → InFault → Type 0
GivesUp limit left after fault.TooLong = PassesLimit limit left after
GivesUp limit left after fault.Memory = StaysInLimit limit left after
GivesUp limit left after fault.Read = StaysInLimit limit left after
