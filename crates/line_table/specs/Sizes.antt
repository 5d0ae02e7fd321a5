-- How many lines there are, and how many a CPU may hold.
use Rattle.std.specs.Prelude.{ℕ}

-- the lines of storage, of 256 bytes each
abbrev pub storage_lines : ℕ
storage_lines = 4096

-- the most lines that a CPU holds: its first cache has so many
abbrev pub held_limit : ℕ
held_limit = 384
