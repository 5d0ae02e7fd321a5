-- The sizes of the copies of lines.
use Rattle.std.specs.Prelude.{ℕ}

-- the lines of storage, and the bytes of each
abbrev pub storage_lines : ℕ
storage_lines = 4096

abbrev pub line_size : ℕ
line_size = 256

-- the most lines that are kept
abbrev pub copy_limit : ℕ
copy_limit = 384
