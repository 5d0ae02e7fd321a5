-- The sizes of lines and blocks, and the limits of a footprint.
use Rattle.std.specs.Prelude.{ℕ}

-- the bytes of a line, and of a block
abbrev pub line_size : ℕ
line_size = 256

abbrev pub block_size : ℕ
block_size = 128

-- the blocks of storage
abbrev pub storage_blocks : ℕ
storage_blocks = 8192

-- the most lines that a transaction touches, and the most blocks that it stores into
abbrev pub line_limit : ℕ
line_limit = 384

abbrev pub block_limit : ℕ
block_limit = 64
