-- The sizes of a store cache.
use Rattle.std.specs.Prelude.{ℕ}

-- the bytes of a block, and its doublewords
abbrev pub block_size : ℕ
block_size = 128

abbrev pub block_doublewords : ℕ
block_doublewords = 16

-- the blocks of storage
abbrev pub storage_blocks : ℕ
storage_blocks = 8192

-- the most blocks that are gathered
abbrev pub block_limit : ℕ
block_limit = 64
