-- What a footprint is seen as, and its limits.
use Rattle.std.specs.Prelude.{◌≡◌, ℕ, ◌≤◌, Bool, false, ◌||◌, nat_lt, if◌then◌else◌, List, length, Result, Ok}
use Rattle.std.specs.Prelude.{Err}
use Rattle.std.specs.List.{slice_index_or}
use Rattle.bit_set.specs.Counts.{count_below}
use Rattle.z_regs.specs.declared.ranges.Range.{Range}
use Rattle.line_table.specs.Sizes.{storage_lines}
use Rattle.tx_footprint.specs.declared.footprint.Overflow.{Overflow}
use Rattle.tx_footprint.specs.declared.footprint.Overflow.TheVariants.{Fetch, Store}
use Rattle.tx_footprint.specs.Sizes.{line_limit, block_limit}
use Rattle.tx_footprint.specs.Sizes.{storage_blocks}
use Rattle.tx_footprint.specs.Places.{fetches, stores, stores_block}

-- the lines that were fetched, the lines that were stored, and the blocks that were stored
pub record Sets : Type 0 where
  pub fetched : ℕ → Bool
  pub stored : ℕ → Bool
  pub blocks : ℕ → Bool

abbrev pub untouched : Sets
untouched = record { fetched = λ line. false; stored = λ line. false; blocks = λ block. false }

-- these ranges are touched too
abbrev pub touching : Sets → List Range → Sets
touching sets ranges =
    record {
      fetched = λ line. sets.fetched line || fetches ranges line;
      stored = λ line. sets.stored line || stores ranges line;
      blocks = λ block. sets.blocks block || stores_block ranges block;
    }

-- how many lines, each counted once whether it was fetched or stored or both, and how many stored blocks
abbrev pub line_count : Sets → ℕ
line_count sets = count_below storage_lines (λ line. sets.fetched line || sets.stored line)

abbrev pub block_count : Sets → ℕ
block_count sets = count_below storage_blocks sets.blocks

-- whether sets keep the limits
abbrev pub fit_of : Sets → Result (Unit {0}) Overflow
fit_of sets =
    if nat_lt line_limit (line_count sets) then Err Fetch else
    (if nat_lt block_limit (block_count sets) then Err Store else Ok tt)

-- a footprint as data: a mark for each line and block of storage
pub record Touched : Type 0 where
  pub fetched : List Bool
  pub stored : List Bool
  pub blocks : List Bool

abbrev pub sets_of : Touched → Sets
sets_of t =
    record {
      fetched = λ line. slice_index_or t.fetched line false;
      stored = λ line. slice_index_or t.stored line false;
      blocks = λ block. slice_index_or t.blocks block false;
    }

-- what is kept beside the marks: which lines were touched in either way, and how many lines and blocks
pub record IsKept (touched fetched stored blocks : List Bool) (lines stored_blocks : ℕ) : Type 0 where
  pub touched_size : length touched ≡ storage_lines
  pub fetched_size : length fetched ≡ storage_lines
  pub stored_size : length stored ≡ storage_lines
  pub blocks_size : length blocks ≡ storage_blocks
  pub union : (line : ℕ)
      → slice_index_or touched line
      false ≡ (slice_index_or fetched line false || slice_index_or stored line false)
  pub counted_lines : lines ≡ count_below storage_lines (λ line. slice_index_or touched line false)
  pub counted_blocks : stored_blocks ≡ count_below storage_blocks (λ block. slice_index_or blocks block false)
  pub most_lines : lines ≤ line_limit
  pub most_blocks : stored_blocks ≤ block_limit
