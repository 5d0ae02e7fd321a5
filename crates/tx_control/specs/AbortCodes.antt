-- The abort codes of the machine, as the architecture numbers them; 255 is for constrained transactions that are
-- rejected too often, and codes above it are those of TABORT.
use Rattle.std.specs.Prelude.{ℕ}

abbrev pub external_interruption : ℕ
external_interruption = 2

abbrev pub program_interruption : ℕ
program_interruption = 4

abbrev pub fetch_overflow : ℕ
fetch_overflow = 7

abbrev pub store_overflow : ℕ
store_overflow = 8

abbrev pub fetch_conflict : ℕ
fetch_conflict = 9

abbrev pub store_conflict : ℕ
store_conflict = 10

abbrev pub restricted_instruction : ℕ
restricted_instruction = 11

abbrev pub filtered_exception : ℕ
filtered_exception = 12

abbrev pub nesting_depth : ℕ
nesting_depth = 13

abbrev pub starved : ℕ
starved = 255
