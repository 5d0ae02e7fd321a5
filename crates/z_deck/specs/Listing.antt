-- The listing of a deck.
use Rattle.std.specs.Prelude.{ℕ, zero, suc, ◌+◌, ◌*◌, List, [], ◌++◌, take, drop, codes, if◌then◌else◌}
use Rattle.std.specs.Prelude.{Option, unwrap_or}
use Rattle.std.specs.Fmt.{decimal}
use Rattle.hex.specs.Hex.{encode_lower}
use Rattle.z_deck.specs.Writing.{is_zero}

abbrev pub line : List ℕ → List ℕ
line words = words ++ codes "\n"

-- a CPU that enters there, or at 0
abbrev pub cpu_line : Option ℕ → List ℕ
cpu_line entry = line (codes " CPU " ++ decimal (unwrap_or entry 0))

-- where a block of 32 bytes begins, the first at 8,192
abbrev pub block_address : ℕ → ℕ
block_address i = 8192 + 32 * i

abbrev pub block_at : List ℕ → ℕ → List ℕ
block_at storage i = take 32 (drop (block_address i) storage)

abbrev pub org_line : ℕ → List ℕ
org_line address = line (codes " ORG " ++ decimal address)

abbrev pub data_line : List ℕ → List ℕ
data_line bytes = line (codes " DC X'" ++ (encode_lower bytes ++ codes "'"))

-- the lines that place a block which is not all zero
unfoldable pub block_lines : List ℕ → ℕ → List ℕ
block_lines storage i =
    if is_zero (block_at storage i) then []
    else org_line (block_address i) ++ data_line (block_at storage i)

-- the lines of the first so many blocks
unfoldable pub placing_lines : ℕ → List ℕ → List ℕ
placing_lines zero storage = []
placing_lines (suc i) storage = placing_lines i storage ++ block_lines storage i

-- all blocks up to the end of storage
abbrev pub block_count : ℕ
block_count = 32512

-- the listing of storage that is entered there
abbrev pub listing_of : List ℕ → Option ℕ → List ℕ
listing_of storage entry = cpu_line entry ++ (placing_lines block_count storage ++ line (codes " END"))
