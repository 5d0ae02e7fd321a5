-- The lines of shown storage: bytes, and the fields of diagnostic blocks.
use Rattle.std.specs.Prelude.{ℕ, zero, suc, ◌+◌, ◌-◌, ◌*◌, ◌/◌, List, ◌++◌, [], take, drop, min, codes}
use Rattle.std.specs.Prelude.{if◌then◌else◌, slice_index}
use Rattle.std.specs.List.{flat_map}
use Rattle.byteorder.specs.Endian.{big_number}
use Rattle.hex.specs.Hex.{encode_lower}
use Rattle.tx_journal.specs.declared.image.Show.{Show}
use Rattle.report_text.specs.Digits.{labelled, word_text}

-- so many bytes from an address on
abbrev pub bytes_at : List ℕ → ℕ → ℕ → List ℕ
bytes_at storage first count = take count (drop first storage)

unfoldable pub bytes_line : ℕ → List ℕ → List ℕ
bytes_line address bytes =
    codes "M " ++ (word_text address ++ (codes " " ++ (encode_lower bytes ++ codes "\n")))

-- the first so many lines of sixteen bytes each, the last with what is left
abbrev pub bytes_lines : List ℕ → ℕ → ℕ → ℕ → List ℕ
bytes_lines storage first count zero = []
bytes_lines storage first count (suc k) =
    bytes_lines storage first count k
    ++ bytes_line (first + 16 * k) (bytes_at storage (first + 16 * k) (min 16 (count - 16 * k)))

abbrev pub bytes_text : List ℕ → ℕ → ℕ → List ℕ
bytes_text storage first count = bytes_lines storage first count ((count + 15) / 16)

-- the number in so many bytes of a block, its leftmost byte first
unfoldable pub number_at : List ℕ → ℕ → ℕ → ℕ
number_at block place count = big_number count (drop place block)

-- what the block is, how deep the transaction was, and its abort code
unfoldable pub block_head : List ℕ → List ℕ
block_head block =
    labelled (codes " FORMAT ") (slice_index block 0)
    ++ (codes " FLAGS " ++ (encode_lower (bytes_at block 1 1)
    ++ (labelled (codes " DEPTH ") (number_at block 6 2) ++ labelled (codes " CODE ") (number_at block 8 8))))

-- the conflict token, the address of the aborted program, and the code of its exception
unfoldable pub block_tail : List ℕ → List ℕ
block_tail block =
    codes " TOKEN " ++ (encode_lower (bytes_at block 16 8)
    ++ (codes " AT " ++ (encode_lower (bytes_at block 24 8)
    ++ (codes " PI " ++ (encode_lower (bytes_at block 38 2) ++ codes "\n")))))

-- the fields of a diagnostic block
unfoldable pub block_line : ℕ → List ℕ → List ℕ
block_line first block = codes "D " ++ (word_text first ++ (block_head block ++ block_tail block))

-- what is shown of storage at one place
unfoldable pub show_text : List ℕ → Show → List ℕ
show_text storage s =
    if s.fields then block_line s.first (bytes_at storage s.first 256)
    else bytes_text storage s.first s.length

-- and at all, in the order of the listing
abbrev pub shows_text : List ℕ → List Show → List ℕ
shows_text storage shows = flat_map (show_text storage) shows
