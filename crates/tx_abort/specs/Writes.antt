-- What writes of fields leave, one after the other.
use Rattle.std.specs.Prelude.{ℕ, ◌+◌, List, [], ◌∷◌, ◌++◌, take, drop}
use Rattle.byteorder.specs.Endian.{big_bytes}
use Rattle.tx_abort.specs.Block.{Field}

-- the bytes with a field written over them
unfoldable pub with_field : Field → List ℕ → List ℕ
with_field f bytes = take f.first bytes ++ (big_bytes f.length f.value ++ drop (f.first + f.length) bytes)

-- the same for fields in turn
abbrev pub with_fields : List Field → List ℕ → List ℕ
with_fields [] bytes = bytes
with_fields (f ∷ fs) bytes = with_fields fs (with_field f bytes)
