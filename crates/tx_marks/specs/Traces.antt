-- What steps leave in storage: the bytes that they have stored, and the pages of these and of their instructions.
use Rattle.std.specs.Prelude.{ℕ, ◌/◌, Bool, false, nat_eq, nat_lt, ◌&&◌, List}
use Rattle.std.specs.List.{slice_index_or, list_any}

-- a mark for each byte, and one for each page of 4,096 bytes
pub record Traces : Type 0 where
  pub stored : List Bool
  pub pages : List Bool

abbrev pub is_stored : Traces → ℕ → Bool
is_stored t a = slice_index_or t.stored a false

abbrev pub is_paged : Traces → ℕ → Bool
is_paged t page = slice_index_or t.pages page false

-- a place lies in a page
abbrev pub lies_on : ℕ → ℕ → Bool
lies_on page a = nat_eq page (a / 4096)

-- some of these places do
abbrev pub has_page : List ℕ → ℕ → Bool
has_page places page = list_any (lies_on page) places

-- the marks below a place
abbrev pub below : (ℕ → Bool) → ℕ → ℕ → Bool
below marks n a = nat_lt a n && marks a
