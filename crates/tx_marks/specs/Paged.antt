-- Places of storage, and the pages that have some of them.
use Rattle.std.specs.Prelude.{◌≡◌, ℕ, ◌/◌, Bool, true, false, List}
use Rattle.std.specs.List.{slice_index_or}

-- each of some places lies in one of some pages of 4,096
abbrev pub LieIn : List Bool → List Bool → Type 0
LieIn pages places =
    (a : ℕ) → slice_index_or places a false ≡ true → slice_index_or pages (a / 4096) false ≡ true
