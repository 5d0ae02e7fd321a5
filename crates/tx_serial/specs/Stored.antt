-- The places of storage that stores go to.
use Rattle.std.specs.Prelude.{ℕ, ◌/◌, ◌==◌, Bool, List}
use Rattle.std.specs.List.{list_any}
use Rattle.store_cache.specs.Overlay.{Store}

-- some store goes to a place of some size, by its absolute address
abbrev pub has_store_in : ℕ → List Store → ℕ → Bool
has_store_in size stores place = list_any (λ s. s.address / size == place) stores
