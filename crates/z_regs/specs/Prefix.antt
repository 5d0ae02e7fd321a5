-- Real and absolute addresses: a CPU with a prefix sees its own area of storage in place of the first one.
use Rattle.std.specs.Prelude.{ℕ, ◌+◌, ◌-◌, ◌%◌, Bool, true, ◌&&◌, cond, nat_eq, nat_lt, nat_le, Option, Some, None}

-- the number of bytes of storage
abbrev pub storage_size : ℕ
storage_size = 1048576

-- the number of bytes of the area that a prefix moves: two pages
abbrev pub area_size : ℕ
area_size = 8192

-- a prefix that a CPU may have: none, or the beginning of an area of storage behind the first one
abbrev pub is_prefix : Option ℕ → Bool
is_prefix None = true
is_prefix (Some p) = nat_eq (p % area_size) 0 && (nat_le area_size p && nat_le p (storage_size - area_size))

-- the absolute address of a real one: the prefix exchanges the first area of storage and the one that it
-- names
abbrev pub absolute_of : Option ℕ → ℕ → ℕ
absolute_of None a = a
absolute_of (Some p) a =
    cond (nat_lt a area_size) (a + p) (cond (nat_le p a && nat_lt a (p + area_size)) (a - p) a)

-- a real address that the CPU may use: all of storage with a prefix, and all but the first area without one
abbrev pub is_accessible : Option ℕ → ℕ → Bool
is_accessible None a = nat_le area_size a && nat_lt a storage_size
is_accessible (Some p) a = nat_lt a storage_size
