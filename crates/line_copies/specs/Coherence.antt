-- Copies of lines that CPUs hold, and storage as it is seen with them.
use Rattle.std.specs.Prelude.{◌≡◌, ◌≢◌, ℕ, zero, suc, ◌*◌, ◌/◌, ◌%◌, ◌<◌, Bool, true, false, if◌then◌else◌}
use Rattle.std.specs.Prelude.{List, Option}
use Rattle.std.specs.Prelude.{Some, None, is_some, length}
use Rattle.std.specs.Option.{option_and_then}
use Rattle.z_regs.specs.Written.{range_at}
use Rattle.line_table.specs.declared.table.Mode.{Mode}
use Rattle.line_table.specs.declared.table.Mode.TheVariants.{Shared, Exclusive}
use Rattle.line_table.specs.Holders.{Holders}
use Rattle.store_cache.specs.Overlay.{Overlay, bytes_through}
use Rattle.l1_data.specs.Sizes.{line_size}
use Rattle.l1_data.specs.Copies.{Copies, byte_in}

-- the copies that each CPU has
abbrev pub Copied : Type 0
Copied = ℕ → Copies

-- the bytes of a line in storage
abbrev pub line_in : List ℕ → ℕ → List ℕ
line_in storage line = range_at storage (line * line_size) line_size

abbrev pub is_exclusive : Option Mode → Bool
is_exclusive None = false
is_exclusive (Some Shared) = false
is_exclusive (Some Exclusive) = true

-- of the CPUs below a number, the one that holds a line exclusively, by how each holds it
unfoldable pub exclusive_holder : ℕ → (ℕ → Option Mode) → Option ℕ
exclusive_holder zero modes = None
exclusive_holder (suc n) modes = if is_exclusive (modes n) then Some n else exclusive_holder n modes

-- the copy of the CPU that holds a line exclusively lies over the line
unfoldable pub overlaid : ℕ → Holders → Copied → Overlay
overlaid cpus held copies address =
    option_and_then (λ cpu. byte_in (copies cpu) (address / line_size) (address % line_size))
    (exclusive_holder cpus (λ cpu. held cpu (address / line_size)))

-- the bytes as they are seen: storage with the exclusive copies over it
abbrev pub flat : ℕ → Holders → Copied → List ℕ → List ℕ
flat cpus held copies storage = bytes_through (overlaid cpus held copies) storage

-- An exclusive holder of a line is its only holder. A CPU has a copy of a line exactly where it holds it,
-- and a shared copy has the bytes of storage. Only an exclusive copy may have others.
pub record IsCoherent (cpus : ℕ) (held : Holders) (copies : Copied) (storage : List ℕ) : Type 0 where
  pub alone : (cpu other line : ℕ) → cpu < cpus → other < cpus → held cpu line ≡ Some Exclusive → other ≢ cpu
      → held other line ≡ None
  pub there : (cpu line : ℕ) → cpu < cpus → is_some (copies cpu line) ≡ is_some (held cpu line)
  pub shared : (cpu line : ℕ) → cpu < cpus → held cpu line ≡ Some Shared
      → copies cpu line ≡ Some (line_in storage line)
  pub sized : (cpu line : ℕ) (copy : List ℕ) → cpu < cpus → copies cpu line ≡ Some copy → length copy ≡
      line_size
