-- Bytes that lie one after the other in storage, and that an attempt sees as they are there.
use Rattle.std.specs.Prelude.{◌≡◌, ℕ, ◌+◌, ◌<◌, ◌≤◌, Option, None}
use Rattle.z_regs.specs.Prefix.{storage_size, absolute_of}
use Rattle.store_cache.specs.Overlay.{Overlay}

-- the six bytes from a real address on are those from an absolute address on, and none of them is stored over
pub record IsPlain (overlay : Overlay) (prefix : Option ℕ) (first place : ℕ) : Type 0 where
  pub ends : place + 6 ≤ storage_size
  pub there : (k : ℕ) → k < 6 → absolute_of prefix (first + k) ≡ place + k
  pub bare : (k : ℕ) → k < 6 → overlay (place + k) ≡ None
