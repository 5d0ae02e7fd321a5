-- The attempt of a CPU as data, and the progress that it stands for.
use Rattle.std.specs.Prelude.{◌≡◌, ℕ, ◌+◌, ◌<◌, ◌≤◌, true, length, is_some, List, [], Option, Some, None}
use Rattle.z_regs.specs.Cpu.{Cpu}
use Rattle.z_regs.specs.Prefix.{storage_size}
use Rattle.tx_control.specs.declared.begins.Begin.{Begin}
use Rattle.tx_control.specs.Nesting.{outermost_block}
use Rattle.tx_constraint.specs.Kept.{Kept}
use Rattle.tx_footprint.specs.Touched.{Touched, sets_of, untouched}
use Rattle.store_cache.specs.Overlay.{has_block}
use Rattle.store_cache.specs.Stores.{no_stores, lasting_bytes}
use Rattle.store_cache.specs.Entries.{Entries, stores_of}
use Rattle.tx_progress.specs.Progress.{Progress}
use Rattle.tx_progress.specs.Going.{goes_on_with}

-- all that is kept of an attempt but the CPU: the open begins, oldest first, the footprint, what constraints
-- ask, the stores, the number of completed instructions, and where the program goes on after an abort
pub record Tracked : Type 0 where
  pub nest : List Begin
  pub footprint : Touched
  pub constraint : Option Kept
  pub stores : Entries
  pub count : ℕ
  pub resumes_at : ℕ

-- with the CPU as it is now
abbrev pub progress : Tracked → Cpu → Progress
progress t c = record {
  cpu = c;
  overlay = (stores_of t.stores).overlay;
  lasting = lasting_bytes (stores_of t.stores).lasting;
  nest = t.nest;
  footprint = sets_of t.footprint;
  constraint = t.constraint;
  resumes_at = t.resumes_at;
  count = t.count;
}

-- nothing is left of an earlier attempt
pub record IsAtRest (t : Tracked) : Type 0 where
  pub nest : t.nest ≡ []
  pub footprint : sets_of t.footprint ≡ untouched
  pub constraint : t.constraint ≡ None
  pub stores : stores_of t.stores ≡ no_stores
  pub resumes_at : t.resumes_at ≡ 0

-- An attempt that has completed an instruction has an open begin, and before that there is nothing. Stores
-- lie in storage, in blocks of the footprint. A constrained transaction has no other inside it, and at most 32
-- instructions, one less than the attempt has completed, since TBEGINC is none of them. The block that the outermost
-- begin names lies in storage.
pub record IsSound (t : Tracked) : Type 0 where
  pub rests : t.count ≡ 0 → IsAtRest t
  pub opens : 0 < t.count → 0 < length t.nest
  pub blocks : (block : ℕ) → has_block (stores_of t.stores).overlay block ≡ true
      → (sets_of t.footprint).blocks block ≡ true
  pub inside : (a : ℕ) → storage_size ≤ a → (stores_of t.stores).overlay a ≡ None
  pub lasts : (a : ℕ) → storage_size ≤ a → lasting_bytes (stores_of t.stores).lasting a ≡ None
  pub single : is_some t.constraint ≡ true → length t.nest ≡ 1
  pub few : (k : Kept) → t.constraint ≡ Some k → k.count ≤ 32
  pub counted : (k : Kept) → t.constraint ≡ Some k → k.count + 1 ≡ t.count
  pub block : (a : ℕ) → outermost_block t.nest ≡ Some a → a + 256 ≤ storage_size

-- the progress of an attempt that goes on as another: what it has stored is its own too
abbrev pub goes_on_as : Progress → Progress → Progress
goes_on_as other own = goes_on_with own.overlay other own
