-- What changes of a flat state.
use Rattle.std.specs.Prelude.{◌≡◌, ◌≢◌, ℕ, List}
use Rattle.tx_journal.specs.declared.entries.Entry.{Entry}
use Rattle.tx_journal.specs.declared.entries.Entry.TheVariants.{Step, Commit, Abort, Tdb, Interrupt}
use Rattle.store_cache.specs.Overlay.{Store}
use Rattle.tx_serial.specs.Flat.{FlatState, laid_over}

abbrev pub cpu_of_entry : Entry → ℕ
cpu_of_entry (Step i) = i
cpu_of_entry (Commit i n) = i
cpu_of_entry (Abort i n why) = i
cpu_of_entry (Tdb i) = i
cpu_of_entry (Interrupt i) = i

-- of the text pages nothing changes, and of the CPUs one alone
pub record ChangesOnly (i : ℕ) (f after : FlatState) : Type 0 where
  pub text : after.text ≡ f.text
  pub cpus : (j : ℕ) → j ≢ i → after.cpus j ≡ f.cpus j
  pub pending : (j : ℕ) → j ≢ i → after.pending j ≡ f.pending j
  pub waiting : (j : ℕ) → j ≢ i → after.waiting j ≡ f.waiting j

-- two states change alike: the same stores, and the same of one CPU
pub record ChangeAlike (i : ℕ) (f g f_after g_after : FlatState) : Type 0 where
  pub stores : List Store
  pub storage : f_after.storage ≡ laid_over f.storage stores
  pub other_storage : g_after.storage ≡ laid_over g.storage stores
  pub cpu : g_after.cpus i ≡ f_after.cpus i
  pub pending : g_after.pending i ≡ f_after.pending i
  pub waiting : g_after.waiting i ≡ f_after.waiting i
