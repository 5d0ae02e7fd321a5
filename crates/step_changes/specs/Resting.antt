-- CPUs of which nothing has become known since they were seen.
use Rattle.std.specs.Prelude.{◌≡◌, ℕ, ◌<◌, Bool, false, ◌==◌, List, drop, length, slice_index_or}
use Rattle.std.specs.List.{list_any}
use Rattle.tx_journal.specs.declared.entries.Entry.{Entry}
use Rattle.tx_serial.specs.Changes.{cpu_of_entry}
use Rattle.step_changes.specs.Seen.{CpuSeen, Shown}

-- whether some entry is of a CPU
abbrev pub is_entered : List Entry → ℕ → Bool
is_entered entries i = list_any (λ e. cpu_of_entry e == i) entries

-- a CPU is still shown as it was seen where no new entry is its own, and its attempt has come as far as it had
abbrev pub StayAsSeen : List CpuSeen → ℕ → Shown → Type 0
StayAsSeen cpus before v =
    (i : ℕ) (d : CpuSeen) → i < length cpus → is_entered (drop before v.history) i ≡ false
    → (slice_index_or cpus i d).live ≡ (v.cpu i).live → slice_index_or cpus i d ≡ v.cpu i
