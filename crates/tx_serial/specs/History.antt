-- Histories: entries that are applied one after the other.
use Rattle.std.specs.Prelude.{◌≡◌, ℕ, zero, suc, List, [], ◌∷◌, Option, Some, None, get_or}
use Rattle.std.specs.FinSet.{items}
use Rattle.z_regs.specs.Cpu.{Cpu, started}
use Rattle.z_regs.specs.declared.image.RunState.TheVariants.{Halted}
use Rattle.tx_journal.specs.Content.{Content}
use Rattle.tx_journal.specs.declared.entries.Entry.{Entry}
use Rattle.tx_serial.specs.Flat.{FlatState}
use Rattle.tx_serial.specs.Apply.{apply}

-- ---- the start

-- a CPU that is not there
abbrev pub no_cpu : Cpu
no_cpu = record (started 0) { state = Halted }

abbrev pub cpu_at : List Cpu → ℕ → Cpu
cpu_at [] i = no_cpu
cpu_at (c ∷ cs) zero = c
cpu_at (c ∷ cs) (suc i) = cpu_at cs i

-- an image, from which nothing is pending and nothing waits
unfoldable pub start_of : Content → FlatState
start_of image = record {
  storage = λ address. get_or image.storage address 0;
  text = items image.guard;
  cpus = cpu_at image.cpus;
  pending = λ i. None;
  waiting = λ i. None;
}

-- ---- replay

abbrev pub on_some : {A B : Type 0} → (A → Option B) → Option A → Option B
on_some f None = None
on_some f (Some x) = f x

-- the state after entries in order, where each of them fits in its place
unfoldable pub replay_from : List Entry → Option FlatState → Option FlatState
replay_from [] state = state
replay_from (entry ∷ rest) state = replay_from rest (on_some (λ f. apply f entry) state)

abbrev pub replay : Content → List Entry → Option FlatState
replay image history = replay_from history (Some (start_of image))

-- every entry of the history fits
pub record IsLegal (image : Content) (history : List Entry) : Type 0 where
  pub after : FlatState
  pub replayed : replay image history ≡ Some after
