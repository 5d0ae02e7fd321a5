-- The stop queue: the CPUs that wait, in their order.
use Rattle.std.specs.Prelude.{◌≡◌, ◌≢◌, ℕ, ◌≤◌, ◌==◌, Bool, false, List, length, AllPairs, count_by}
use Rattle.std.specs.List.{list_any, slice_index_or}

-- how many CPUs there are, and which of them wait
pub record Waiting : Type 0 where
  pub cpus : ℕ
  pub order : List ℕ

-- whether the CPU is in the queue
abbrev pub waits_in : List ℕ → ℕ → Bool
waits_in order cpu = list_any (λ other. other == cpu) order

-- what is kept beside the queue: a mark for each CPU that waits, no CPU twice, and room for all
pub record IsKept (marks : List Bool) (order : List ℕ) (room : ℕ) : Type 0 where
  pub marked : (cpu : ℕ) → slice_index_or marks cpu false ≡ waits_in order cpu
  pub once : AllPairs ◌≢◌ order
  pub counted : count_by (λ mark. mark) marks ≡ length order
  pub room_for_all : length marks ≤ room
