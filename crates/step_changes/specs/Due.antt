-- Which lines an event can have changed, of those that live attempts may have stored into.
use Rattle.std.specs.Prelude.{ℕ, Bool, ◌&&◌, ◌||◌, not, ◌==◌, nat_lt, List, map, slice_get}
use Rattle.std.specs.List.{list_any, filter}
use Rattle.step_changes.specs.Seen.{CpuSeen, Shown}
use Rattle.step_changes.specs.Stored.{completed_in, completed_of, in_spans}
use Rattle.step_changes.specs.declared.stored.StoredLine.{StoredLine}
use Rattle.step_changes.specs.declared.stored.Asked.{Asked}

-- whether the attempt of a CPU goes on: it was seen live, and is live now
abbrev pub goes_on : List CpuSeen → Shown → ℕ → Bool
goes_on cpus v i = nat_lt 0 (completed_of (slice_get cpus i)) && nat_lt 0 (completed_in (v.cpu i).live)

-- a line may have changed in an event where its CPU asked to store into it, or where the attempt that has
-- stored into it is over
abbrev pub is_due : List CpuSeen → Shown → Asked → StoredLine → Bool
is_due cpus v asked l = (l.cpu == asked.cpu && in_spans asked.touches l.line) || not (goes_on cpus v l.cpu)

-- these lines
abbrev pub due_lines : List CpuSeen → Shown → Asked → List StoredLine → List ℕ
due_lines cpus v asked lines = map (λ (l : StoredLine). l.line) (filter (is_due cpus v asked) lines)

-- whether a line is one of them
abbrev pub may_change : List CpuSeen → Shown → Asked → List StoredLine → ℕ → Bool
may_change cpus v asked lines line =
    list_any (λ (l : StoredLine). l.line == line && is_due cpus v asked l) lines
