-- What SCHED gives.
use Rattle.std.specs.Prelude.{ℕ, ◌+◌, Bool, true, false, not, ◌&&◌, cond, List, [], ◌∷◌, ◌++◌, length, take}
use Rattle.std.specs.Prelude.{drop, replicate, Option, Some, None, Result, Ok, Err, nat_lt, nat_le, ◌==◌}
use Rattle.std.specs.Prelude.{if◌then◌else◌}
use Rattle.std.specs.List.{prefix_len}
use Rattle.z_text.specs.Numbers.{number_in}
use Rattle.tx_journal.specs.declared.events.Event.{Event}
use Rattle.tx_journal.specs.declared.events.Event.TheVariants.{Turn, External}
use Rattle.z_fields.specs.Chain.{◌>>=◌}
use Rattle.z_fields.specs.Pieces.{pieces_by, shortened}
use Rattle.z_fields.specs.declared.fault.Kind.{Kind}
use Rattle.z_fields.specs.declared.fault.Kind.TheVariants.{BadSchedule}
use Rattle.z_fields.specs.declared.schedule.Run.{Run}

-- decimal digits, at least one, of a number below 2 ^ 64
abbrev pub decimal : List ℕ → Option ℕ
decimal [] = None
decimal (b ∷ bs) = number_in 10 (b ∷ bs)

abbrev pub make_run : Bool → Option ℕ → Option ℕ → Option Run
make_run external (Some cpu) (Some count) = Some (record { external = external; cpu = cpu; count = count })
make_run external _ _ = None

abbrev pub is_before_star : ℕ → Bool
is_before_star b = not (b == 42)

abbrev pub turns_in : ℕ → List ℕ → Option Run
turns_in stars item =
    if nat_lt stars (length item) then make_run false (decimal (take stars item))
    (decimal (drop (stars + 1) item)) else make_run false (decimal item) (Some 1)

-- a CPU's turn, its turns with their number behind an asterisk, or X and the CPU of an external interruption
unfoldable pub run_of : List ℕ → Option Run
run_of [] = None
run_of (b ∷ bs) =
    if b == 88 then make_run true (decimal bs) (Some 1) else turns_in (prefix_len is_before_star (b ∷ bs))
    (b ∷ bs)

abbrev pub event_of : Bool → ℕ → Event
event_of external cpu = cond external (External cpu) (Turn cpu)

-- the events with those of one more item
abbrev pub with_run : ℕ → Option Run → List Event → Result (List Event) Kind
with_run cpus None es = Err BadSchedule
with_run cpus (Some r) es =
    if nat_lt r.cpu cpus && (nat_lt 0 r.count && nat_le (length es + r.count) 4194304) then Ok
    (es ++ replicate r.count (event_of r.external r.cpu)) else Err BadSchedule

abbrev pub with_item : ℕ → List ℕ → List Event → Result (List Event) Kind
with_item cpus item es = with_run cpus (run_of (shortened item)) es

unfoldable pub with_items : ℕ → List (List ℕ) → List Event → Result (List Event) Kind
with_items cpus [] es = Ok es
with_items cpus (i ∷ is) es = with_item cpus i es >>= with_items cpus is

-- The events of a field behind those of earlier lines: its items have commas between them.
unfoldable pub scheduled : ℕ → List ℕ → List Event → Result (List Event) Kind
scheduled cpus field es = with_items cpus (pieces_by 44 (field ++ 44 ∷ [])) es
