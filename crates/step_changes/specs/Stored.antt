-- Lines that live attempts may have stored into.
use Rattle.std.specs.Prelude.{ℕ, ◌+◌, ◌/◌, ◌%◌, Bool, true, ◌&&◌, ◌==◌, nat_lt, nat_le, List, Option, Some, None}
use Rattle.std.specs.Prelude.{slice_get}
use Rattle.std.specs.List.{list_any}
use Rattle.z_regs.specs.declared.ranges.Range.{Range}
use Rattle.step_changes.specs.Seen.{CpuSeen}
use Rattle.step_changes.specs.declared.stored.StoredLine.{StoredLine}

-- whether a line is among those of a CPU
abbrev pub has : List StoredLine → ℕ → ℕ → Bool
has lines cpu line = list_any (λ l. l.cpu == cpu && l.line == line) lines

-- how many instructions an attempt has completed, 0 where none is live
abbrev pub completed_in : Option (ℕ × ℕ) → ℕ
completed_in None = 0
completed_in (Some levels) = levels.1

-- the same of a CPU that was seen, 0 where there is no such CPU
abbrev pub completed_of : Option CpuSeen → ℕ
completed_of None = 0
completed_of (Some seen) = completed_in seen.live

-- whether a CPU may have a live attempt: it was seen with one, or it was not seen at all
abbrev pub lives_where : Option CpuSeen → Bool
lives_where None = true
lives_where (Some seen) = nat_lt 0 (completed_in seen.live)

abbrev pub may_be_live : List CpuSeen → ℕ → Bool
may_be_live cpus i = lives_where (slice_get cpus i)

-- whether a line is between the first and the last of those that a range stores into
abbrev pub in_span : Range → ℕ → Bool
in_span r line =
    let first = r.first / 256 in
    r.store && (nat_le first line && nat_lt line (first + (r.first % 256 + r.length + 255) / 256))

abbrev pub in_spans : List Range → ℕ → Bool
in_spans ranges line = list_any (λ r. in_span r line) ranges

-- whether a line is in a list
abbrev pub is_among : List ℕ → ℕ → Bool
is_among lines line = list_any (λ l. l == line) lines
