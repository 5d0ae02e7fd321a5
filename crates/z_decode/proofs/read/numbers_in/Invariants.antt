use Rattle.std.proofs.Common.{◌≡◌, ℕ, ◌≤◌, ◌*◌, ◌+◌, ◌-◌, length, drop, get_or}
use Rattle.z_instr.specs.Layouts.{number_in, digits_from, taken}
use Rattle.z_decode.proofs.read.numbers_in.Given as goal

-- what the bytes up to a place hold, with what the others hold, is each number
abbrev pub invariant-loop-place : goal.invariant-loop-place
invariant-loop-place l =
    ((rank : ℕ) → get_or l.numbers rank 0 ≤ l.place * 8589934592)
    × ((rank : ℕ) → get_or l.numbers rank 0
    + number_in (drop (2 * l.place) l.layout) (digits_from (length l.bytes - l.place) l.place l.bytes) rank
    ≡ taken l.layout l.bytes rank)
