-- When a CPU is not lent, and how many steps a run may make.
use Rattle.std.specs.Prelude.{length, ◌≡◌, ℕ, ◌+◌, ◌-◌, ◌%◌, Bool, ◌||◌, not, is_some, nat_eq, nat_lt, min, if◌then◌else◌}
use Rattle.std.specs.Prelude.{List, Option, Some, None}
use Rattle.std.specs.Option.{option_or}
use Rattle.tx_works.specs.Parts.{local_of}
use Rattle.tx_works.specs.Own.{bytes_at}
use Rattle.tx_works.specs.Marks.{mode_in}
use Rattle.tx_meaning.specs.Limits.{RunLimits, Setting}
use Rattle.tx_meaning.specs.Turn.{is_tick}
use Rattle.tx_works.specs.Kept.{Kept}
use Rattle.tx_works.specs.Turn.{k_idle}
use Rattle.tx_works.specs.LinesLent.{with_lines_of}
use Rattle.tx_works.specs.RunLent.{Lent}
use Rattle.tx_home.specs.Places.{attempt_of}
use Rattle.tx_home.specs.declared.lending.Refusal.{Refusal}
use Rattle.tx_home.specs.declared.lending.Refusal.TheVariants as refusal

-- ---- whether

abbrev pub has_some : List ℕ → Bool
has_some queue = not (nat_eq (length queue) 0)

-- the first of these tests of the CPU alone that holds
abbrev pub own_refusal : Setting → ℕ → Kept → Option Refusal
own_refusal m i t =
    let l = t.locals i in
    let n = t.state.numbers i in
    if is_some (k_idle m t i) then Some refusal.Idle
    else (if nat_lt 0 n.delay then Some refusal.Delayed
    else (if is_some l.pending || is_some l.waiting then Some refusal.Pending
    else (if is_tick m.limits (n.turns + 1) then Some refusal.TickDue else None)))

-- behind them comes this one of all
abbrev pub refusal_of : Setting → ℕ → Kept → Option Refusal
refusal_of m i t =
    option_or (own_refusal m i t) (if has_some t.state.queue then Some refusal.Queue else None)

-- ---- how far

-- the turns before the next tick, where there are ticks
abbrev pub before_tick : RunLimits → ℕ → ℕ → ℕ
before_tick limits turns most =
    if nat_eq limits.tick 0 then most else min most (limits.tick - (turns % limits.tick + 1))

-- the least of 64, the turns that are left, and those before the next tick
abbrev pub allowance_of : RunLimits → ℕ → ℕ
allowance_of limits turns = before_tick limits turns (min 64 (limits.turns - turns))

-- ---- with what

-- A run of the CPU as the machine has it, with the lines that it holds and their bytes, its counted turns and the number of
-- its attempt: no step is made. Bytes of text pages are the image's.
pub record IsLentBy (limits : RunLimits) (t : Kept) (i : ℕ) (r : Lent) : Type 0 where
  pub cpu : r.cpu ≡ i
  pub start : local_of r.made.start ≡ t.locals i
  pub reached : local_of r.made.reached ≡ t.locals i
  pub steps : r.made.steps ≡ 0
  pub held : (line : ℕ) → mode_in r.held line ≡ t.state.held i line
  pub bytes : (a : ℕ) → bytes_at r.made.own.now a
      ≡ with_lines_of r.text (t.state.held i) t.storage (bytes_at r.made.own.now) a
  pub turns : r.turns ≡ (t.state.numbers i).turns
  pub attempt : r.attempt ≡ attempt_of (t.state.numbers i)
  pub allowance : r.allowance ≡ allowance_of limits (t.state.numbers i).turns
