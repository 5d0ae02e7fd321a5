-- A CPU that executes an instruction has, in its seat, what is kept of it.
use Rattle.std.proofs.Common.{◌≡◌, ℕ, ◌<◌, ◌≤◌, ◌+◌, ◌^◌, true, false, List, length, get_or, sym, ap, subst, ◌∙◌, arith}
use Rattle.z_regs.specs.declared.ranges.Range.{Range}
use Rattle.z_instr.specs.declared.instr.Instr.{Instr}
use Rattle.tx_progress.specs.Doing.{executed}
use Rattle.tx_progress.specs.Progress.{is_live as is_attempt_live}
use Rattle.tx_lines.specs.Parts.{local_of}
use Rattle.tx_lines.specs.Plans.{IsPrepared}
use Rattle.tx_lines.specs.Going.{GoesThere}
use Rattle.tx_meaning.specs.State.{is_live}
use Rattle.tx_keeping.specs.Kept.{Kept, beside}
use Rattle.tx_keeping.specs.Turn.{k_done, k_executing, k_inside, k_outside, next_address}
use Rattle.tx_works.specs.Executing.{MayExecute}
use Rattle.tx_works.specs.Works.{Seat, Works, kept_by}
use Rattle.tx_works.proofs.Seats.{IsAt, seat-is, live-is, no_seat}

-- ---- its seat

module _ (old now : Works) (cpu : ℕ) (s other : Seat) (view : old ≡ now) (known : cpu < length now.slots)
    (is : s ≡ get_or old.slots cpu other) where
  -- the seat of the CPU
  pub seated : IsAt old now cpu s
  seated = record { other = other; view = view; known = known; is = is }

  pub at-live : is_live (kept_by no_seat now).state cpu ≡ true → is_attempt_live (local_of s.cpu).attempt ≡ true
  at-live live = live-is old now cpu s seated ∙ live

  pub at-prepared : (i : Instr) (need : List Range) → MayExecute cpu i need (kept_by no_seat now)
      → IsPrepared (local_of s.cpu).attempt i need
  at-prepared i need may =
      subst (λ (s : Seat). IsPrepared (local_of s.cpu).attempt i need) (sym (seat-is old now cpu s no_seat seated)) may.prepared

  pub at-there : (i : Instr) (need : List Range) → GoesThere ((kept_by no_seat now).locals cpu).attempt i need
      → GoesThere (local_of s.cpu).attempt i need
  at-there i need goes =
      subst (λ (s : Seat). GoesThere (local_of s.cpu).attempt i need) (sym (seat-is old now cpu s no_seat seated)) goes

  pub at-few : (i : Instr) (need : List Range) → MayExecute cpu i need (kept_by no_seat now)
      → (local_of s.cpu).attempt.count < s.tally.turns
  at-few i need may =
      subst (λ (s : Seat). (local_of s.cpu).attempt.count < s.tally.turns)
      (sym (seat-is old now cpu s no_seat seated)) may.counts

  pub at-count : (i : Instr) (need : List Range) → MayExecute cpu i need (kept_by no_seat now)
      → s.tally.turns ≤ 200000 → (local_of s.cpu).attempt.count + 1 < 2 ^ 32
  at-count i need may most = let few = at-few i need may in omega arith

-- ---- what comes of the turn

-- in a transaction
pub inside-done : (i : ℕ) (instr : Instr) (need : List Range) (k : Kept) → is_live k.state i ≡ true
    → (let e = executed instr need (beside k i) in k_inside i (next_address k i) e.after k e.told)
    ≡ k_executing i instr need k
unfolding k_executing
inside-done i instr need k live = ap (λ b. k_done b i (executed instr need (beside k i)) k) (sym live)

-- outside of one
pub outside-done : (i : ℕ) (instr : Instr) (need : List Range) (k : Kept) → is_live k.state i ≡ false
    → (let e = executed instr need (beside k i) in k_outside i e.after k e.told) ≡ k_executing i instr need k
unfolding k_executing
outside-done i instr need k rests = ap (λ b. k_done b i (executed instr need (beside k i)) k) (sym rests)
