-- An instruction that is executed completes one instruction more of its attempt at most.
use Rattle.std.proofs.Common.{ℕ, ◌+◌, ◌≤◌, Bool, true, false, List, [], ◌∷◌, Option, Some, None}
use Rattle.std.proofs.Common.{arith}
use Rattle.std.specs.Prelude.{nat_lt, if◌then◌else◌}
use Rattle.z_regs.specs.declared.image.RunState.{RunState}
use Rattle.z_regs.specs.declared.image.RunState.TheVariants.{Running, Halted, Interrupted}
use Rattle.z_regs.specs.declared.ranges.Range.{Range}
use Rattle.z_regs.specs.declared.waiting.Waiting.{Waiting}
use Rattle.z_instr.specs.declared.instr.Instr.{Instr}
use Rattle.z_instr.specs.Roles.{begins}
use Rattle.z_instr.specs.Table.{entry_at}
use Rattle.z_effect.specs.Outcome.{Outcome, Did, Divides, Aborts}
use Rattle.z_effect.specs.Outcome as outcome
use Rattle.z_effect.specs.TransactionEffect.{delay_given}
use Rattle.tx_control.specs.declared.begins.Begin.{Begin}
use Rattle.tx_progress.specs.Doing.{Executed, executed, executed_where, inside, outside, opened, closed_by}
use Rattle.tx_progress.specs.Doing.{told_of, stores_of}
use Rattle.tx_progress.specs.Local.{Beside, block_stored, interruption_taken, taken_by}
use Rattle.tx_progress.specs.Progress.{Progress, is_live, advanced}
use Rattle.tx_progress.specs.Trial.{outcome_by}
use Rattle.tx_progress.specs.declared.done.Done.{Done}
use Rattle.tx_progress.specs.declared.done.Done.TheVariants as done

-- the completed instructions of an attempt
abbrev pub count_in : Beside → ℕ
count_in b = b.local.attempt.count

-- what is told of a commit
abbrev pub TellsAtMost : ℕ → Done → Type 0
TellsAtMost most (done.Committed n) = n ≤ most
TellsAtMost most done.Stepped = Unit {0}
TellsAtMost most (done.Ended why) = Unit {0}
TellsAtMost most done.Began = Unit {0}
TellsAtMost most (done.Paused turns) = Unit {0}
TellsAtMost most (done.Interrupted code) = Unit {0}

-- one more is completed, at most
pub record OneMore (n : ℕ) (e : Executed) : Type 0 where
  pub after : count_in e.after ≤ n + 1
  pub told : TellsAtMost (n + 1) e.told

paused_any : (most delay : ℕ) (b : Bool) → TellsAtMost most (if b then done.Paused delay else done.Stepped)
paused_any most delay true = tt
paused_any most delay false = tt

-- outside transactions no commit is told of
told_any : (most : ℕ) (state : RunState) (delay : ℕ) → TellsAtMost most (told_of state delay)
told_any most (Interrupted code) delay = tt
told_any most Running delay = paused_any most delay (nat_lt 0 delay)
told_any most Halted delay = paused_any most delay (nat_lt 0 delay)

-- a transaction that goes on, or is committed
closed_one : (n : ℕ) (q : Progress) (nest : List Begin) (b : Beside) → q.count ≤ n + 1
    → OneMore n (closed_by q nest b)
closed_one n q [] b h = record { after = omega arith; told = h }
closed_one n q (outermost ∷ inner) b h = record { after = h; told = tt }

-- an instruction inside a transaction
inside_one : (i : Instr) (ranges : List Range) (b : Beside) (o : Outcome)
    → OneMore (count_in b) (inside i ranges b o)
inside_one i ranges b (Did c bytes) =
    let q = b.local.attempt in
    let next = advanced i ranges c (stores_of ranges bytes q) q in
    closed_one (count_in b) next next.nest b (omega arith)
inside_one i ranges b (outcome.Overflowed c bytes) = record { after = omega arith; told = tt }
inside_one i ranges b Divides = record { after = omega arith; told = tt }
inside_one i ranges b (Aborts code) = record { after = omega arith; told = tt }

-- a begin outside transactions
opened_one : (i : Instr) (ranges : List Range) (b : Beside) (o : Outcome)
    → count_in (opened i ranges b o) ≤ count_in b + 1
opened_one i ranges b (Did c bytes) = omega arith
opened_one i ranges b (outcome.Overflowed c bytes) = omega arith
opened_one i ranges b Divides = omega arith
opened_one i ranges b (Aborts code) = omega arith

-- another instruction outside transactions
outside_one : (i : Instr) (ranges : List Range) (b : Beside) (o : Outcome)
    → count_in (outside i ranges b o) ≤ count_in b + 1
outside_one i ranges b (Did c bytes) = omega arith
outside_one i ranges b (outcome.Overflowed c bytes) = omega arith
outside_one i ranges b Divides = omega arith
outside_one i ranges b (Aborts code) = omega arith

-- each of the three
where_one : (live begin : Bool) (i : Instr) (ranges : List Range) (b : Beside) (o : Outcome)
    → OneMore (count_in b) (executed_where live begin i ranges b o)
where_one true begin i ranges b o = inside_one i ranges b o
where_one false true i ranges b o = record { after = opened_one i ranges b o; told = tt }
where_one false false i ranges b o = record {
  after = outside_one i ranges b o;
  told = told_any (count_in b + 1) (outside i ranges b o).local.cpu.state (delay_given i b.local.cpu);
}

-- an instruction that goes
pub executed_one : (i : Instr) (ranges : List Range) (b : Beside) → OneMore (count_in b) (executed i ranges b)
unfolding executed
executed_one i ranges b =
    let q = b.local.attempt in
    where_one (is_live q) (begins (entry_at i.op.number)) i ranges b (outcome_by b.storage i ranges q)

-- a block that is stored, or an interruption that is taken, completes none
pub block_none : (b : Beside) → count_in (block_stored b) ≤ count_in b
unfolding block_stored
block_none b = omega arith

-- nor does an interruption that is taken
pub interruption_none : (b : Beside) → count_in (interruption_taken b) ≤ count_in b
unfolding interruption_taken
interruption_none b = by b.local.waiting
  where
    by : (w : Option Waiting) → count_in (taken_by w b) ≤ count_in b
    by None = omega arith
    by (Some w) = omega arith
