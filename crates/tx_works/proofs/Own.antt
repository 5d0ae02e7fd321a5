-- The causes by which an attempt ends of itself, which are no conflicts.
use Rattle.std.proofs.Common.{◌≡◌, ℕ, ◌+◌, ◌≤◌, Bool, true, false, List, [], ◌∷◌}
use Rattle.std.proofs.Common.{refl, subst, arith}
use Rattle.z_regs.specs.declared.ranges.Range.{Range}
use Rattle.z_instr.specs.declared.instr.Instr.{Instr}
use Rattle.z_effect.specs.Outcome.{Outcome, Did, Divides, Aborts}
use Rattle.z_effect.specs.Outcome as outcome
use Rattle.tx_control.specs.declared.begins.Begin.{Begin}
use Rattle.tx_control.specs.declared.exceptions.Exception.{Exception}
use Rattle.tx_control.specs.declared.causes.Why.{Why}
use Rattle.tx_control.specs.declared.causes.Why.TheVariants.{External, Program, FetchConflict}
use Rattle.tx_control.specs.declared.causes.Why.TheVariants.{StoreConflict, FetchOverflow, StoreOverflow}
use Rattle.tx_control.specs.declared.causes.Why.TheVariants.{Restricted, Filtered, Depth, Starved, Tabort}
use Rattle.tx_control.specs.Causes.{code_number}
use Rattle.tx_serial.specs.Flat.{Storage}
use Rattle.tx_serial.specs.Fate.{Ends}
use Rattle.tx_progress.specs.Progress.{Progress, advanced}
use Rattle.tx_progress.specs.Local.{Beside}
use Rattle.tx_progress.specs.Trial.{fate_by_progress}
use Rattle.tx_progress.specs.Trial.{outcome_by}
use Rattle.tx_progress.specs.Doing.{executed, executed_where, closed_by}
use Rattle.tx_progress.specs.Doing.{stores_of}
use Rattle.tx_progress.specs.declared.done.Done.TheVariants as done
use Rattle.tx_bounds.proofs.Walk.{IsOwn, FateOwn, ToldOwn, fate_own, executed_own}
use Rattle.tx_meaning.specs.Turn.{outcome_of_abort}
use Rattle.tx_meaning.specs.declared.outcome.Outcome.TheVariants as turned

-- ---- causes

-- what an abort for another cause than a program interruption is to the program
pub aborted-outcome : (why : Why) → ((e : Exception) → why ≡ Program e → ⊥)
    → turned.Aborted (code_number why) ≡ outcome_of_abort why
aborted-outcome (Program e) not_it = absurd (not_it e refl)
aborted-outcome (FetchConflict line) not_it = refl
aborted-outcome (StoreConflict line) not_it = refl
aborted-outcome Starved not_it = refl
aborted-outcome External not_it = refl
aborted-outcome FetchOverflow not_it = refl
aborted-outcome StoreOverflow not_it = refl
aborted-outcome Restricted not_it = refl
aborted-outcome (Filtered e) not_it = refl
aborted-outcome Depth not_it = refl
aborted-outcome (Tabort code) not_it = refl

-- ---- what an instruction tells

-- an instruction that ends an attempt does so by a cause of its own
pub told-own : (i : Instr) (ranges : List Range) (b : Beside) (why : Why)
    → (executed i ranges b).told ≡ done.Ended why → IsOwn why
told-own i ranges b why told = subst ToldOwn told (executed_own i ranges b)

-- ---- how far it comes

closed_most : (n : ℕ) (q : Progress) (nest : List Begin) (b : Beside) → q.count ≡ n + 1
    → (closed_by q nest b).after.local.attempt.count ≤ n + 1
closed_most n q [] b more = omega arith
closed_most n q (outermost ∷ inner) b more = omega arith

executed_most : (live begin : Bool) (i : Instr) (ranges : List Range) (b : Beside) (o : Outcome)
    → (executed_where live begin i ranges b o).after.local.attempt.count ≤ b.local.attempt.count + 1
executed_most true begin i ranges b (Did c bytes) =
    let q = b.local.attempt in
    let next = advanced i ranges c (stores_of ranges bytes q) q in
    closed_most q.count next next.nest b refl
executed_most true begin i ranges b (outcome.Overflowed c bytes) = omega arith
executed_most true begin i ranges b Divides = omega arith
executed_most true begin i ranges b (Aborts code) = omega arith
executed_most false true i ranges b (Did c bytes) = omega arith
executed_most false true i ranges b (outcome.Overflowed c bytes) = omega arith
executed_most false true i ranges b Divides = omega arith
executed_most false true i ranges b (Aborts code) = omega arith
executed_most false false i ranges b (Did c bytes) = omega arith
executed_most false false i ranges b (outcome.Overflowed c bytes) = omega arith
executed_most false false i ranges b Divides = omega arith
executed_most false false i ranges b (Aborts code) = omega arith

pub completed-most : (i : Instr) (ranges : List Range) (b : Beside)
    → (executed i ranges b).after.local.attempt.count ≤ b.local.attempt.count + 1
unfolding executed
completed-most i ranges b = executed_most _ _ i ranges b (outcome_by b.storage i ranges b.local.attempt)

-- ---- what the tests of the next instruction say

pub fate-own : (text : List ℕ) (s : Storage) (q : Progress) (why : Why)
    → fate_by_progress text s q ≡ Ends why → IsOwn why
fate-own text s q why ends = subst FateOwn ends (fate_own text s q)
