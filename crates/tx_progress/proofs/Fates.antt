-- The fate of the next instruction of an open run, and its outcome, by the progress that the run has made.
use Rattle.std.proofs.Common.{◌≡◌, ℕ, Bool, true, false, List, [], ◌∷◌, Option, Some, None, refl, ap, ◌∙◌}
use Rattle.std.specs.Prelude.{if◌then◌else◌}
use Rattle.z_regs.specs.Cpu.{Cpu}
use Rattle.z_regs.specs.declared.ranges.Range.{Range}
use Rattle.z_instr.specs.declared.instr.Instr.{Instr}
use Rattle.tx_control.specs.declared.begins.Begin.{Begin}
use Rattle.tx_control.specs.Nesting.{is_constrained}
use Rattle.tx_constraint.specs.Constraints.{Step, Attempt, with_step, text_breach, operand_breach}
use Rattle.tx_constraint.specs.Kept.{Kept, kept, next_text_breach, next_operand_breach}
use Rattle.tx_constraint.proofs.Attempts.{text_step, operand_step}
use Rattle.tx_serial.specs.Overlay.{overlay_of}
use Rattle.tx_serial.specs.Flat.{Storage, FlatState}
use Rattle.tx_serial.specs.Attempt.{Run, Open, attempt_of}
use Rattle.tx_serial.specs.Fate.{fate, fate_by, tests, fetch_refusal}
use Rattle.tx_serial.specs.Fate.{instruction_at, broken_where, first_refusal, step_of, operands}
use Rattle.tx_serial.specs.Fate.{restricted_refusal, specified_refusal}
use Rattle.tx_serial.specs.Fate.{depth_refusal, operand_refusal, overflow_refusal}
use Rattle.tx_serial.specs.Run.{run, outcome_of}
use Rattle.tx_progress.specs.Progress.{seen_through, begins_constrained}
use Rattle.tx_progress.specs.Trial.{at_hand, breach_refusal, constraint_refusal}
use Rattle.tx_progress.specs.Trial.{tests_by, tried, fetched, fate_by_progress, outcome_by}
use Rattle.tx_progress.specs.Reached.{progress_of, constraint_of}
use Rattle.tx_progress.proofs.SeenStores.{run_seen}
use Rattle.tx_progress.proofs.Standing.{Stands, RunStands, is_begun_so, run_stands}

-- ---- the constraints

one_breach : (o : Option ℕ) (a : Attempt) (i : Instr) → broken_where true (λ x. o) a i ≡ breach_refusal i o
one_breach None a i = refl
one_breach (Some n) a i = refl

breach_by : (x y : Bool) → x ≡ y → (breach : Attempt → Option ℕ) (next : Kept → Option ℕ) (a grown : Attempt)
    (i : Instr) → (x ≡ true → breach grown ≡ next (kept a))
    → broken_where x breach grown i
    ≡ constraint_refusal next i (if y then Some (kept a) else None)
breach_by true true e breach next a grown i same =
    one_breach (breach grown) grown i ∙ ap (breach_refusal i) (same refl)
breach_by false false e breach next a grown i same = refl
breach_by true false e breach next a grown i same = absurd (cc)
breach_by false true e breach next a grown i same = absurd (cc)

text_alike : (c now : Cpu) (steps : List Step) (nest : List Begin) (i : Instr) → Stands c now steps nest
    → broken_where (is_constrained nest) text_breach
    (with_step (attempt_of steps) (step_of i (operands i now) now)) i
    ≡ constraint_refusal (λ kept. next_text_breach kept i now.address) i (constraint_of steps)
text_alike c now [] [] i h = refl
text_alike c now [] (b ∷ bs) i h = absurd h
text_alike c now (s ∷ ss) [] i h = absurd h
text_alike c now (s ∷ ss) (b ∷ bs) i h =
    breach_by b.constrained (begins_constrained s.instruction) (is_begun_so c s ss b bs h) text_breach
    (λ kept. next_text_breach kept i now.address) (attempt_of (s ∷ ss)) _ i
    (λ k. text_step (attempt_of (s ∷ ss)) (step_of i (operands i now) now) (h.goes_on k))

place_alike : (c now : Cpu) (steps : List Step) (nest : List Begin) (i : Instr) → Stands c now steps nest
    → broken_where (is_constrained nest) operand_breach
    (with_step (attempt_of steps) (step_of i (operands i now) now)) i
    ≡ constraint_refusal (λ kept. next_operand_breach kept i (operands i now)) i (constraint_of steps)
place_alike c now [] [] i h = refl
place_alike c now [] (b ∷ bs) i h = absurd h
place_alike c now (s ∷ ss) [] i h = absurd h
place_alike c now (s ∷ ss) (b ∷ bs) i h =
    breach_by b.constrained (begins_constrained s.instruction) (is_begun_so c s ss b bs h) operand_breach
    (λ kept. next_operand_breach kept i (operands i now)) (attempt_of (s ∷ ss)) _ i
    (λ k. operand_step (attempt_of (s ∷ ss)) (step_of i (operands i now) now) (h.goes_on k))

-- ---- the tests

abbrev with_copy : Storage → Run → Run
with_copy c p = record p { copy = c }

tests_alike : (c : Cpu) (text : List ℕ) (storage : Storage) (p : Run) (i : Instr) → RunStands c p
    → tests text p i ≡ tests_by text storage (progress_of p) i
unfolding progress_of
tests_alike c text storage p i h =
    λ k. text_alike c p.cpu p.steps p.nest i h k
    ∷ restricted_refusal p i
    ∷ specified_refusal p i
    ∷ depth_refusal p i
    ∷ operand_refusal text p i
    ∷ place_alike c p.cpu p.steps p.nest i h k
    ∷ overflow_refusal p i
    ∷ []

fetched_alike : (c : Cpu) (text : List ℕ) (storage : Storage) (p : Run) → RunStands c p
    → (u : Option ℕ) (o : Option Instr)
    → fate_by text (with_copy (seen_through (overlay_of p.stores) storage) p) u o
    ≡ fetched text storage (progress_of p) u o
unfolding progress_of
fetched_alike c text storage p h (Some code) o = refl
fetched_alike c text storage p h None None = refl
fetched_alike c text storage p h None (Some i) =
    ap (λ ts. tried (progress_of p) i (first_refusal ts)) (tests_alike c text storage p i h)

fate_seen : (c : Cpu) (text : List ℕ) (storage : Storage) (p : Run) → RunStands c p
    → fate text (with_copy (seen_through (overlay_of p.stores) storage) p)
    ≡ fate_by_progress text storage (progress_of p)
unfolding fate fate_by_progress progress_of
fate_seen c text storage p h =
    fetched_alike c text storage p h (fetch_refusal text (at_hand storage (progress_of p)))
    (instruction_at (at_hand storage (progress_of p)))

pub fate_is : (f : FlatState) (i k : ℕ) → (run f i k).mark ≡ Open
    → fate f.text (run f i k) ≡ fate_by_progress f.text f.storage (progress_of (run f i k))
fate_is f i k opens =
    ap (λ s. fate f.text (with_copy s (run f i k))) (run_seen f i k)
    ∙ fate_seen (f.cpus i) f.text f.storage (run f i k) (run_stands f i k opens)

-- ---- the outcome

pub outcome_is : (f : FlatState) (i k : ℕ) (instr : Instr) (ranges : List Range)
    → outcome_of instr ranges (run f i k) ≡ outcome_by f.storage instr ranges (progress_of (run f i k))
unfolding progress_of
outcome_is f i k instr ranges =
    ap (λ s. outcome_of instr ranges (with_copy s (run f i k))) (run_seen f i k)
