-- What one instruction more makes of a run, and of the progress that the run has made.
use Rattle.std.proofs.Common.{◌≡◌, ◌≢◌, ℕ, zero, suc, ◌+◌, Bool, true, false, List, [], ◌∷◌, ◌++◌, Option}
use Rattle.std.proofs.Common.{Some}
use Rattle.std.proofs.Common.{None, refl, sym, ap, ◌∙◌, arith, length, inl, inr}
use Rattle.std.specs.Prelude.{if◌then◌else◌, ◌⊎◌, nat_lt}
use Rattle.std.proofs.lemmas.List.{length_push}
use Rattle.z_regs.specs.Cpu.{Cpu}
use Rattle.z_regs.specs.Absolute.{absolute_ranges}
use Rattle.z_regs.specs.declared.ranges.Range.{Range}
use Rattle.z_instr.specs.declared.instr.Instr.{Instr}
use Rattle.z_effect.specs.Outcome.{Outcome, Did, Divides, Aborts}
use Rattle.z_effect.specs.Outcome as outcome
use Rattle.tx_constraint.specs.Constraints.{Step, with_step}
use Rattle.tx_constraint.specs.Kept.{Kept, kept, added}
use Rattle.tx_constraint.proofs.Attempts.{octowords_begun, kept_step}
use Rattle.tx_footprint.specs.Touched.{untouched}
use Rattle.tx_serial.specs.Overlay.{Store}
use Rattle.tx_serial.specs.Flat.{FlatState, operand_stores}
use Rattle.tx_serial.specs.Attempt.{Run, Mark, Open, Committed, Overflowed, Missing, attempt_of}
use Rattle.tx_serial.specs.Fate.{Fate, Goes, Ends, Stops, fate, step_of}
use Rattle.tx_serial.specs.Run.{run, more, more_of, after_fate, after_where, after, may_follow, outcome_of}
use Rattle.tx_serial.specs.Run.{with_instruction, nest_after, mark_in, lasting_of}
use Rattle.tx_progress.specs.Progress.{resting, advanced, begins_constrained, constraint_after}
use Rattle.tx_progress.specs.Progress.{resumed_after}
use Rattle.tx_progress.specs.Reached.{progress_of, constraint_of, resumption_of}
use Rattle.tx_progress.specs.Followed.{Advances}
use Rattle.tx_progress.proofs.SeenStores.{laying_more}
use Rattle.tx_footprint.proofs.Marking.{touching_twice}

-- ---- the parts of the progress

abbrev kept_where : Bool → Kept → Option Kept
kept_where constrained k = if constrained then Some k else None

first_constraint : (i : Instr) (ranges : List Range) (c : Cpu)
    → constraint_after 0 i ranges c.address None ≡ constraint_of (step_of i ranges c ∷ [])
first_constraint i ranges c = ap (kept_where (begins_constrained i)) (sym (octowords_begun c.address))

some_count : (n : ℕ) → nat_lt 0 (suc n) ≡ true
some_count n = grind (arith)

counted_constraint : (n : ℕ) (i : Instr) (ranges : List Range) (at : ℕ) (old : Option Kept)
    → constraint_after (suc n) i ranges at old ≡ constraint_after 1 i ranges at old
counted_constraint n i ranges at old =
    ap (λ b. if b then constraint_after 1 i ranges at old else constraint_after 0 i ranges at old)
    (some_count n)

later_constraint : (i : Instr) (ranges : List Range) (at : ℕ) (b : Bool) (k grown : Kept)
    → grown ≡ added k ranges → constraint_after 1 i ranges at (kept_where b k) ≡ kept_where b grown
later_constraint i ranges at true k grown e = ap Some (sym e)
later_constraint i ranges at false k grown e = refl

constraint_more : (steps : List Step) (i : Instr) (ranges : List Range) (c : Cpu)
    → constraint_after (length steps) i ranges c.address (constraint_of steps)
    ≡ constraint_of (steps ++ step_of i ranges c ∷ [])
constraint_more [] i ranges c = first_constraint i ranges c
constraint_more (s ∷ ss) i ranges c =
    counted_constraint (length ss) i ranges c.address (constraint_of (s ∷ ss))
    ∙ later_constraint i ranges c.address (begins_constrained s.instruction)
    (kept (attempt_of (s ∷ ss))) (kept (with_step (attempt_of (s ∷ ss)) (step_of i ranges c)))
    (kept_step (attempt_of (s ∷ ss)) (step_of i ranges c))

resumption_more : (steps : List Step) (i : Instr) (ranges : List Range) (c : Cpu)
    → resumed_after (length steps) i c.address (resumption_of steps)
    ≡ resumption_of (steps ++ step_of i ranges c ∷ [])
resumption_more [] i ranges c = refl
resumption_more (s ∷ ss) i ranges c =
    ap (λ b. if b then resumption_of (s ∷ ss) else resumed_after 0 i c.address 0) (some_count (length ss))

-- ---- one instruction more

pub advances : (i : Instr) (ranges : List Range) (c : Cpu) (stores : List Store) (p : Run)
    → progress_of (with_instruction i ranges c stores p) ≡ advanced i ranges c stores (progress_of p)
unfolding progress_of
advances i ranges c stores p k = record {
  cpu = c;
  overlay = sym (laying_more p.stores stores) k;
  lasting = sym (laying_more p.lasting (lasting_of i stores)) k;
  nest = nest_after i p.cpu.general p.nest;
  footprint = sym (touching_twice untouched p.touched (absolute_ranges p.cpu.prefix ranges)) k;
  constraint = sym (constraint_more p.steps i ranges p.cpu) k;
  resumes_at = sym (resumption_more p.steps i ranges p.cpu) k;
  count = length_push p.steps (step_of i ranges p.cpu) k;
}

pub starts : (f : FlatState) (i : ℕ) → progress_of (run f i 0) ≡ resting (f.cpus i)
unfolding progress_of run
starts f i = refl

-- ---- what a run with one instruction more has come from

-- a run but for its mark
abbrev pub unmarked : Run → Run
unmarked p = record p { mark = Open }

-- an instruction went, and left this CPU and these bytes
pub record Went (text : List ℕ) (p next : Run) : Type 0 where
  pub opens : p.mark ≡ Open
  pub instruction : Instr
  pub ranges : List Range
  pub goes : fate text p ≡ Goes instruction ranges
  pub follows : may_follow p.nest instruction ≡ true
  pub cpu : Cpu
  pub bytes : List ℕ
  pub is : unmarked next
      ≡ unmarked (with_instruction instruction ranges cpu (operand_stores p.cpu.prefix ranges bytes) p)
  pub outcome : ((outcome_of instruction ranges p ≡ Did cpu bytes)
      × (next.mark ≡ mark_in (nest_after instruction p.cpu.general p.nest)))
      ⊎ ((outcome_of instruction ranges p ≡ outcome.Overflowed cpu bytes) × (next.mark ≡ Overflowed))

went_after : (text : List ℕ) (p : Run) (i : Instr) (ranges : List Range) (o : Outcome) → p.mark ≡ Open
    → fate text p ≡ Goes i ranges → may_follow p.nest i ≡ true → outcome_of i ranges p ≡ o
    → (after i ranges p o).mark ≢ Missing → Went text p (after i ranges p o)
went_after text p i ranges (Did c bytes) opens goes follows e exists = record {
  opens = opens;
  instruction = i;
  ranges = ranges;
  goes = goes;
  follows = follows;
  cpu = c;
  bytes = bytes;
  is = refl;
  outcome = inl (e, refl);
}
went_after text p i ranges (outcome.Overflowed c bytes) opens goes follows e exists = record {
  opens = opens;
  instruction = i;
  ranges = ranges;
  goes = goes;
  follows = follows;
  cpu = c;
  bytes = bytes;
  is = refl;
  outcome = inr (e, refl);
}
went_after text p i ranges Divides opens goes follows e exists = absurd (exists refl)
went_after text p i ranges (Aborts code) opens goes follows e exists = absurd (exists refl)

went_where : (text : List ℕ) (p : Run) (i : Instr) (ranges : List Range) (b : Bool) → p.mark ≡ Open
    → fate text p ≡ Goes i ranges → may_follow p.nest i ≡ b
    → (after_where b i ranges p).mark ≢ Missing → Went text p (after_where b i ranges p)
went_where text p i ranges true opens goes follows exists =
    went_after text p i ranges (outcome_of i ranges p) opens goes follows refl exists
went_where text p i ranges false opens goes follows exists = absurd (exists refl)

went_fate : (text : List ℕ) (p : Run) (o : Fate) → p.mark ≡ Open → fate text p ≡ o
    → (after_fate o p).mark ≢ Missing → Went text p (after_fate o p)
went_fate text p (Goes i ranges) opens goes exists = went_where text p i ranges (may_follow p.nest i) opens
    goes refl exists
went_fate text p (Ends why) opens goes exists = absurd (exists refl)
went_fate text p (Stops x) opens goes exists = absurd (exists refl)

went_more : (text : List ℕ) (p : Run) (m : Mark) → p.mark ≡ m → (more_of m text p).mark ≢ Missing
    → Went text p (more_of m text p)
went_more text p Open opens exists = went_fate text p (fate text p) opens refl exists
went_more text p Committed opens exists = absurd (exists refl)
went_more text p Overflowed opens exists = absurd (exists refl)
went_more text p Missing opens exists = absurd (exists refl)

pub went : (f : FlatState) (i k : ℕ) → (run f i (suc k)).mark ≢ Missing
    → Went f.text (run f i k) (run f i (suc k))
unfolding run more
went f i k exists = went_more f.text (run f i k) (run f i k).mark refl exists

-- the progress of the longer run
pub went_on : (text : List ℕ) (p next : Run) (w : Went text p next)
    → progress_of next ≡ advanced w.instruction w.ranges w.cpu
    (operand_stores p.cpu.prefix w.ranges w.bytes) (progress_of p)
unfolding progress_of
went_on text p next w =
    ap progress_of w.is ∙ advances w.instruction w.ranges w.cpu (operand_stores p.cpu.prefix w.ranges
    w.bytes) p

-- an open run is no missing one
pub open_is_there : (m : Mark) → m ≡ Open → m ≢ Missing
open_is_there m e h = let n : Open ≡ Missing = sym e ∙ h in absurd (cc)

-- ---- the number of instructions

pub counts : (f : FlatState) (i k : ℕ) → (run f i k).mark ≢ Missing → length (run f i k).steps ≡ k
unfolding run
counts f i zero exists = refl
counts f i (suc k) exists =
    let w = went f i k exists in
    let before = counts f i k (open_is_there (run f i k).mark w.opens) in
    let now : length (run f i (suc k)).steps ≡ length (run f i k).steps + 1 =
    ap (λ p. length p.steps) w.is ∙ length_push (run f i k).steps (step_of w.instruction w.ranges (run f i
    k).cpu) in
    omega (arith, before, now)

-- ---- where an instruction goes

-- the run with an instruction more
pub run_after : (f : FlatState) (i k : ℕ) (instr : Instr) (ranges : List Range) (o : Outcome)
    → (run f i k).mark ≡ Open → fate f.text (run f i k) ≡ Goes instr ranges
    → may_follow (run f i k).nest instr ≡ true → outcome_of instr ranges (run f i k) ≡ o
    → run f i (suc k) ≡ after instr ranges (run f i k) o
unfolding run more
run_after f i k instr ranges o opens goes follows e =
    let p = run f i k in
    ap (λ m. more_of m f.text p) opens
    ∙ ap (λ x. after_fate x p) goes
    ∙ ap (λ b. after_where b instr ranges p) follows
    ∙ ap (after instr ranges p) e

pub completed : (f : FlatState) (i k : ℕ) (instr : Instr) (ranges : List Range) (c : Cpu) (bytes : List ℕ)
    → (run f i k).mark ≡ Open → fate f.text (run f i k) ≡ Goes instr ranges
    → may_follow (run f i k).nest instr ≡ true → outcome_of instr ranges (run f i k) ≡ Did c bytes
    → Advances (run f i (suc k)) instr ranges c bytes (progress_of (run f i k))
    (mark_in (nest_after instr (run f i k).cpu.general (run f i k).nest))
unfolding progress_of
completed f i k instr ranges c bytes opens goes follows e =
    let p = run f i k in
    let next = run_after f i k instr ranges (Did c bytes) opens goes follows e in
    record {
      progress = ap progress_of next ∙ advances instr ranges c (operand_stores p.cpu.prefix ranges bytes) p;
      mark = ap (λ r. r.mark) next;
    }

pub overflows : (f : FlatState) (i k : ℕ) (instr : Instr) (ranges : List Range) (c : Cpu) (bytes : List ℕ)
    → (run f i k).mark ≡ Open → fate f.text (run f i k) ≡ Goes instr ranges
    → may_follow (run f i k).nest instr ≡ true → outcome_of instr ranges (run f i k) ≡ outcome.Overflowed c
    bytes
    → Advances (run f i (suc k)) instr ranges c bytes (progress_of (run f i k)) Overflowed
unfolding progress_of
overflows f i k instr ranges c bytes opens goes follows e =
    let p = run f i k in
    let next = run_after f i k instr ranges (outcome.Overflowed c bytes) opens goes follows e in
    record {
      progress = ap progress_of next ∙ advances instr ranges c (operand_stores p.cpu.prefix ranges bytes) p;
      mark = ap (λ r. r.mark) next;
    }

pub progress_counts : (f : FlatState) (i k : ℕ) → (run f i k).mark ≢ Missing
    → (progress_of (run f i k)).count ≡ k
unfolding progress_of
progress_counts f i k exists = counts f i k exists
