-- What holds of every open run: its begin is the first instruction, its nest is never empty behind that, and
-- a constrained one goes on.
use Rattle.std.proofs.Common.{◌≡◌, ℕ, zero, suc, ◌-◌, Bool, true, false, List, [], ◌∷◌, ◌++◌}
use Rattle.std.proofs.Common.{⊎_elim, Option, Some, None, refl, sym, ap, subst, ◌∙◌, arith, length, take}
use Rattle.std.specs.Prelude.{if◌then◌else◌, ◌&&◌, not}
use Rattle.std.proofs.lemmas.Bool.{true≢false}
use Rattle.z_regs.specs.Cpu.{Cpu}
use Rattle.z_regs.specs.declared.ranges.Range.{Range}
use Rattle.z_instr.specs.declared.instr.Instr.{Instr}
use Rattle.z_instr.specs.Table.{entry_at}
use Rattle.z_instr.specs.Roles.{begins}
use Rattle.z_effect.specs.Beginning.{begin_of}
use Rattle.tx_control.specs.declared.begins.Begin.{Begin}
use Rattle.tx_control.specs.Nesting.{is_constrained}
use Rattle.tx_constraint.specs.Operations.{ends, is_permitted}
use Rattle.tx_constraint.specs.Constraints.{Step, Attempt, with_step, text_breach, operand_breach}
use Rattle.tx_constraint.specs.Constraints.{first_of, GoesOn}
use Rattle.tx_constraint.specs.Kept.{next_text_breach}
use Rattle.tx_constraint.proofs.Attempts.{text_step, begun_goes, goes_further}
use Rattle.tx_serial.specs.Flat.{FlatState}
use Rattle.tx_serial.specs.Attempt.{Run, Mark, Open, Overflowed, attempt_of}
use Rattle.tx_serial.specs.Fate.{Refusal, Goes, fate, step_of, operands, tests, first_refusal}
use Rattle.tx_serial.specs.Fate.{broken_where, text_refusal, place_refusal, restricted_refusal}
use Rattle.tx_serial.specs.Fate.{specified_refusal, depth_refusal}
use Rattle.tx_serial.specs.Fate.{operand_refusal, overflow_refusal}
use Rattle.tx_serial.specs.Run.{run, nest_after, mark_in, may_follow}
use Rattle.tx_serial.proofs.Passing.{passes}
use Rattle.tx_progress.specs.Progress.{begins_constrained}
use Rattle.tx_progress.proofs.Rows.{begins_are_barred}
use Rattle.tx_progress.proofs.OneMore.{went, open_is_there}

-- ---- what holds

-- of an attempt that begins on this CPU: its first instruction, those behind it, and its open begins
pub record HasBegun (c : Cpu) (begin : Step) (later : List Step) (outermost : Begin) (inner : List Begin)
    : Type 0 where
  pub begins : begins (entry_at begin.instruction.op.number) ≡ true
  pub at : begin.at ≡ c.address
  pub opened : outermost ≡ begin_of begin.instruction c.general
  pub single : outermost.constrained ≡ true → inner ≡ []
  pub goes_on : outermost.constrained ≡ true → GoesOn (attempt_of (begin ∷ later))

-- with the CPU at rest, and the CPU now
abbrev pub Stands : Cpu → Cpu → List Step → List Begin → Type 0
Stands c now [] [] = now ≡ c
Stands c now [] (b ∷ bs) = ⊥
Stands c now (s ∷ ss) [] = ⊥
Stands c now (s ∷ ss) (b ∷ bs) = HasBegun c s ss b bs

-- the outermost begin is constrained where the first instruction begins a constrained transaction
pub is_begun_so : (c : Cpu) (begin : Step) (later : List Step) (b : Begin) (bs : List Begin)
    → HasBegun c begin later b bs → b.constrained ≡ begins_constrained begin.instruction
is_begun_so c begin later b bs h = ap (λ (x : Begin). x.constrained) h.opened

-- ---- no constraint permits a begin

pub no_text_breach : (x y p : Bool) → first_of x 1 (first_of y 2 (first_of (not p) 3 None)) ≡ None → p ≡ true
no_text_breach x y true h = refl
no_text_breach true y false h = absurd (cc)
no_text_breach false true false h = absurd (cc)
no_text_breach false false false h = absurd (cc)

is_barred : (b p r : Bool) → not (b && p) ≡ true → (p && r) ≡ true → b ≡ false
is_barred true true r e h = absurd (true≢false (sym e))
is_barred true false r e h = absurd (true≢false (sym h))
is_barred false p r e h = refl

begins_not : (a : Attempt) (s : Step) → GoesOn a → text_breach (with_step a s) ≡ None
    → begins (entry_at s.instruction.op.number) ≡ false
unfolding next_text_breach
begins_not a s goes h =
    is_barred (begins (entry_at s.instruction.op.number)) (entry_at s.instruction.op.number).permitted _
    (begins_are_barred s.instruction.op.number)
    (no_text_breach _ _ (is_permitted s.instruction) (sym (text_step a s goes) ∙ h))

-- ---- one instruction more

-- what the tests have said of a constrained attempt
pub record BreaksNone (nest : List Begin) (a : Attempt) : Type 0 where
  pub text : is_constrained nest ≡ true → text_breach a ≡ None
  pub operands : is_constrained nest ≡ true → operand_breach a ≡ None

begin_only : (c : Cpu) (i : Instr) (ranges : List Range) (now : Cpu) → now ≡ c
    → begins (entry_at i.op.number) ≡ true
    → HasBegun c (step_of i ranges now) [] (begin_of i now.general) []
begin_only c i ranges now e b = record {
  begins = b;
  at = ap (λ (x : Cpu). x.address) e;
  opened = ap (λ (x : Cpu). begin_of i x.general) e;
  single = λ h. refl;
  goes_on = λ h. begun_goes now.address;
}

none_left : {A : Type 0} (b : Begin) (bs : List Begin) → b ∷ bs ≡ [] → A
none_left b bs e = absurd (cc)

abbrev nest_by : Bool → Bool → Begin → List Begin → List Begin
nest_by begins ends new nest =
    if begins then nest ++ new ∷ [] else if ends then take (length nest - 1) nest else nest

open_by : (c : Cpu) (s : Step) (ss : List Step) (b : Begin) (bs : List Begin) (t : Step) (new : Begin) (now :
    Cpu)
    (x y : Bool) → HasBegun c s ss b bs → begins (entry_at t.instruction.op.number) ≡ x
    → ends t.instruction ≡ y → BreaksNone (b ∷ bs) (with_step (attempt_of (s ∷ ss)) t)
    → mark_in (nest_by x y new (b ∷ bs)) ≡ Open
    → Stands c now (s ∷ (ss ++ t ∷ [])) (nest_by x y new (b ∷ bs))
open_by c s ss b bs t new now true y h ex ey clear m = record {
  begins = h.begins;
  at = h.at;
  opened = h.opened;
  single = λ k. absurd (true≢false (sym ex ∙ begins_not (attempt_of (s ∷ ss)) t (h.goes_on k) (clear.text
      k)));
  goes_on = λ k. absurd (true≢false (sym ex ∙ begins_not (attempt_of (s ∷ ss)) t (h.goes_on k) (clear.text
      k)));
}
open_by c s ss b [] t new now false true h ex ey clear m = absurd (cc)
open_by c s ss b (d ∷ ds) t new now false true h ex ey clear m =
    subst (λ n. Stands c now (s ∷ (ss ++ t ∷ [])) (take n (b ∷ d ∷ ds))) shorter record {
      begins = h.begins;
      at = h.at;
      opened = h.opened;
      single = λ k. none_left d ds (h.single k);
      goes_on = λ k. none_left d ds (h.single k);
    }
  where
    shorter : suc (length ds) ≡ length (b ∷ d ∷ ds) - 1
    shorter = omega arith
open_by c s ss b bs t new now false false h ex ey clear m = record {
  begins = h.begins;
  at = h.at;
  opened = h.opened;
  single = h.single;
  goes_on = λ k. goes_further (attempt_of (s ∷ ss)) t (h.goes_on k) ey (clear.text k) (clear.operands k);
}

stands_more : (c now : Cpu) (steps : List Step) (nest : List Begin) (i : Instr) (ranges : List Range) (next :
    Cpu)
    → Stands c now steps nest → may_follow nest i ≡ true
    → BreaksNone nest (with_step (attempt_of steps) (step_of i ranges now))
    → mark_in (nest_after i now.general nest) ≡ Open
    → Stands c next (steps ++ step_of i ranges now ∷ []) (nest_after i now.general nest)
stands_more c now [] [] i ranges next h follows clear m =
    subst (λ b. Stands c next (step_of i ranges now ∷ []) (nest_by b (ends i) (begin_of i now.general) []))
    (sym follows) (begin_only c i ranges now h follows)
stands_more c now [] (b ∷ bs) i ranges next h follows clear m = absurd h
stands_more c now (s ∷ ss) [] i ranges next h follows clear m = absurd h
stands_more c now (s ∷ ss) (b ∷ bs) i ranges next h follows clear m =
    open_by c s ss b bs (step_of i ranges now) (begin_of i now.general) next (begins (entry_at i.op.number))
    (ends i) h refl refl clear m

-- ---- the tests

pub none_first : (o : Option Refusal) (rest : List (Option Refusal)) → first_refusal (o ∷ rest) ≡ None
    → (o ≡ None) × (first_refusal rest ≡ None)
none_first None rest h = (refl, h)
none_first (Some r) rest h = absurd (cc)

-- each of the seven tests finds nothing
pub record FindNothing (a b c d e f g : Option Refusal) : Type 0 where
  pub text : a ≡ None
  pub restricted : b ≡ None
  pub specified : c ≡ None
  pub depth : d ≡ None
  pub accessible : e ≡ None
  pub place : f ≡ None
  pub overflow : g ≡ None

find_nothing : (a b c d e f g : Option Refusal)
    → first_refusal (a ∷ b ∷ c ∷ d ∷ e ∷ f ∷ g ∷ []) ≡ None → FindNothing a b c d e f g
find_nothing a b c d e f g h =
    let ha = none_first a (b ∷ c ∷ d ∷ e ∷ f ∷ g ∷ []) h in
    let hb = none_first b (c ∷ d ∷ e ∷ f ∷ g ∷ []) ha.1 in
    let hc = none_first c (d ∷ e ∷ f ∷ g ∷ []) hb.1 in
    let hd = none_first d (e ∷ f ∷ g ∷ []) hc.1 in
    let he = none_first e (f ∷ g ∷ []) hd.1 in
    let hf = none_first f (g ∷ []) he.1 in
    let hg = none_first g [] hf.1 in
    record {
      text = ha.0;
      restricted = hb.0;
      specified = hc.0;
      depth = hd.0;
      accessible = he.0;
      place = hf.0;
      overflow = hg.0;
    }

abbrev pub AllFindNothing : List ℕ → Run → Instr → Type 0
AllFindNothing text p i =
    FindNothing (text_refusal p i) (restricted_refusal p i) (specified_refusal p i) (depth_refusal p i)
    (operand_refusal text p i) (place_refusal p i) (overflow_refusal p i)

pub tests_find_nothing : (text : List ℕ) (p : Run) (i : Instr) → first_refusal (tests text p i) ≡ None
    → AllFindNothing text p i
tests_find_nothing text p i h =
    find_nothing (text_refusal p i) (restricted_refusal p i) (specified_refusal p i) (depth_refusal p i)
    (operand_refusal text p i) (place_refusal p i) (overflow_refusal p i) h

unbroken : (o : Option ℕ) (a : Attempt) (i : Instr) → broken_where true (λ x. o) a i ≡ None → o ≡ None
unbroken None a i h = refl
unbroken (Some n) a i h = absurd (cc)

unbroken_where : (b : Bool) (breach : Attempt → Option ℕ) (a : Attempt) (i : Instr)
    → broken_where b breach a i ≡ None → b ≡ true → breach a ≡ None
unbroken_where true breach a i h k = unbroken (breach a) a i h
unbroken_where false breach a i h k = absurd (true≢false (sym k))

breaks_none : (text : List ℕ) (p : Run) (i : Instr) → first_refusal (tests text p i) ≡ None
    → BreaksNone p.nest (with_step (attempt_of p.steps) (step_of i (operands i p.cpu) p.cpu))
breaks_none text p i h =
    let found = tests_find_nothing text p i h in
    record {
      text = unbroken_where (is_constrained p.nest) text_breach _ i found.text;
      operands = unbroken_where (is_constrained p.nest) operand_breach _ i found.place;
    }

-- an instruction that goes breaks no constraint
pub goes_unbroken : (text : List ℕ) (p : Run) (i : Instr) (ranges : List Range) → fate text p ≡ Goes i ranges
    → BreaksNone p.nest (with_step (attempt_of p.steps) (step_of i ranges p.cpu))
goes_unbroken text p i ranges goes =
    let pass = passes text p i ranges goes in
    subst (λ rs. BreaksNone p.nest (with_step (attempt_of p.steps) (step_of i rs p.cpu))) (sym pass.touches)
    (breaks_none text p i pass.passed)

-- ---- open runs

abbrev pub RunStands : Cpu → Run → Type 0
RunStands c p = Stands c p.cpu p.steps p.nest

no_overflow : {A : Type 0} (m : Mark) → m ≡ Open → m ≡ Overflowed → A
no_overflow m e h = let n : Open ≡ Overflowed = sym e ∙ h in absurd (cc)

pub run_stands : (f : FlatState) (i k : ℕ) → (run f i k).mark ≡ Open → RunStands (f.cpus i) (run f i k)
unfolding run
run_stands f i zero e = refl
run_stands f i (suc k) e =
    let p = run f i k in
    let next = run f i (suc k) in
    let w = went f i k (open_is_there next.mark e) in
    let marked : next.mark ≡ mark_in (nest_after w.instruction p.cpu.general p.nest) =
    ⊎_elim (λ d. d.1) (λ o. no_overflow next.mark e o.1) w.outcome in
    subst (RunStands (f.cpus i)) (sym w.is)
    (stands_more (f.cpus i) p.cpu p.steps p.nest w.instruction w.ranges w.cpu
    (run_stands f i k w.opens) w.follows (goes_unbroken f.text p w.instruction w.ranges w.goes)
    (sym marked ∙ e))
