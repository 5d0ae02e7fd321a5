-- The tests of the next instruction of a run, by what is kept of it.
use Rattle.std.proofs.Common.{◌≡◌, ℕ, Bool, true, false, List, [], ◌∷◌, ◌++◌, Option, Some, None}
use Rattle.std.proofs.Common.{refl, sym, ap}
use Rattle.std.proofs.Common.{◌∙◌, length}
use Rattle.std.specs.Prelude.{Result, Ok, Err}
use Rattle.z_regs.specs.Cpu.{Cpu, cpu_of}
use Rattle.z_regs.specs.declared.ranges.Range.{Range}
use Rattle.z_instr.specs.declared.instr.Instr.{Instr}
use Rattle.z_instr.specs.Operands.{unspecified, inaccessible}
use Rattle.z_instr.specs.Access.{accessible_pages, text_pages}
use Rattle.z_touch.specs.Refusals.{answer, refusal, refused, first_of}
use Rattle.tx_control.specs.Nesting.{is_constrained}
use Rattle.tx_control.specs.declared.begins.Begin.{Begin}
use Rattle.tx_control.specs.Codes.{transaction_constraint_code}
use Rattle.tx_control.specs.declared.exceptions.Exception.{Exception}
use Rattle.tx_constraint.specs.Constraints.{Attempt, begun, with_step, text_breach, operand_breach, verdict}
use Rattle.tx_constraint.specs.Kept.{next_text_breach, next_operand_breach}
use Rattle.tx_constraint.proofs.Attempts.{text_step, operand_step}
use Rattle.tx_serial.specs.Flat.{Storage}
use Rattle.tx_serial.specs.Attempt.{Run, attempt_of}
use Rattle.tx_serial.specs.Fate.{Refusal, Excepts, broken, broken_where, step_of, operands, excepted}
use Rattle.tx_serial.specs.Fate.{text_refusal, place_refusal, restricted_refusal, specified_refusal}
use Rattle.tx_serial.specs.Fate.{depth_refusal}
use Rattle.tx_serial.specs.Fate.{first_refusal, operand_refusal}
use Rattle.tx_private.specs.declared.attempt.Attempt as kept
use Rattle.tx_private.specs.declared.refusals.Refused.{Refused}
use Rattle.tx_private.specs.declared.refusals.Refused.TheVariants as refuses
use Rattle.tx_private.specs.Shows.{Shows}
use Rattle.tx_private.specs.Refused.{found, Admits}
use Rattle.tx_private.specs.declared.refusals.Admitted.{Admitted}
use Rattle.tx_serial.proofs.FreeOperands.{not_excepted}

-- ---- constraints

-- what comes of an answer on constraints
abbrev pub broken_by : Option ℕ → Instr → Option Refusal
broken_by o i = broken_where true (λ a. o) (begun 0) i

pub no_breach_by : (o : Option ℕ) (i : Instr) → broken_by o i ≡ None → o ≡ None
no_breach_by None i h = refl
no_breach_by (Some n) i h = absurd (cc)

limited_by : (breach : Attempt → Option ℕ) (p : Run) (i : Instr) (o : Option ℕ) → is_constrained p.nest ≡ true
    → breach (with_step (attempt_of p.steps) (step_of i (operands i p.cpu) p.cpu)) ≡ o
    → broken breach p i ≡ broken_by o i
limited_by breach p i o is e =
    ap (λ b. broken_where b breach (with_step (attempt_of p.steps) (step_of i (operands i p.cpu) p.cpu)) i) is
    ∙ ap (λ q. broken_by q i) e

pub unlimited : (breach : Attempt → Option ℕ) (p : Run) (i : Instr) → is_constrained p.nest ≡ false
    → None ≡ broken breach p i
unlimited breach p i is =
    sym (ap (λ b. broken_where b breach (with_step (attempt_of p.steps) (step_of i (operands i p.cpu) p.cpu))
    i) is)

-- the answer of a call as a test
pub answer_kept : (o : Option ℕ) (i : Instr) → Ok tt ≡ verdict o → None ≡ broken_by o i
answer_kept None i h = refl
answer_kept (Some n) i h = absurd (cc)

pub answer_broken : (o : Option ℕ) (i : Instr) (n : ℕ) (e : Exception) → e ≡ refused i transaction_constraint_code
    → Err n ≡ verdict o → found (Some (refuses.Excepts e)) ≡ broken_by o i
answer_broken None i n e same h = absurd (cc)
answer_broken (Some m) i n e same h = ap (λ x. Some (Excepts x)) same

pub text_by : (base : Storage) (a : kept.Attempt) (p : Run) (i : Instr) → Shows base a p
    → is_constrained p.nest ≡ true
    → text_refusal p i ≡ broken_by (next_text_breach a.constraint i (cpu_of a.image).address) i
text_by base a p i shows is =
    let limits = shows.limited is in
    limited_by text_breach p i (next_text_breach a.constraint i (cpu_of a.image).address) is
    (text_step (attempt_of p.steps) (step_of i (operands i p.cpu) p.cpu) limits.goes_on
    ∙ ap (λ k. next_text_breach k i p.cpu.address) (sym limits.keeps)
    ∙ ap (λ (c : Cpu). next_text_breach a.constraint i c.address) shows.cpu)

pub place_by : (base : Storage) (a : kept.Attempt) (p : Run) (i : Instr) (ranges : List Range)
    → Shows base a p
    → is_constrained p.nest ≡ true → ranges ≡ operands i p.cpu
    → place_refusal p i ≡ broken_by (next_operand_breach a.constraint i ranges) i
place_by base a p i ranges shows is touches =
    let limits = shows.limited is in
    limited_by operand_breach p i (next_operand_breach a.constraint i ranges) is
    (operand_step (attempt_of p.steps) (step_of i (operands i p.cpu) p.cpu) limits.goes_on
    ∙ ap (λ k. next_operand_breach k i (operands i p.cpu)) (sym limits.keeps)
    ∙ ap (next_operand_breach a.constraint i) (sym touches))

-- whether the code's nest is constrained
pub same_limit : (base : Storage) (a : kept.Attempt) (p : Run) (b c : Bool) → Shows base a p
    → b ≡ is_constrained a.nest → b ≡ c → is_constrained p.nest ≡ c
same_limit base a p b c shows e is = ap is_constrained (sym shows.nest) ∙ sym e ∙ is

-- ---- operands

-- what a test answers: a refusal, or else the operands
operands_by : (base : Storage) (a : kept.Attempt) (p : Run) (i : Instr) (text : List ℕ) → Shows base a p
    → operand_refusal text p i
    ≡ excepted i (inaccessible i a.image.general a.image.condition (length a.nest) (accessible_pages
    a.image.prefix)
    (text_pages a.image.prefix text))
operands_by base a p i text shows =
    ap (λ (c : Cpu). excepted i (inaccessible i c.general c.condition (length p.nest) (accessible_pages
    c.prefix)
    (text_pages c.prefix text))) shows.cpu
    ∙ ap (λ (n : List Begin). excepted i (inaccessible i a.image.general a.image.condition (length n)
    (accessible_pages a.image.prefix) (text_pages a.image.prefix text))) (sym shows.nest)

-- special operation and specification are past
past : (base : Storage) (a : kept.Attempt) (p : Run) (i : Instr) (text : List ℕ) → Shows base a p
    → specified_refusal p i ≡ None
    → refusal i (cpu_of a.image) (length a.nest) text
    ≡ inaccessible i a.image.general a.image.condition (length a.nest) (accessible_pages a.image.prefix)
    (text_pages a.image.prefix text)
past base a p i text shows h =
    let here : excepted i (unspecified i a.image.general (length a.nest)) ≡ None =
    sym (ap (λ (c : Cpu). excepted i (unspecified i c.general (length p.nest))) shows.cpu
    ∙ ap (λ (n : List Begin). excepted i (unspecified i a.image.general (length n))) (sym shows.nest)) ∙ h in
    ap (λ o. first_of o (inaccessible i a.image.general a.image.condition (length a.nest)
    (accessible_pages a.image.prefix) (text_pages a.image.prefix text))) (not_excepted i _ here)

ok_by : (o : Option ℕ) (i : Instr) (x y : List Range) → Ok x ≡ answer o i y → (excepted i o ≡ None) × (x ≡ y)
ok_by None i x y h = (refl, (let e : x ≡ y = cc in e))
ok_by (Some code) i x y h = absurd (cc)

err_by : (o : Option ℕ) (i : Instr) (x : List Range) (e : Exception) → Err e ≡ answer o i x
    → excepted i o ≡ Some (Excepts e)
err_by None i x e h = absurd (cc)
err_by (Some code) i x e h = ap (λ y. Some (Excepts y)) (let same : refused i code ≡ e = cc in same)

pub operands_ok : (base : Storage) (a : kept.Attempt) (p : Run) (i : Instr) (text : List ℕ) (x : List Range)
    → Shows base a p → specified_refusal p i ≡ None
    → Ok x ≡ answer (refusal i (cpu_of a.image) (length a.nest) text) i (operands i (cpu_of a.image))
    → (operand_refusal text p i ≡ None) × (x ≡ operands i p.cpu)
operands_ok base a p i text x shows h e =
    let both = ok_by (inaccessible i a.image.general a.image.condition (length a.nest)
    (accessible_pages a.image.prefix) (text_pages a.image.prefix text)) i x (operands i (cpu_of a.image))
    (e ∙ ap (λ o. answer o i (operands i (cpu_of a.image))) (past base a p i text shows h)) in
    (operands_by base a p i text shows ∙ both.0, both.1 ∙ ap (operands i) (sym shows.cpu))

pub operands_err : (base : Storage) (a : kept.Attempt) (p : Run) (i : Instr) (text : List ℕ) (x : Exception)
    → Shows base a p → specified_refusal p i ≡ None
    → Err x ≡ answer (refusal i (cpu_of a.image) (length a.nest) text) i (operands i (cpu_of a.image))
    → operand_refusal text p i ≡ Some (Excepts x)
operands_err base a p i text x shows h e =
    operands_by base a p i text shows
    ∙ err_by (inaccessible i a.image.general a.image.condition (length a.nest)
    (accessible_pages a.image.prefix) (text_pages a.image.prefix text)) i (operands i (cpu_of a.image)) x
    (e ∙ ap (λ o. answer o i (operands i (cpu_of a.image))) (past base a p i text shows h))

-- ---- tests in order

pub first_found : (xs ys : List (Option Refusal)) (r : Refusal) → first_refusal xs ≡ Some r
    → first_refusal (xs ++ ys) ≡ Some r
first_found [] ys r h = absurd (cc)
first_found (None ∷ xs) ys r h = first_found xs ys r h
first_found (Some x ∷ xs) ys r h = h

pub none_found : (xs ys : List (Option Refusal)) → first_refusal xs ≡ None
    → first_refusal (xs ++ ys) ≡ first_refusal ys
none_found [] ys h = refl
none_found (None ∷ xs) ys h = none_found xs ys h
none_found (Some x ∷ xs) ys h = absurd (cc)

pub found_first : (o : Option Refusal) (rest : List (Option Refusal)) (r : Refusal) → o ≡ Some r
    → first_refusal (o ∷ rest) ≡ Some r
found_first o rest r h = ap (λ q. first_refusal (q ∷ rest)) h

pub none_first : (o : Option Refusal) (rest : List (Option Refusal)) → o ≡ None
    → first_refusal (o ∷ rest) ≡ first_refusal rest
none_first o rest h = ap (λ q. first_refusal (q ∷ rest)) h

-- what the first tests and the last ones answer together
pub admits : (xs : List (Option Refusal)) (o : Option Refusal) (ys : List (Option Refusal)) (p : Run) (i :
    Instr)
    (r : Result Admitted Refused) → first_refusal xs ≡ None → o ≡ None → Admits ys p i r
    → Admits (xs ++ o ∷ ys) p i r
admits xs o ys p i (Ok admitted) h e a = (none_found xs (o ∷ ys) h ∙ none_first o ys e ∙ a.0, a.1, a.2)
admits xs o ys p i (Err r) h e a = none_found xs (o ∷ ys) h ∙ none_first o ys e ∙ a

third : (a b c d : Option Refusal) → first_refusal (a ∷ b ∷ c ∷ d ∷ []) ≡ None → c ≡ None
third None None None d h = refl
third None None (Some r) d h = absurd (cc)
third None (Some r) c d h = absurd (cc)
third (Some r) b c d h = absurd (cc)

pub specified_past : (p : Run) (i : Instr)
    → first_refusal (text_refusal p i ∷ restricted_refusal p i ∷ specified_refusal p i ∷ depth_refusal p i ∷
    []) ≡ None
    → specified_refusal p i ≡ None
specified_past p i h =
    third (text_refusal p i) (restricted_refusal p i) (specified_refusal p i) (depth_refusal p i) h
