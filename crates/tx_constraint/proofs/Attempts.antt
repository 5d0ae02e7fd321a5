-- What is kept of an attempt, and what that says of its constraints.
use Rattle.std.proofs.Common.{◌≡◌, ℕ, ◌+◌, ◌≤◌, Bool, true, false, ◌&&◌, ◌||◌, not, cond, ltb, leb, List, [], ◌∷◌, ◌++◌, length, Option, None, refl, sym, ap, ◌∙◌, arith}
use Rattle.std.specs.List.{list_any, flat_map, count_by}
use Rattle.std.proofs.lemmas.List.{length_push, append-nil}
use Rattle.std.proofs.lemmas.List.Sums.{sum_by-append, sum_by-cons}
use Rattle.std.proofs.lemmas.Grind.{flat_map-append}
use Rattle.std.proofs.lemmas.List.Folds.{list_any-append}
use Rattle.std.proofs.lemmas.Bool.{cases_lt, or_parts, ltb-false, lt-ltb, le-ltb, le-leb, lt-leb}
use Rattle.std.proofs.Math.Bool.{and-false, or-false}
use borrow.Enum.Arm.{by_way}
use Rattle.tx_constraint.specs.Operations.{ends, is_permitted, unit_of}
use Rattle.tx_constraint.specs.Bytes.{touches_own_page}
use Rattle.tx_constraint.specs.Octowords.{with_octowords}
use Rattle.tx_constraint.specs.Constraints.{Step, Attempt, with_step, begun, is_too_long, leaves_its_bytes, has_barred, is_too_wide, touches_itself, has_split, lies_near, is_split, octowords, first_of, text_breach, operand_breach, GoesOn}
use Rattle.tx_constraint.specs.Kept.{Kept, kept, kept_at, added, next_text_breach, next_operand_breach}
use Rattle.tx_constraint.proofs.Piling.{with_octowords-append, with_octowords-none}

-- ---- nothing broken

pub unbroken : (b : Bool) (n : ℕ) (rest : Option ℕ) → first_of b n rest ≡ None → (b ≡ false) × (rest ≡ None)
unbroken true n rest e = absurd (cc)
unbroken false n rest e = (refl, e)

record NoTextBreach (a : Attempt) : Type 0 where
  pub long : is_too_long a ≡ false
  pub leaves : leaves_its_bytes a ≡ false
  pub barred : has_barred a ≡ false

no_text_breach : (a : Attempt) → text_breach a ≡ None → NoTextBreach a
unfolding text_breach
no_text_breach a e =
    let one = unbroken (is_too_long a) 1 _ e in
    let two = unbroken (leaves_its_bytes a) 2 _ one.1 in
    let three = unbroken (has_barred a) 3 _ two.1 in
    record { long = one.0; leaves = two.0; barred = three.0 }

record NoOperandBreach (a : Attempt) : Type 0 where
  pub wide : is_too_wide a ≡ false
  pub itself : touches_itself a ≡ false
  pub split : has_split a ≡ false

no_operand_breach : (a : Attempt) → operand_breach a ≡ None → NoOperandBreach a
unfolding operand_breach
no_operand_breach a e =
    let four = unbroken (is_too_wide a) 4 _ e in
    let five = unbroken (touches_itself a) 5 _ four.1 in
    let seven = unbroken (has_split a) 7 _ five.1 in
    record { wide = four.0; itself = five.0; split = seven.0 }

-- ---- what is kept

kept_parts : (begin n m : ℕ) (xs ys : List ℕ) → n ≡ m → xs ≡ ys →
    (let k : Kept = record { begin = begin; count = n; octowords = xs } in k) ≡
    record { begin = begin; count = m; octowords = ys }
kept_parts begin n m xs ys e d = λ i. record { begin = begin; count = e i; octowords = d i }

pub octowords_begun : (begin : ℕ) → kept (begun begin) ≡ kept_at begin
octowords_begun begin = kept_parts begin 0 0 _ [] refl (with_octowords-none [])

octowords_step : (a : Attempt) (s : Step) → octowords (with_step a s) ≡ with_octowords (octowords a) s.ranges
octowords_step a s =
    ap (with_octowords []) (flat_map-append (λ (x : Step). x.ranges) a.steps (s ∷ [])
    ∙ ap (λ xs. flat_map (λ (x : Step). x.ranges) a.steps ++ xs) (append-nil s.ranges))
    ∙ with_octowords-append [] (flat_map (λ (x : Step). x.ranges) a.steps) s.ranges

pub kept_step : (a : Attempt) (s : Step) → kept (with_step a s) ≡ added (kept a) s.ranges
kept_step a s = kept_parts a.begin _ _ _ _ (length_push a.steps s) (octowords_step a s)

-- ---- one more step of an attempt that goes on

any_step : (p : Step → Bool) (steps : List Step) (s : Step) → list_any p steps ≡ false →
    list_any p (steps ++ s ∷ []) ≡ p s
any_step p steps s none = list_any-append p steps (s ∷ []) ∙ ap (λ b. b || (p s || false)) none
    ∙ or-false (p s)

abbrev no_end : Step → Bool
no_end s = not (ends s.instruction)

-- without an end all steps count
all_count : (steps : List Step) → list_any (λ s. ends s.instruction) steps ≡ false →
    count_by no_end steps ≡ length steps
all_count [] none = refl
all_count (s ∷ steps) none =
    let parts = or_parts (ends s.instruction) (list_any (λ x. ends x.instruction) steps) none in
    let one : cond {A = ℕ} (no_end s) 1 0 ≡ 1 = ap (λ b. cond {A = ℕ} (not b) 1 0) parts.0 in
    let rest : count_by no_end steps ≡ length steps = all_count steps parts.1 in
    omega (arith, one, rest, sum_by-cons (λ x. cond {A = ℕ} (no_end x) 1 0) s steps)

count_step : (steps : List Step) (s : Step) →
    count_by no_end (steps ++ s ∷ []) ≡ count_by no_end steps + cond {A = ℕ} (no_end s) 1 0
count_step steps s =
    let one : count_by no_end (s ∷ []) ≡ cond {A = ℕ} (no_end s) 1 0 =
    omega (arith, sum_by-cons (λ x. cond {A = ℕ} (no_end x) 1 0) s []) in
    omega (arith, one, sum_by-append (λ x. cond {A = ℕ} (no_end x) 1 0) steps (s ∷ []))

-- ---- it goes on

-- a new one does
pub begun_goes : (at : ℕ) → GoesOn (begun at)
unfolding text_breach operand_breach with_octowords
begun_goes at = record { unended = refl; text = refl; operands = refl }

-- and so does one that has gone on, with a step that is no end and breaks nothing
pub goes_further : (a : Attempt) (s : Step) → GoesOn a → ends s.instruction ≡ false
    → text_breach (with_step a s) ≡ None → operand_breach (with_step a s) ≡ None → GoesOn (with_step a s)
goes_further a s g unended text places = record {
  unended = list_any-append (λ t. ends t.instruction) a.steps (s ∷ [])
      ∙ (λ k. g.unended k || (unended k || false));
  text = text;
  operands = places;
}

pub few_steps : (a : Attempt) → GoesOn a → length a.steps ≤ 32
few_steps a g =
    let short : count_by no_end a.steps ≤ 32 = ltb-false _ _ (no_text_breach a g.text).long in
    omega (arith, short, all_count a.steps g.unended)

too_long : (n : ℕ) (counts : Bool) → n ≤ 32 → ltb 32 (n + cond {A = ℕ} counts 1 0) ≡ (leb 32 n && counts)
too_long n true few = by_way (cases_lt n 32)
    (λ below. le-ltb 32 (n + 1) (omega arith) ∙ sym (ap (λ b. b && true) (lt-leb 32 n below)))
    (λ above. lt-ltb 32 (n + 1) (omega arith) ∙ sym (ap (λ b. b && true) (le-leb 32 n above)))
too_long n false few = le-ltb 32 (n + 0) (omega arith) ∙ sym (and-false (leb 32 n))

pub text_step : (a : Attempt) (s : Step) → GoesOn a →
    text_breach (with_step a s) ≡ next_text_breach (kept a) s.instruction s.at
unfolding text_breach next_text_breach
text_step a s g =
    let no = no_text_breach a g.text in
    let counted : count_by no_end (a.steps ++ s ∷ []) ≡ length a.steps + cond {A = ℕ} (no_end s) 1 0 =
    count_step a.steps s ∙ ap (λ n. n + cond {A = ℕ} (no_end s) 1 0) (all_count a.steps g.unended) in
    let long : is_too_long (with_step a s) ≡ (leb 32 (length a.steps) && no_end s) =
    ap (ltb 32) counted ∙ too_long (length a.steps) (no_end s) (few_steps a g) in
    let leaves = any_step (λ x. not (lies_near a.begin x.instruction x.at)) a.steps s no.leaves in
    let barred = any_step (λ x. not (is_permitted x.instruction)) a.steps s no.barred in
    λ i. first_of (long i) 1 (first_of (leaves i) 2 (first_of (barred i) 3 None))

pub operand_step : (a : Attempt) (s : Step) → GoesOn a →
    operand_breach (with_step a s) ≡ next_operand_breach (kept a) s.instruction s.ranges
unfolding operand_breach next_operand_breach
operand_step a s g =
    let no = no_operand_breach a g.operands in
    let wide = octowords_step a s in
    let itself = any_step (λ x. list_any (touches_own_page a.begin) x.ranges) a.steps s no.itself in
    let split = any_step (λ x. list_any (is_split (unit_of x.instruction)) x.ranges) a.steps s no.split in
    λ i. first_of (ltb 4 (length (wide i))) 4 (first_of (itself i) 5 (first_of (split i) 7 None))

pub few_octowords : (a : Attempt) → GoesOn a → length (octowords a) ≤ 4
few_octowords a g = ltb-false _ _ (no_operand_breach a g.operands).wide
