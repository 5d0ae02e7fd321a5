-- Who is ready, and who of them is next.
use Rattle.std.proofs.Common.{◌≡◌, ℕ, zero, suc, ◌+◌, ◌<◌, ◌≤◌, Bool, true, false, cond, refl, sym}
use Rattle.std.proofs.Common.{List, [], ◌∷◌, ◌++◌, Some, None, ap, ◌∙◌, arith}
use Rattle.std.specs.Prelude.{get_or, if◌then◌else◌, nat_le}
use Rattle.std.specs.List.{filter, range_with_len}
use Rattle.std.proofs.lemmas.Bool.{cases_eq, le-leb, lt-leb}
use Rattle.std.proofs.lemmas.List.{append-nil}
use borrow.Enum.Arm.{by_way}
use Rattle.tx_meaning.specs.Schedules.{Round, first_from}
use Rattle.tx_schedule.specs.Next.{next_among, first_at}

-- ---- in rising order

-- one CPU more
more_by : (a : ℕ) (rest last : List ℕ) (b : Bool)
    → cond b (a ∷ (rest ++ last)) (rest ++ last) ≡ cond b (a ∷ rest) rest ++ last
more_by a rest last true = refl
more_by a rest last false = refl

more_among : (p : ℕ → Bool) (a n j : ℕ) → a + n ≡ j
    → filter p (range_with_len a (suc n)) ≡ filter p (range_with_len a n) ++ cond (p j) (j ∷ []) []
more_among p a zero j e = let same : a ≡ j = omega arith in ap (λ i. cond (p i) (i ∷ []) []) same
more_among p a (suc n) j e =
    let later : a + 1 + n ≡ j = omega arith in
    let rest = filter p (range_with_len (a + 1) n) in
    let last = cond (p j) (j ∷ []) [] in
    ap (λ (l : List ℕ). cond (p a) (a ∷ l) l) (more_among p (a + 1) n j later)
    ∙ more_by a rest last (p a)

pub one_more : (p : ℕ → Bool) (n : ℕ)
    → filter p (range_with_len 0 (n + 1)) ≡ filter p (range_with_len 0 n) ++ cond (p n) (n ∷ []) []
one_more p n =
    let next : n + 1 ≡ suc n = omega arith in
    let last : 0 + n ≡ n = omega arith in
    ap (λ k. filter p (range_with_len 0 k)) next ∙ more_among p 0 n n last

pub more_ready : (p : ℕ → Bool) (n : ℕ) → p n ≡ true
    → filter p (range_with_len 0 (n + 1)) ≡ filter p (range_with_len 0 n) ++ n ∷ []
more_ready p n e = one_more p n ∙ ap (λ b. filter p (range_with_len 0 n) ++ cond b (n ∷ []) []) e

pub still_ready : (p : ℕ → Bool) (n : ℕ) → p n ≡ false
    → filter p (range_with_len 0 (n + 1)) ≡ filter p (range_with_len 0 n)
still_ready p n e =
    one_more p n ∙ ap (λ b. filter p (range_with_len 0 n) ++ cond b (n ∷ []) []) e
    ∙ append-nil (filter p (range_with_len 0 n))

-- ---- the first at or above a number

-- there is none behind the last
behind_at : (from a : ℕ) (rest : List ℕ) (b : Bool) → a < from → first_at from rest ≡ None
    → first_at from (cond b (a ∷ rest) rest) ≡ None
behind_at from a rest true low none =
    ap (λ b. if b then Some a else first_at from rest) (lt-leb from a low) ∙ none
behind_at from a rest false low none = none

behind : (p : ℕ → Bool) (a n from : ℕ) → a + n ≤ from → first_at from (filter p (range_with_len a n)) ≡ None
behind p a zero from h = refl
behind p a (suc n) from h =
    let low : a < from = omega arith in
    let later : a + 1 + n ≤ from = omega arith in
    behind_at from a (filter p (range_with_len (a + 1) n)) (p a) low (behind p (a + 1) n from later)

pub none_behind : (p : ℕ → Bool) (n from : ℕ) → n ≤ from
    → first_at from (filter p (range_with_len 0 n)) ≡ None
none_behind p n from h = let h : 0 + n ≤ from = omega arith in behind p 0 n from h

-- one that is ready is the first from itself on
here_at : (cpu a : ℕ) (rest : List ℕ) (b : Bool) → a < cpu → first_at cpu rest ≡ Some cpu
    → first_at cpu (cond b (a ∷ rest) rest) ≡ Some cpu
here_at cpu a rest true low first =
    ap (λ b. if b then Some a else first_at cpu rest) (lt-leb cpu a low) ∙ first
here_at cpu a rest false low first = first

here_by : (cpu a : ℕ) (rest : List ℕ) (b : Bool) → cpu ≡ a → b ≡ true
    → first_at cpu (cond b (a ∷ rest) rest) ≡ Some cpu
here_by cpu a rest true same e =
    let low : cpu ≤ a = omega arith in
    ap (λ b. if b then Some a else first_at cpu rest) (le-leb cpu a low) ∙ ap (λ i. Some i) (sym same)
here_by cpu a rest false same e = let n : false ≡ true = e in cc

here : (p : ℕ → Bool) (a n cpu : ℕ) → p cpu ≡ true → a ≤ cpu → cpu < a + n
    → first_at cpu (filter p (range_with_len a n)) ≡ Some cpu
here p a zero cpu e low high = absurd (omega arith)
here p a (suc n) cpu e low high =
    let rest = filter p (range_with_len (a + 1) n) in
    by_way (cases_eq cpu a)
    (λ same. here_by cpu a rest (p a) same (ap p (sym same) ∙ e))
    (λ ne.
    let less : a < cpu = omega arith in
    let above : a + 1 ≤ cpu = omega arith in
    let below : cpu < a + 1 + n = omega arith in
    here_at cpu a rest (p a) less (here p (a + 1) n cpu e above below))

pub first_here : (p : ℕ → Bool) (n cpu : ℕ) → p cpu ≡ true → cpu < n
    → first_at cpu (filter p (range_with_len 0 n)) ≡ Some cpu
first_here p n cpu e known =
    let low : 0 ≤ cpu = omega arith in
    let high : cpu < 0 + n = omega arith in
    here p 0 n cpu e low high

-- one that is not ready is passed
same_bound : (cpu a : ℕ) → (cpu ≡ a → ⊥) → nat_le cpu a ≡ nat_le (cpu + 1) a
same_bound cpu a ne = grind arith

past_at : (cpu a : ℕ) (rest : List ℕ) (b : Bool) → (b ≡ true → cpu ≡ a → ⊥)
    → first_at cpu rest ≡ first_at (cpu + 1) rest
    → first_at cpu (cond b (a ∷ rest) rest) ≡ first_at (cpu + 1) (cond b (a ∷ rest) rest)
past_at cpu a rest true ne later =
    ap (λ b. if b then Some a else first_at cpu rest) (same_bound cpu a (ne refl))
    ∙ ap (λ o. if nat_le (cpu + 1) a then Some a else o) later
past_at cpu a rest false ne later = later

past : (p : ℕ → Bool) (a n cpu : ℕ) → p cpu ≡ false
    → first_at cpu (filter p (range_with_len a n)) ≡ first_at (cpu + 1) (filter p (range_with_len a n))
past p a zero cpu e = refl
past p a (suc n) cpu e =
    past_at cpu a (filter p (range_with_len (a + 1) n)) (p a)
    (λ ready same. let n : false ≡ true = sym e ∙ ap p same ∙ ready in cc)
    (past p (a + 1) n cpu e)

pub first_past : (p : ℕ → Bool) (n cpu : ℕ) → p cpu ≡ false
    → first_at cpu (filter p (range_with_len 0 n)) ≡ first_at (cpu + 1) (filter p (range_with_len 0 n))
first_past p n cpu e = past p 0 n cpu e

-- ---- in the round

found_by : (from cpu c : ℕ) (all rest : List ℕ) (b : Bool)
    → (if b then Some c else first_at from rest) ≡ Some cpu
    → (first_at from rest ≡ Some cpu → first_from from all rest ≡ cpu)
    → (if b then c else first_from from all rest) ≡ cpu
found_by from cpu c all rest true found later = grind arith
found_by from cpu c all rest false found later = later found

found : (from cpu : ℕ) (all rest : List ℕ) → first_at from rest ≡ Some cpu → first_from from all rest ≡ cpu
found from cpu all [] e = let n : None ≡ Some cpu = e in cc
found from cpu all (c ∷ rest) e =
    found_by from cpu c all rest (nat_le from c) e (λ later. found from cpu all rest later)

lowest_by : (from c : ℕ) (all rest : List ℕ) (b : Bool)
    → (if b then Some c else first_at from rest) ≡ None
    → (first_at from rest ≡ None → first_from from all rest ≡ get_or all 0 0)
    → (if b then c else first_from from all rest) ≡ get_or all 0 0
lowest_by from c all rest true none later = let n : Some c ≡ None = none in cc
lowest_by from c all rest false none later = later none

lowest : (from : ℕ) (all rest : List ℕ) → first_at from rest ≡ None
    → first_from from all rest ≡ get_or all 0 0
lowest from all [] e = refl
lowest from all (c ∷ rest) e =
    lowest_by from c all rest (nat_le from c) e (λ later. lowest from all rest later)

pub round_found : (from cpu : ℕ) (ready : List ℕ) → first_at from ready ≡ Some cpu
    → Some cpu ≡ next_among (Round from) ready
round_found from cpu [] e = let n : None ≡ Some cpu = e in cc
round_found from cpu (c ∷ rest) e = ap (λ i. Some i) (sym (found from cpu (c ∷ rest) (c ∷ rest) e))

pub round_lowest : (from : ℕ) (ready : List ℕ) → first_at from ready ≡ None
    → first_at 0 ready ≡ next_among (Round from) ready
round_lowest from [] e = refl
round_lowest from (c ∷ rest) e =
    let low : 0 ≤ c = omega arith in
    ap (λ b. if b then Some c else first_at 0 rest) (le-leb 0 c low)
    ∙ ap (λ i. Some i) (sym (lowest from (c ∷ rest) (c ∷ rest) e))

-- from the first number on, the lowest ready one is next
pub round_begins : (ready : List ℕ) → first_at 0 ready ≡ next_among (Round 0) ready
round_begins [] = refl
round_begins (c ∷ rest) =
    let low : 0 ≤ c = omega arith in
    let first = ap (λ b. if b then Some c else first_at 0 rest) (le-leb 0 c low) in
    first ∙ round_found 0 c (c ∷ rest) first
