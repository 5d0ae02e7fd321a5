-- What the retry ladder leaves of the turns that a constrained transaction can need.
use Rattle.std.proofs.Common.{◌≡◌, ℕ, zero, suc, ◌+◌, ◌*◌, ◌-◌, ◌<◌, ◌≤◌, true}
use Rattle.std.proofs.Common.{ap, ◌∙◌, arith}
use Rattle.std.specs.Prelude.{if◌then◌else◌, nat_lt, sum_by}
use Rattle.std.specs.List.{range_with_len}
use Rattle.std.proofs.lemmas.Bool.{lt-ltb, le-ltb, cases_lt}
use Rattle.std.proofs.lemmas.List.Sums.{sum_by-cons}
use borrow.Enum.Arm.{by_way}
use Rattle.tx_ladder.specs.Parameters.{Parameters}
use Rattle.tx_ladder.specs.Rungs.{delay_after}
use Rattle.tx_meaning.specs.Stretches.{left, left_by, later_rungs, attempt_turns, bound}
use Rattle.tx_meaning.specs.Limits.{Setting}
use Rattle.tx_meaning.specs.State.{State, is_live, standing_of}
use Rattle.tx_bounds.specs.Stretches.{IsUnderWay}

abbrev rung : Parameters → ℕ → ℕ
rung parms b = delay_after parms b + attempt_turns parms

-- one rung less
rungs_from : (parms : Parameters) (a n k : ℕ) → n ≡ suc k
    → sum_by (rung parms) (range_with_len a n)
    ≡ rung parms a + sum_by (rung parms) (range_with_len (a + 1) k)
rungs_from parms a n k e =
    ap (λ x. sum_by (rung parms) (range_with_len a x)) e
    ∙ sum_by-cons (rung parms) a (range_with_len (a + 1) k)

pub later_next : (parms : Parameters) (a : ℕ) → a + 1 < parms.stop
    → later_rungs parms a ≡ rung parms (a + 1) + later_rungs parms (a + 1)
later_next parms a less =
    let e : parms.stop - 1 - a ≡ suc (parms.stop - 1 - (a + 1)) = omega arith in
    rungs_from parms (a + 1) (parms.stop - 1 - a) (parms.stop - 1 - (a + 1)) e

times_one_more : (n t : ℕ) → suc n * t ≡ t + n * t
times_one_more n t = grind arith

times_none : (t : ℕ) → 0 * t ≡ 0
times_none t = grind arith

-- all rungs together
rungs_sum : (parms : Parameters) (a n : ℕ)
    → sum_by (rung parms) (range_with_len a n)
    ≡ sum_by (delay_after parms) (range_with_len a n) + n * attempt_turns parms
rungs_sum parms a zero = let none = times_none (attempt_turns parms) in omega (arith, none)
rungs_sum parms a (suc n) =
    let whole = sum_by-cons (rung parms) a (range_with_len (a + 1) n) in
    let delays = sum_by-cons (delay_after parms) a (range_with_len (a + 1) n) in
    let rest = rungs_sum parms (a + 1) n in
    let times = times_one_more n (attempt_turns parms) in
    omega (arith, whole, delays, rest, times)

-- ---- below the stop, and at it

pub left_below : (parms : Parameters) (a d n r : ℕ) → a < parms.stop
    → left_by parms a d n r ≡ attempt_turns parms - n - r + d + later_rungs parms a + 34
left_below parms a d n r less =
    ap (λ b. if b then (attempt_turns parms - n - r + d + later_rungs parms a + 34) else (34 - n))
    (lt-ltb a parms.stop less)

pub left_at : (parms : Parameters) (a d n r : ℕ) → parms.stop ≤ a → left_by parms a d n r ≡ 34 - n
left_at parms a d n r least =
    ap (λ b. if b then (attempt_turns parms - n - r + d + later_rungs parms a + 34) else (34 - n))
    (le-ltb a parms.stop least)

pub left_some : (parms : Parameters) (a d n r : ℕ) → n ≤ 33 → 1 ≤ left_by parms a d n r
left_some parms a d n r few = by_way (cases_lt a parms.stop)
    (λ less. let e = left_below parms a d n r less in omega (arith, e))
    (λ least. let e = left_at parms a d n r least in omega (arith, e, few))

pub left_first : (parms : Parameters) → 0 < parms.stop → 1 + left_by parms 0 0 1 0 ≡ bound parms
left_first parms some =
    let e = left_below parms 0 0 1 0 some in
    let sum = rungs_sum parms 1 (parms.stop - 1) in
    let times : parms.stop * attempt_turns parms
    ≡ attempt_turns parms + (parms.stop - 1) * attempt_turns parms =
    ap (λ x. x * attempt_turns parms) (whole parms.stop some)
    ∙ times_one_more (parms.stop - 1) (attempt_turns parms) in
    let same : later_rungs parms 0 ≡ sum_by (rung parms) (range_with_len 1 (parms.stop - 1)) =
    ap (λ n. sum_by (rung parms) (range_with_len 1 n)) (no_less (parms.stop - 1)) in
    omega (arith, e, sum, times, same)
  where
    no_less : (n : ℕ) → n - 0 ≡ n
    no_less n = omega arith

    whole : (stop : ℕ) → 0 < stop → stop ≡ suc (stop - 1)
    whole stop some = omega arith

pub left_executed : (parms : Parameters) (a d n r : ℕ) → n ≤ 33 → r < parms.starve
    → left_by parms a d (n + 1) r + 1 ≡ left_by parms a d n r
left_executed parms a d n r few less = by_way (cases_lt a parms.stop)
    (λ below. let e = left_below parms a d n r below in let f = left_below parms a d (n + 1) r below in
    omega (arith, e, f))
    (λ least. let e = left_at parms a d n r least in let f = left_at parms a d (n + 1) r least in
    omega (arith, e, f))

pub left_rejected : (parms : Parameters) (a d n r : ℕ) → a < parms.stop → n ≤ 33 → r < parms.starve
    → left_by parms a d n (r + 1) + 1 ≡ left_by parms a d n r
left_rejected parms a d n r below few less =
    let e = left_below parms a d n r below in let f = left_below parms a d n (r + 1) below in
    omega (arith, e, f)

pub left_delayed : (parms : Parameters) (a d n r : ℕ) → a < parms.stop
    → left_by parms a d n r + 1 ≡ left_by parms a (d + 1) n r
left_delayed parms a d n r below =
    let e = left_below parms a d n r below in let f = left_below parms a (d + 1) n r below in
    omega (arith, e, f)

pub left_climbed : (parms : Parameters) (a n r : ℕ) → a + 1 < parms.stop → n ≤ 33 → r < parms.starve
    → left_by parms (a + 1) (delay_after parms (a + 1)) 0 0 + 2 ≤ left_by parms a 0 n r
left_climbed parms a n r below few less =
    let under : a < parms.stop = omega arith in
    let e = left_below parms a 0 n r under in
    let f = left_below parms (a + 1) (delay_after parms (a + 1)) 0 0 below in
    let next = later_next parms a below in
    omega (arith, e, f, next)

pub left_joined : (parms : Parameters) (a n r : ℕ) → a + 1 ≡ parms.stop → n ≤ 33 → r < parms.starve
    → left_by parms (a + 1) 0 0 0 + 2 ≤ left_by parms a 0 n r
left_joined parms a n r full few less =
    let under : a < parms.stop = omega arith in
    let least : parms.stop ≤ a + 1 = omega arith in
    let e = left_below parms a 0 n r under in
    let f = left_at parms (a + 1) 0 0 0 least in
    omega (arith, e, f)

pub left_interrupted : (parms : Parameters) (a n r : ℕ) → n ≤ 33 → r < parms.starve
    → left_by parms a 0 0 0 + 1 ≤ left_by parms a 0 n r + attempt_turns parms
left_interrupted parms a n r few less = by_way (cases_lt a parms.stop)
    (λ below. let e = left_below parms a 0 n r below in let f = left_below parms a 0 0 0 below in
    omega (arith, e, f))
    (λ least. let e = left_at parms a 0 n r least in let f = left_at parms a 0 0 0 least in
    omega (arith, e, f))

-- ---- a transaction under way

few_always : (n : ℕ) → (nat_lt 0 n ≡ true → n ≤ 33) → n ≤ 33
few_always zero few = omega arith
few_always (suc n) few = few (lt-ltb 0 (suc n) (omega arith))

pub some_left : (m : Setting) (s : State) (i : ℕ) → IsUnderWay m s i → 1 ≤ left m s i
some_left m s i h =
    left_some m.image.parms (standing_of m s i).aborts (s.numbers i).delay (s.numbers i).completed
    (if is_live s i then (s.numbers i).refused else 0) (few_always (s.numbers i).completed h.few)
