-- Bytes one after the other that lie where they would without a prefix.
use Rattle.std.proofs.Common.{◌≡◌, ℕ, zero, suc, ◌+◌, ◌-◌, ◌*◌, ◌/◌, ◌<◌, Bool, true, false, max, ◌∷◌}
use Rattle.std.proofs.Common.{Option, refl, sym, ap, ◌∙◌, arith}
use Rattle.std.specs.Prelude.{◌||◌, nat_eq}
use Rattle.std.specs.List.{list_any}
use Rattle.std.proofs.lemmas.Bool.{cases_lt, eq-eqb, ne_eqb, or_left, or_right}
use borrow.Enum.Arm.{by_way}
use Rattle.bit_set.specs.Bits.{lies_in}
use Rattle.bit_set.proofs.Runs.{lies_inside, lies_before, lies_behind}
use Rattle.z_regs.specs.Prefix.{absolute_of}
use Rattle.z_instr.specs.Operands.{from_up}
use Rattle.tx_lending.specs.Places.{is_among, places_from}
use Rattle.tx_marks.specs.Traces.{has_page, lies_on}

-- bytes that stay are those of the real addresses
pub still_placed : (prefix : Option ℕ) (first n : ℕ) → ((k : ℕ) → k < n → absolute_of prefix (first + k) ≡ first + k)
    → places_from prefix first n ≡ from_up first n
still_placed prefix first zero still = refl
still_placed prefix first (suc n) still =
    let here : first + 0 ≡ first = omega arith in
    ap (λ a. a ∷ places_from prefix (suc first) n)
    (ap (absolute_of prefix) (sym here) ∙ still 0 (omega arith) ∙ here)
    ∙ ap (λ l. first ∷ l) (still_placed prefix (suc first) n (λ k lt.
    let next : suc first + k ≡ first + suc k = omega arith in
    ap (absolute_of prefix) next ∙ still (suc k) (omega (arith, lt)) ∙ sym next))

-- ---- a test of some of them

any_here : (test : ℕ → Bool) (first n k : ℕ) → k < n → test (first + k) ≡ true
    → list_any test (from_up first n) ≡ true
any_here test first zero k lt is = absurd (omega (arith, lt))
any_here test first (suc n) zero lt is =
    let here : first ≡ first + 0 = omega arith in
    or_left (test first) (list_any test (from_up (suc first) n)) (ap test here ∙ is)
any_here test first (suc n) (suc k) lt is =
    let next : suc first + k ≡ first + suc k = omega arith in
    or_right (test first) (list_any test (from_up (suc first) n))
    (any_here test (suc first) n k (omega (arith, lt)) (ap test next ∙ is))

any_not : (test : ℕ → Bool) (first n : ℕ) → ((k : ℕ) → k < n → test (first + k) ≡ false)
    → list_any test (from_up first n) ≡ false
any_not test first zero none = refl
any_not test first (suc n) none =
    let here : first ≡ first + 0 = omega arith in
    ap (λ b. b || list_any test (from_up (suc first) n)) (ap test here ∙ none 0 (omega arith))
    ∙ any_not test (suc first) n (λ k lt.
    let next : suc first + k ≡ first + suc k = omega arith in
    ap test next ∙ none (suc k) (omega (arith, lt)))

-- ---- as runs of marks

pub among_run : (first n a : ℕ) → is_among (from_up first n) a ≡ lies_in first (first + n) a
among_run first n a =
    by_way (cases_lt a first)
    (λ low. any_not (nat_eq a) first n (λ k lt. ne_eqb a (first + k) (λ e. omega (arith, e, low)))
    ∙ sym (lies_before first (first + n) a low))
    (λ ge. by_way (cases_lt a (first + n))
    (λ lt. any_here (nat_eq a) first n (a - first) (omega (arith, ge, lt))
    (eq-eqb a (first + (a - first)) (omega (arith, ge))) ∙ sym (lies_inside first (first + n) a ge lt))
    (λ over. any_not (nat_eq a) first n (λ k lt. ne_eqb a (first + k) (λ e. omega (arith, e, over, lt)))
    ∙ sym (lies_behind first (first + n) a over)))

pub paged_run : (first n page : ℕ) → 0 < n
    → has_page (from_up first n) page ≡ lies_in (first / 4096) ((first + n - 1) / 4096 + 1) page
paged_run first n page some =
    by_way (cases_lt page (first / 4096))
    (λ low. any_not (λ a. nat_eq page (a / 4096)) first n
    (λ k lt. ne_eqb page ((first + k) / 4096) (λ e. omega (arith, e, low)))
    ∙ sym (lies_before (first / 4096) ((first + n - 1) / 4096 + 1) page low))
    (λ ge. by_way (cases_lt page ((first + n - 1) / 4096 + 1))
    (λ lt. any_here (λ a. nat_eq page (a / 4096)) first n (max first (page * 4096) - first)
    (omega (arith, ge, lt, some))
    (eq-eqb page ((first + (max first (page * 4096) - first)) / 4096) (omega (arith, ge)))
    ∙ sym (lies_inside (first / 4096) ((first + n - 1) / 4096 + 1) page ge lt))
    (λ over. any_not (λ a. nat_eq page (a / 4096)) first n
    (λ k lt. ne_eqb page ((first + k) / 4096) (λ e. omega (arith, e, over, lt)))
    ∙ sym (lies_behind (first / 4096) ((first + n - 1) / 4096 + 1) page over)))

-- one number is a run of its own
lies_alone : (k a : ℕ) → lies_in k (k + 1) a ≡ nat_eq a k
lies_alone k a =
    by_way (cases_lt a k)
    (λ low. lies_before k (k + 1) a low ∙ sym (ne_eqb a k (λ e. omega (arith, e, low))))
    (λ ge. by_way (cases_lt a (k + 1))
    (λ lt. lies_inside k (k + 1) a ge lt ∙ sym (eq-eqb a k (omega (arith, ge, lt))))
    (λ over. lies_behind k (k + 1) a over ∙ sym (ne_eqb a k (λ e. omega (arith, e, over)))))

-- bytes that lie on one page
pub paged_alone : (first n page : ℕ) → 0 < n → first / 4096 ≡ (first + n - 1) / 4096
    → has_page (from_up first n) page ≡ lies_on page first
paged_alone first n page some same =
    paged_run first n page some
    ∙ ap (λ last. lies_in (first / 4096) (last + 1) page) (sym same)
    ∙ lies_alone (first / 4096) page
