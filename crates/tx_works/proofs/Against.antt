-- The holders that stand against a request, one after the other.
use Rattle.std.proofs.Common.{◌≡◌, ◌≢◌, ℕ, zero, suc, ◌+◌, ◌-◌, ◌<◌, ◌≤◌, Bool, true, false, List, [], ◌∷◌}
use Rattle.std.proofs.Common.{Some, None, refl, sym, ap, ◌∙◌, arith}
use Rattle.std.specs.Prelude.{◌&&◌, ◌==◌, not, if◌then◌else◌}
use Rattle.std.specs.List.{filter, range_with_len}
use Rattle.std.proofs.lemmas.Bool.{cases_Bool, cases_eq, and_parts, and_right, eqb-false}
use Rattle.std.proofs.lemmas.Bool.{not-true}
use borrow.Enum.Arm.{by_way}
use Rattle.line_table.specs.declared.table.Mode.{Mode}
use Rattle.line_table.specs.Holders.{Holders, holding, against, is_against}
use Rattle.line_table.proofs.Seen.{holding_here, holding_other_cpu}
use Rattle.tx_lines.specs.Next.{passing_from, first_of, stands_against}
use Rattle.tx_lines.proofs.Next.{passes_here, fails_here, skipped, all_against, behind_all}
use Rattle.tx_meaning.specs.Changes.{left_to}
use Rattle.tx_keeping.proofs.Asking.{left_not_against}

-- ---- the first number that passes

pub record IsFirst (test : ℕ → Bool) (end from at : ℕ) : Type 0 where
  pub low : from ≤ at
  pub high : at < end
  pub passes : test at ≡ true
  pub before : (k : ℕ) → from ≤ k → k < at → test k ≡ false
  pub rest : passing_from test end from ≡ at ∷ passing_from test end (at + 1)

first_by : (n : ℕ) (test : ℕ → Bool) (end from at : ℕ) → from + n ≡ end
    → Some at ≡ first_of (passing_from test end from) → IsFirst test end from at
first_by zero test end from at so e =
    let none = ap first_of (behind_all test end from (omega arith)) in
    absurd (let n : Some at ≡ None = e ∙ none in cc)
first_by (suc n) test end from at so e =
    by_way (cases_Bool (test from))
    (λ here.
    let split = passes_here test end from (omega arith) here in
    let same : Some at ≡ Some from = e ∙ ap first_of split in
    let is : at ≡ from = cc in
    record {
      low = omega arith;
      high = omega arith;
      passes = ap test is ∙ here;
      before = λ k low high. absurd (omega arith);
      rest = split ∙ ap (λ x. x ∷ passing_from test end (x + 1)) (sym is);
    })
    (λ off.
    let skip = fails_here test end from (omega arith) off in
    let later = first_by n test end (from + 1) at (omega arith) (e ∙ ap first_of skip) in
    record {
      low = omega (arith, later.low);
      high = later.high;
      passes = later.passes;
      before = λ k low high. by_way (cases_eq k from) (λ it. ap test it ∙ off)
          (λ ne. later.before k (omega arith) high);
      rest = skip ∙ later.rest;
    })

pub first_passing : (test : ℕ → Bool) (end from at : ℕ) → from ≤ end
    → Some at ≡ first_of (passing_from test end from) → IsFirst test end from at
first_passing test end from at le e = first_by (end - from) test end from at (omega arith) e

pub none_passing : (test : ℕ → Bool) (end from : ℕ) → None ≡ first_of (passing_from test end from)
    → passing_from test end from ≡ []
none_passing test end from e = by_list (passing_from test end from) e
  where
    by_list : (l : List ℕ) → None ≡ first_of l → l ≡ []
    by_list [] e = refl
    by_list (x ∷ rest) e = absurd (cc)

-- ---- another test that agrees

same_filter : (test other : ℕ → Bool) (from n : ℕ) → ((x : ℕ) → from ≤ x → test x ≡ other x)
    → filter test (range_with_len from n) ≡ filter other (range_with_len from n)
same_filter test other from zero same = refl
same_filter test other from (suc n) same =
    let rest = same_filter test other (from + 1) n (λ x low. same x (omega arith)) in
    ap (λ b. if b then from ∷ filter test (range_with_len (from + 1) n) else filter test
    (range_with_len (from + 1) n))
    (same from (omega arith))
    ∙ ap (λ l. if other from then from ∷ l else l) rest

pub same_passing : (test other : ℕ → Bool) (end from : ℕ) → ((x : ℕ) → from ≤ x → test x ≡ other x)
    → passing_from test end from ≡ passing_from other end from
unfolding passing_from
same_passing test other end from same = same_filter test other from (end - from) same

-- ---- who stands against a request

pub stands_parts : (held : Holders) (cpu line : ℕ) (mode : Mode) (other : ℕ)
    → stands_against held cpu line mode other ≡ true
    → (other ≢ cpu) × (is_against mode (held other line) ≡ true)
stands_parts held cpu line mode other h =
    let p = and_parts (not (other == cpu)) (is_against mode (held other line)) h in
    (eqb-false other cpu (not-true (other == cpu) p.0), p.1)

-- with the line yielded by one
module _ (held : Holders) (cpu line : ℕ) (mode : Mode) (by : ℕ) where
  abbrev left : Holders
  left = holding held by line (left_to mode)

  pub yielded_other : (x : ℕ) → x ≢ by
      → stands_against left cpu line mode x ≡ stands_against held cpu line mode x
  yielded_other x ne =
      ap (λ h. not (x == cpu) && is_against mode h) (holding_other_cpu held by line (left_to mode) x line ne)

  pub yielded_here : stands_against left cpu line mode by ≡ false
  yielded_here =
      and_right (not (by == cpu)) (is_against mode (left by line))
      (ap (is_against mode) (holding_here held by line (left_to mode)) ∙ left_not_against mode)

-- none, where none stands from a place on and none before it
pub none_stands : (cpus : ℕ) (held : Holders) (cpu line : ℕ) (mode : Mode) (at : ℕ) → at ≤ cpus
    → ((k : ℕ) → k < at → stands_against held cpu line mode k ≡ false)
    → passing_from (stands_against held cpu line mode) cpus at ≡ [] → against cpus held cpu line mode ≡ []
none_stands cpus held cpu line mode at le clear none =
    let test = stands_against held cpu line mode in
    let there : 0 + at ≡ at = omega arith in
    sym (all_against cpus held cpu line mode)
    ∙ skipped test cpus 0 at (omega arith) (λ k low high. clear k (omega arith))
    ∙ ap (passing_from test cpus) there ∙ none
