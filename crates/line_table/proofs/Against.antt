-- The others who stand against a request, and the line to give up.
use Rattle.std.proofs.Common.{◌≡◌, ◌≢◌, ℕ, ◌+◌, ◌<◌, ◌≤◌, Bool, true, false, eqb, List, [], ◌∷◌, get_or, None}
use Rattle.std.proofs.Common.{is_some, refl, sym, ap, subst, ◌∙◌, arith}
use Rattle.std.specs.Prelude.{◌&&◌, ◌||◌, not, Contains, filter}
use Rattle.std.specs.List.{list_any, range_with_len}
use Rattle.std.specs.List.Sorted.{IsStrictlyIncreasing}
use Rattle.std.proofs.lemmas.Bool.{cases_eq, cases_Bool, eq-eqb, ne_eqb, eqb-true, eqb-false, and_parts}
use Rattle.std.proofs.lemmas.Bool.{and_from, cond-true, cond-false, not-true, not_from_false}
use Rattle.std.proofs.lemmas.List.FromFn.{length-range_with_len, get_or-range_with_len}
use Rattle.std.proofs.lemmas.List.Folds.{Any-from_list_any, list_any_at}
use Rattle.std.proofs.lemmas.List.Kept.{IsStrictlyIncreasing-filter}
use borrow.Enum.Arm.{by_way}
use Rattle.bit_set.specs.Counts.{one_if, count_below, but_at}
use Rattle.bit_set.proofs.Counts.{count_but_at, but_at-other, one_outside}
use Rattle.line_table.specs.declared.table.Mode.{Mode}
use Rattle.line_table.specs.Sizes.{storage_lines, held_limit}
use Rattle.line_table.specs.Holders.{Holders, against, is_against, lines_held, IsOutside}

abbrev is_in : List ℕ → ℕ → Bool
is_in xs other = list_any (λ x. eqb x other) xs

contains_from : (xs : List ℕ) (other : ℕ) → is_in xs other ≡ true → Contains xs other
contains_from xs other e =
    let found = Any-from_list_any (λ x. eqb x other) xs e in
    let same : found.1 ≡ other = eqb-true found.1 other found.4 in
    (found.0, found.2, subst (λ x. get_or xs found.0 x ≡ x) same found.3)

is_in_from : (xs : List ℕ) (other : ℕ) → Contains xs other → is_in xs other ≡ true
is_in_from xs other c =
    list_any_at (λ x. eqb x other) xs c.0 other c.1 (eq-eqb (get_or xs c.0 other) other c.2)

-- a filter keeps those that pass
is_in-filter : (test : ℕ → Bool) (xs : List ℕ) (other : ℕ)
    → is_in (filter test xs) other ≡ (is_in xs other && test other)
is_in-filter test [] other = refl
is_in-filter test (x ∷ xs) other =
    by_way (cases_eq x other)
    (λ e. by_way (cases_Bool (test x))
    (λ pass. ap (λ l. is_in l other) (cond-true (test x) (x ∷ filter test xs) (filter test xs) pass)
    ∙ ap (λ b. b || is_in (filter test xs) other) (eq-eqb x other e)
    ∙ sym (ap (λ b. (b || is_in xs other) && test other) (eq-eqb x other e) ∙ ap test (sym e) ∙ pass))
    (λ fail. ap (λ l. is_in l other) (cond-false (test x) (x ∷ filter test xs) (filter test xs) fail)
    ∙ is_in-filter test xs other
    ∙ and_false (is_in xs other) (test other) (ap test (sym e) ∙ fail)
    ∙ sym (and_false (eqb x other || is_in xs other) (test other) (ap test (sym e) ∙ fail))))
    (λ ne. by_way (cases_Bool (test x))
    (λ pass. ap (λ l. is_in l other) (cond-true (test x) (x ∷ filter test xs) (filter test xs) pass)
    ∙ ap (λ b. b || is_in (filter test xs) other) (ne_eqb x other ne)
    ∙ is_in-filter test xs other
    ∙ sym (ap (λ b. (b || is_in xs other) && test other) (ne_eqb x other ne)))
    (λ fail. ap (λ l. is_in l other) (cond-false (test x) (x ∷ filter test xs) (filter test xs) fail)
    ∙ is_in-filter test xs other
    ∙ sym (ap (λ b. (b || is_in xs other) && test other) (ne_eqb x other ne))))
  where
    and_false : (a b : Bool) → b ≡ false → (a && b) ≡ false
    and_false true b e = e
    and_false false b e = refl

in_range_from : (n other : ℕ) → other < n → is_in (range_with_len 0 n) other ≡ true
in_range_from n other lt =
    list_any_at (λ x. eqb x other) (range_with_len 0 n) other 0 (omega (arith, lt, length-range_with_len 0 n))
    (eq-eqb (get_or (range_with_len 0 n) other 0) other (get_or-range_with_len 0 n other 0 lt ∙ omega arith))

below_from_in_range : (n other : ℕ) → is_in (range_with_len 0 n) other ≡ true → other < n
below_from_in_range n other e =
    let found = contains_from (range_with_len 0 n) other e in
    let place : found.0 < n = omega (arith, found.1, length-range_with_len 0 n) in
    omega (arith, place, found.2, get_or-range_with_len 0 n found.0 other place)

increasing_range : (n : ℕ) → IsStrictlyIncreasing (range_with_len 0 n)
increasing_range n = λ k lt.
    let within : k + 1 < n = omega (arith, lt, length-range_with_len 0 n) in
    let before : k < n = omega arith in
    omega (arith, get_or-range_with_len 0 n k 0 before, get_or-range_with_len 0 n (k + 1) 0 within)

pub against-rising : (cpus : ℕ) (held : Holders) (cpu line : ℕ) (wanted : Mode)
    → IsStrictlyIncreasing (against cpus held cpu line wanted)
unfolding against
against-rising cpus held cpu line wanted =
    IsStrictlyIncreasing-filter (λ other. not (eqb other cpu) && is_against wanted (held other line))
    (range_with_len 0 cpus) (increasing_range cpus)

-- as a test: who is in the list
pub is_in-against : (cpus : ℕ) (held : Holders) (cpu line : ℕ) (wanted : Mode) (other : ℕ)
    → list_any (λ x. eqb x other)
    (against cpus held cpu line wanted) ≡ (list_any (λ x. eqb x other) (range_with_len 0 cpus)
    && (not (eqb other cpu) && is_against wanted (held other line)))
unfolding against
is_in-against cpus held cpu line wanted other =
    is_in-filter (λ o. not (eqb o cpu) && is_against wanted (held o line)) (range_with_len 0 cpus) other

pub from_against : (cpus : ℕ) (held : Holders) (cpu line : ℕ) (wanted : Mode) (other : ℕ)
    → Contains (against cpus held cpu line wanted) other
    → (other < cpus) × (other ≢ cpu) × (is_against wanted (held other line) ≡ true)
from_against cpus held cpu line wanted other c =
    let all =
    and_parts (is_in (range_with_len 0 cpus) other)
    (not (eqb other cpu) && is_against wanted (held other line))
    (sym (is_in-against cpus held cpu line wanted other)
    ∙ is_in_from (against cpus held cpu line wanted) other c) in
    let own = and_parts (not (eqb other cpu)) (is_against wanted (held other line)) all.1 in
    (below_from_in_range cpus other all.0, eqb-false other cpu (not-true (eqb other cpu) own.0), own.1)

pub in_against : (cpus : ℕ) (held : Holders) (cpu line : ℕ) (wanted : Mode) (other : ℕ)
    → (other < cpus) × (other ≢ cpu) × (is_against wanted (held other line) ≡ true)
    → Contains (against cpus held cpu line wanted) other
in_against cpus held cpu line wanted other p =
    contains_from (against cpus held cpu line wanted) other
    (is_in-against cpus held cpu line wanted other
    ∙ and_from (is_in (range_with_len 0 cpus) other)
    (not (eqb other cpu) && is_against wanted (held other line)) (in_range_from cpus other p.0)
    (and_from (not (eqb other cpu)) (is_against wanted (held other line))
    (not_from_false (eqb other cpu) (ne_eqb other cpu p.1)) p.2))

-- where nobody stands against a request, no other CPU's hold does
pub none_against : (cpus : ℕ) (held : Holders) (cpu line : ℕ) (wanted : Mode)
    → against cpus held cpu line wanted ≡ [] → (other : ℕ) → other < cpus → other ≢ cpu
    → is_against wanted (held other line) ≡ false
none_against cpus held cpu line wanted none = λ other lt ne.
    by_way (cases_Bool (is_against wanted (held other line)))
    (λ stands.
    let there =
    is_in_from (against cpus held cpu line wanted) other
    (in_against cpus held cpu line wanted other (lt, ne, stands)) in
    let off : false ≡ true = ap (λ l. is_in l other) (sym none) ∙ there in cc)
    (λ off. off)

-- ---- the line to give up

outside_from : (held : Holders) (cpu : ℕ) (kept kept' : ℕ → Bool)
    → ((k : ℕ) → is_some (held cpu k) ≡ true → kept' k ≡ false → kept k ≡ false)
    → ((k : ℕ) × (k < storage_lines) × ((is_some (held cpu k) && not (kept' k)) ≡ true))
    → (line : ℕ) × IsOutside held cpu kept line
outside_from held cpu kept kept' weaker found =
    let parts = and_parts (is_some (held cpu found.0)) (not (kept' found.0)) found.2 in (
      found.0,
      record {
        in_storage = found.1;
        held_line = parts.0;
        not_kept =
            weaker found.0 parts.0 (not-true (kept' found.0) parts.1);
      },
    )

pub holds_outside : (held : Holders) (cpu : ℕ) (kept : ℕ → Bool)
    → count_below storage_lines kept < lines_held held cpu → (line : ℕ) × IsOutside held cpu kept line
holds_outside held cpu kept more =
    outside_from held cpu kept kept (λ k _ off. off)
    (one_outside storage_lines (λ line. is_some (held cpu line)) kept more)

pub holds_outside_for_one_more : (held : Holders) (cpu wanted : ℕ) (kept : ℕ → Bool)
    → held_limit ≤ lines_held held cpu → count_below storage_lines kept ≤ held_limit → wanted < storage_lines
    → kept wanted ≡ true → held cpu wanted ≡ None → (line : ℕ) × IsOutside held cpu kept line
holds_outside_for_one_more held cpu wanted kept full few lt needed free =
    let fewer : count_below storage_lines (but_at kept wanted false) < lines_held held cpu =
    omega (arith, count_but_at storage_lines kept wanted false lt, ap one_if needed, full, few) in
    outside_from held cpu kept (but_at kept wanted false)
    (λ k holds off. by_way (cases_eq k wanted)
    (λ e. let n : false ≡ true = sym (ap is_some (ap (held cpu) e ∙ free)) ∙ holds in cc)
    (λ ne. sym (but_at-other kept wanted false k ne) ∙ off))
    (one_outside storage_lines (λ line. is_some (held cpu line)) (but_at kept wanted false) fewer)

nil_from_none : (xs : List ℕ) → ((x : ℕ) → Contains xs x → ⊥) → xs ≡ []
nil_from_none [] none = refl
nil_from_none (x ∷ xs) none = absurd (none x (0, omega arith, refl))

-- where no other CPU's hold stands against a request, the list is empty
pub nobody_against : (cpus : ℕ) (held : Holders) (cpu line : ℕ) (wanted : Mode)
    → ((other : ℕ) → other < cpus → other ≢ cpu → is_against wanted (held other line) ≡ false)
    → against cpus held cpu line wanted ≡ []
nobody_against cpus held cpu line wanted none =
    nil_from_none (against cpus held cpu line wanted) (λ other c.
    let stands = from_against cpus held cpu line wanted other c in
    let n : false ≡ true = sym (none other stands.0 stands.1) ∙ stands.2 in cc)
