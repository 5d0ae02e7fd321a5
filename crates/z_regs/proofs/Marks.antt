-- A place is in the set exactly where its mark is true.
use Rattle.std.proofs.Common.{◌≡◌, ℕ, zero, suc, ◌+◌, ◌<◌, ◌≤◌, Bool, true, false, ◌||◌, List, [], ◌∷◌, length, get_or, set, ap, sym, ◌∙◌, arith, rules}
use Rattle.std.specs.Ordering.{nat_cmp, eq_by_cmp}
use Rattle.std.specs.Cmp.{nat_cmp_total, unsigned_tied}
use Rattle.std.proofs.lemmas.Grind.{common_steps, get_or-set_at}
use Rattle.std.proofs.lemmas.List.{get_or-set_other}
use Rattle.std.proofs.lemmas.Bool.Decides.{nat_tests}
use Rattle.std.proofs.Math.ListN.{get_or-eq_default}
use Rattle.std.specs.FinSet.{insert, contains, members, contains-empty, contains-insert, same_set, nat_cmp-IsAntisymmetric}
use Rattle.z_regs.specs.Pages.{marked_from, marked}

before_all : (first q : ℕ) (marks : List Bool) → q < first → contains (marked_from first marks) q ≡ false
unfolding marked_from
before_all first q [] h = contains-empty nat_cmp q
before_all first q (true ∷ marks) h =
    grind (arith, members, rules, before_all (suc first) q marks (omega arith))
before_all first q (false ∷ marks) h = before_all (suc first) q marks (omega arith)

contains-marked_from : (first k q : ℕ) (marks : List Bool) → q ≡ first + k →
    contains (marked_from first marks) q ≡ get_or marks k false
unfolding marked_from
contains-marked_from first k q [] e = contains-empty nat_cmp q
contains-marked_from first zero q (true ∷ marks) e = grind (arith, members, rules)
contains-marked_from first zero q (false ∷ marks) e = before_all (suc first) q marks (omega arith)
contains-marked_from first (suc k) q (true ∷ marks) e =
    grind (arith, members, rules, contains-marked_from (suc first) k q marks (omega arith))
contains-marked_from first (suc k) q (false ∷ marks) e =
    contains-marked_from (suc first) k q marks (omega arith)

pub contains-marked : (marks : List Bool) (q : ℕ) → contains (marked marks) q ≡ get_or marks q false
contains-marked marks q = contains-marked_from 0 q q marks (omega arith)

get_or-marked : (marks : List Bool) (i q : ℕ) → i < length marks →
    get_or (set marks i true) q false ≡ (eq_by_cmp nat_cmp q i || get_or marks q false)
get_or-marked marks i q h =
    grind (
      arith,
      common_steps,
      nat_tests,
      unsigned_tied q i,
      get_or-set_at marks i q true false,
      get_or-set_other marks i q true false,
    )

-- one more mark is one more place in the set
pub marked-set : (marks : List Bool) (i : ℕ) → i < length marks →
    marked (set marks i true) ≡ insert (marked marks) i
marked-set marks i h = same_set nat_cmp_total nat_cmp-IsAntisymmetric _ _ (λ q.
    contains-marked _ q ∙ get_or-marked marks i q h
    ∙ sym (contains-insert nat_cmp_total _ i q
    ∙ ap (λ b. eq_by_cmp nat_cmp q i || b) (contains-marked marks q)))

-- no place past the end is in the set
pub contains-marked_past : (marks : List Bool) (q : ℕ) → length marks ≤ q → contains (marked marks) q ≡ false
contains-marked_past marks q h = contains-marked marks q ∙ get_or-eq_default marks false h
