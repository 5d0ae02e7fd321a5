-- The numbers from a place on that pass a test.
use Rattle.std.proofs.Common.{◌≡◌, ℕ, zero, suc, ◌+◌, ◌-◌, ◌<◌, ◌≤◌, Bool, true, false, List, [], ◌∷◌, cond}
use Rattle.std.proofs.Common.{sym, ap, ◌∙◌, arith, Some, None, is_some}
use Rattle.std.specs.Prelude.{◌&&◌, not, ◌==◌}
use Rattle.std.specs.List.{filter, range_with_len}
use Rattle.std.proofs.lemmas.Bool.{cond-true, cond-false}
use Rattle.std.proofs.Math.Bool.{and-false}
use Rattle.line_table.specs.declared.table.Mode.{Mode}
use Rattle.line_table.specs.Holders.{Holders, is_against, against}
use Rattle.tx_footprint.specs.Touched.{Sets}
use Rattle.tx_lines.specs.Next.{passing_from, first_of, stands_against}
use Rattle.tx_lines.specs.Spare.{may_give_up, is_unused}

pub opened : (test : ℕ → Bool) (end at : ℕ) → at < end
    → passing_from test end at
    ≡ cond (test at) (at ∷ passing_from test end (at + 1)) (passing_from test end (at + 1))
unfolding passing_from
opened test end at lt =
    let more : end - at ≡ suc (end - (at + 1)) = omega arith in
    ap (λ n. filter test (range_with_len at n)) more

pub passes_here : (test : ℕ → Bool) (end at : ℕ) → at < end → test at ≡ true
    → passing_from test end at ≡ at ∷ passing_from test end (at + 1)
passes_here test end at lt passes =
    opened test end at lt
    ∙ cond-true (test at) (at ∷ passing_from test end (at + 1)) (passing_from test end (at + 1)) passes

pub fails_here : (test : ℕ → Bool) (end at : ℕ) → at < end → test at ≡ false
    → passing_from test end at ≡ passing_from test end (at + 1)
fails_here test end at lt fails =
    opened test end at lt
    ∙ cond-false (test at) (at ∷ passing_from test end (at + 1)) (passing_from test end (at + 1)) fails

-- so many numbers from a place on fail
pub skipped : (test : ℕ → Bool) (end at n : ℕ) → at + n ≤ end
    → ((k : ℕ) → at ≤ k → k < at + n → test k ≡ false)
    → passing_from test end at ≡ passing_from test end (at + n)
skipped test end at zero within fail = ap (passing_from test end) (omega arith)
skipped test end at (suc n) within fail =
    fails_here test end at (omega arith) (fail at (omega arith) (omega arith))
    ∙ skipped test end (at + 1) n (omega arith) (λ k low high. fail k (omega arith) (omega arith))
    ∙ ap (passing_from test end) (omega arith)

pub behind_all : (test : ℕ → Bool) (end at : ℕ) → end ≤ at → passing_from test end at ≡ []
unfolding passing_from
behind_all test end at over =
    let none : end - at ≡ 0 = omega arith in
    ap (λ n. filter test (range_with_len at n)) none

-- ---- the steps of a search

to_next : (test : ℕ → Bool) (end at next : ℕ) → next < end → at ≤ next
    → ((k : ℕ) → at ≤ k → k < next → test k ≡ false)
    → passing_from test end at ≡ passing_from test end next
to_next test end at next lt le fail =
    let there : at + (next - at) ≡ next = omega arith in
    skipped test end at (next - at) (omega arith) (λ k low high. fail k low (omega arith))
    ∙ ap (passing_from test end) there

pub found_next : (test : ℕ → Bool) (end at next : ℕ) → next < end → at ≤ next
    → ((k : ℕ) → at ≤ k → k < next → test k ≡ false) → test next ≡ true
    → Some next ≡ first_of (passing_from test end at)
found_next test end at next lt le fail passes =
    sym (ap first_of (to_next test end at next lt le fail ∙ passes_here test end next lt passes))

pub passed_one : (test : ℕ → Bool) (end at next : ℕ) → next < end → at ≤ next
    → ((k : ℕ) → at ≤ k → k < next → test k ≡ false) → test next ≡ false
    → passing_from test end at ≡ passing_from test end (next + 1)
passed_one test end at next lt le fail fails =
    to_next test end at next lt le fail ∙ fails_here test end next lt fails

none_by : (test : ℕ → Bool) (end at n : ℕ) → at + n ≡ end → ((k : ℕ) → at ≤ k → test k ≡ false)
    → passing_from test end at ≡ []
none_by test end at n so fail =
    skipped test end at n (omega arith) (λ k low high. fail k low) ∙ behind_all test end (at + n) (omega arith)

pub found_none : (test : ℕ → Bool) (end at : ℕ) → at ≤ end → ((k : ℕ) → at ≤ k → test k ≡ false)
    → None ≡ first_of (passing_from test end at)
found_none test end at le fail = sym (ap first_of (none_by test end at (end - at) (omega arith) fail))

-- from the first number on there are all of them
pub from_first : (test : ℕ → Bool) (end : ℕ) → passing_from test end 0 ≡ filter test (range_with_len 0 end)
unfolding passing_from
from_first test end = ap (λ n. filter test (range_with_len 0 n)) (omega arith)

-- ---- who does not hold the line does not stand against it

pub not_held : (held : Holders) (cpu line : ℕ) (wanted : Mode) (other : ℕ) → held other line ≡ None
    → stands_against held cpu line wanted other ≡ false
not_held held cpu line wanted other none =
    ap (λ h. not (other == cpu) && is_against wanted h) none ∙ and-false (not (other == cpu))

-- ---- a line that is not held is not given up; one that is, where it is unused

pub keeps_none : (held : Holders) (cpu : ℕ) (footprint : Sets) (needed : List ℕ) (line : ℕ)
    → held cpu line ≡ None → may_give_up held cpu footprint needed line ≡ false
keeps_none held cpu footprint needed line none =
    ap (λ h. is_some h && is_unused footprint needed line) none

pub keeps_held : (held : Holders) (cpu : ℕ) (footprint : Sets) (needed : List ℕ) (line : ℕ)
    → is_some (held cpu line) ≡ true
    → may_give_up held cpu footprint needed line ≡ is_unused footprint needed line
keeps_held held cpu footprint needed line some = ap (λ b. b && is_unused footprint needed line) some

pub all_against : (cpus : ℕ) (held : Holders) (cpu line : ℕ) (wanted : Mode)
    → passing_from (stands_against held cpu line wanted) cpus 0 ≡ against cpus held cpu line wanted
unfolding against
all_against cpus held cpu line wanted = from_first (stands_against held cpu line wanted) cpus
