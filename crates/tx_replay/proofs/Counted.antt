-- How many entries of a history are so, with one entry more.
use Rattle.std.proofs.Common.{◌≡◌, ◌∙◌, ap, sym, subst, ℕ, ◌+◌, ◌<◌, ◌≤◌, arith, Bool, false, cond}
use Rattle.std.proofs.Common.{List, [], ◌∷◌, ◌++◌, length, get_or, ◌⊎◌, inl, inr}
use Rattle.std.specs.Prelude.{◌==◌, replicate, slice_set}
use Rattle.std.specs.List.{count_by}
use Rattle.std.proofs.lemmas.Bool.{cases_eq, cases_lt, eq-eqb, ne_eqb}
use Rattle.std.proofs.lemmas.List.{length-set, length-replicate, get_or_past, get_or-replicate, get_or-set_same, get_or-set_other}
use Rattle.std.proofs.lemmas.List.Sums.{sum_by_push, count_by-le-length}
use Rattle.tx_journal.specs.declared.entries.Entry.{Entry}
use Rattle.tx_journal.specs.declared.entries.Entry.TheVariants.{Commit, Abort}
use Rattle.tx_control.specs.declared.causes.Why.{Why}
use Rattle.tx_meaning.specs.Shown.{commits_of, aborts_of}
use Rattle.tx_replay.specs.declared.ends.Ends.{Ends}
use Rattle.tx_replay.specs.Ends.{AreCounted, AreEnds}

-- nothing has ended yet
pub none_counted : (of : ℕ → Entry → Bool) (cpus : ℕ) (counts : List ℕ) → counts ≡ replicate cpus 0
    → AreCounted of [] cpus counts
none_counted of cpus counts are = record {
  many = ap length are ∙ length-replicate cpus 0;
  each = λ i there. ap (λ (cs : List ℕ). get_or cs i 0) are ∙ get_or-replicate cpus i 0 0 there;
}

-- a number that is counted is no greater than the history is long
pub low_count : (of : ℕ → Entry → Bool) (history : List Entry) (cpus : ℕ) (counts : List ℕ) (cpu : ℕ)
    → AreCounted of history cpus counts → get_or counts cpu 0 ≤ length history
low_count of history cpus counts cpu counted = by (cases_lt cpu cpus)
  where
    by : (cpu < cpus) ⊎ (cpus ≤ cpu) → get_or counts cpu 0 ≤ length history
    by (inl there) =
        let is = counted.each cpu there in
        let low = count_by-le-length (of cpu) history in
        omega (arith, is, low)
    by (inr past) =
        let many = counted.many in
        let none : get_or counts cpu 0 ≡ 0 = get_or_past counts cpu 0 (omega (arith, many, past)) in
        omega (arith, none)

-- one entry more of a CPU
pub one_counted : (of : ℕ → Entry → Bool) (history : List Entry) (e : Entry) (cpus cpu : ℕ) (olds news : List ℕ)
    → news ≡ slice_set olds cpu (get_or olds cpu 0 + 1) → ((i : ℕ) → of i e ≡ (cpu == i))
    → AreCounted of history cpus olds → AreCounted of (history ++ e ∷ []) cpus news
one_counted of history e cpus cpu olds news are is before = record {
  many = ap length are ∙ length-set olds cpu (get_or olds cpu 0 + 1) ∙ before.many;
  each = λ i there. by i there (cases_eq cpu i);
}
  where
    more : (i : ℕ) → count_by (of i) (history ++ e ∷ []) ≡ count_by (of i) history + cond {A = ℕ} (of i e) 1 0
    more i = sum_by_push (λ x. cond {A = ℕ} (of i x) 1 0) history e

    by : (i : ℕ) → i < cpus → (cpu ≡ i) ⊎ (cpu ≡ i → ⊥) → get_or news i 0 ≡ count_by (of i) (history ++ e ∷ [])
    by i there (inl same) =
        let within : i < length olds = let m = before.many in omega (arith, m, there) in
        let new : get_or news i 0 ≡ get_or olds cpu 0 + 1 =
        ap (λ (cs : List ℕ). get_or cs i 0) are
        ∙ ap (λ n. get_or (slice_set olds n (get_or olds cpu 0 + 1)) i 0) same
        ∙ get_or-set_same olds i (get_or olds cpu 0 + 1) 0 within in
        let old : get_or olds cpu 0 ≡ count_by (of i) history =
        ap (λ n. get_or olds n 0) same ∙ before.each i there in
        let one : cond {A = ℕ} (of i e) 1 0 ≡ 1 = ap (λ b. cond {A = ℕ} b 1 0) (is i ∙ eq-eqb cpu i same) in
        let m = more i in
        omega (arith, new, old, one, m)
    by i there (inr other) =
        let new : get_or news i 0 ≡ get_or olds i 0 =
        ap (λ (cs : List ℕ). get_or cs i 0) are
        ∙ get_or-set_other olds cpu i (get_or olds cpu 0 + 1) 0 (λ same. other (sym same)) in
        let old = before.each i there in
        let none : cond {A = ℕ} (of i e) 1 0 ≡ 0 = ap (λ b. cond {A = ℕ} b 1 0) (is i ∙ ne_eqb cpu i other) in
        let m = more i in
        omega (arith, new, old, none, m)

-- one entry more that is not so
pub same_counted : (of : ℕ → Entry → Bool) (history : List Entry) (e : Entry) (cpus : ℕ) (counts : List ℕ)
    → ((i : ℕ) → of i e ≡ false) → AreCounted of history cpus counts
    → AreCounted of (history ++ e ∷ []) cpus counts
same_counted of history e cpus counts is before = record {
  many = before.many;
  each = λ i there.
      let none : cond {A = ℕ} (of i e) 1 0 ≡ 0 = ap (λ b. cond {A = ℕ} b 1 0) (is i) in
      let m = sum_by_push (λ x. cond {A = ℕ} (of i x) 1 0) history e in
      let old = before.each i there in
      omega (arith, none, m, old);
}

-- ---- behind an entry

pub no_end : (cpus : ℕ) (e : Ends) → e.commits.items ≡ replicate cpus 0 → e.aborts.items ≡ replicate cpus 0
    → AreEnds [] cpus e
no_end cpus e commits aborts = record {
  commits = none_counted commits_of cpus e.commits.items commits;
  aborts = none_counted aborts_of cpus e.aborts.items aborts;
}

pub commit_ended : (history : List Entry) (e : Entry) (cpus cpu n : ℕ) (old new : Ends) → e ≡ Commit cpu n
    → new.commits.items ≡ slice_set old.commits.items cpu (get_or old.commits.items cpu 0 + 1)
    → new.aborts.items ≡ old.aborts.items → AreEnds history cpus old → AreEnds (history ++ e ∷ []) cpus new
commit_ended history e cpus cpu n old new is commits aborts before = record {
  commits =
      one_counted commits_of history e cpus cpu old.commits.items new.commits.items commits
      (λ i. ap (commits_of i) is) before.commits;
  aborts =
      subst (AreCounted aborts_of (history ++ e ∷ []) cpus) (sym aborts)
      (same_counted aborts_of history e cpus old.aborts.items (λ i. ap (aborts_of i) is) before.aborts);
}

pub abort_ended : (history : List Entry) (e : Entry) (cpus cpu n : ℕ) (why : Why) (old new : Ends)
    → e ≡ Abort cpu n why
    → new.aborts.items ≡ slice_set old.aborts.items cpu (get_or old.aborts.items cpu 0 + 1)
    → new.commits.items ≡ old.commits.items → AreEnds history cpus old → AreEnds (history ++ e ∷ []) cpus new
abort_ended history e cpus cpu n why old new is aborts commits before = record {
  commits =
      subst (AreCounted commits_of (history ++ e ∷ []) cpus) (sym commits)
      (same_counted commits_of history e cpus old.commits.items (λ i. ap (commits_of i) is) before.commits);
  aborts =
      one_counted aborts_of history e cpus cpu old.aborts.items new.aborts.items aborts
      (λ i. ap (aborts_of i) is) before.aborts;
}
