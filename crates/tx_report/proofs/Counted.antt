-- What one entry more adds to how the transactions of a CPU have ended.
use Rattle.std.proofs.Common.{◌≡◌, refl, sym, ℕ, ◌+◌, ◌<◌, ◌≤◌, arith}
use Rattle.std.proofs.Common.{List, length, take, get_or, cond}
use Rattle.std.proofs.lemmas.List.{length-take-le}
use Rattle.std.proofs.lemmas.List.Sums.{sum_by_more, count_by-le-length}
use Rattle.tx_journal.specs.declared.entries.Entry.{Entry}
use Rattle.tx_meaning.specs.Shown.{commits_of, aborts_of}
use Rattle.tx_report.specs.declared.ends.Ends.{Ends}
use Rattle.tx_report.specs.Ends.{ends_in, ends_with}

same_ends : (commits aborts commits_too aborts_too : ℕ) → commits ≡ commits_too → aborts ≡ aborts_too
    → ◌≡◌ {A = Ends} (record { commits = commits; aborts = aborts })
    (record { commits = commits_too; aborts = aborts_too })
same_ends commits aborts commits_too aborts_too is also = rw (is, also) refl

module _ (history : List Entry) (i k : ℕ) where
  pub ends_more : (d : Entry) → k < length history
      → ends_with (ends_in (take k history) i) i (get_or history k d) ≡ ends_in (take (k + 1) history) i
  ends_more d within =
      same_ends _ _ _ _ (sym (sum_by_more (λ x. cond (commits_of i x) 1 0) history k d within))
      (sym (sum_by_more (λ x. cond (aborts_of i x) 1 0) history k d within))

  -- there are no more than entries
  pub few_ends : k ≤ length history
      → ((ends_in (take k history) i).commits ≤ k) × ((ends_in (take k history) i).aborts ≤ k)
  few_ends within =
      let size = length-take-le k history within in
      let commits = count_by-le-length (commits_of i) (take k history) in
      let aborts = count_by-le-length (aborts_of i) (take k history) in
      (omega arith, omega arith)
