-- Sorted numbers rise, and none has a value.
use Rattle.std.proofs.lemmas.List.Sorted.{IsNonDecreasingBy-from_sort}
use Rattle.z_text.proofs.Places.{none_given}
use Rattle.z_text.proofs.expected.Expected.of.Goals as goal

pub invariant_of-result-clause-rising : goal.invariant_of-result-clause-rising
invariant_of-result-clause-rising c =
    IsNonDecreasingBy-from_sort (λ k. k) c.sort_unstable.new.self.items c.sort_unstable.ensures.sorted

pub returns : goal.returns
returns c = none_given _ c.len.result c.in_ok-given.ensures.is
