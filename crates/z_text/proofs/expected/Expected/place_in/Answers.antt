-- The place of a partition is the length of the prefix that lies below.
use Rattle.std.proofs.Common.{rules, of_calls, nat_lt, ◌≡◌, sym, subst}
use Rattle.std.specs.List.{prefix_len}
use Rattle.std.specs.List.Sorted.{IsPartitionedBy}
use Rattle.std.proofs.lemmas.Fn.{always_returns_same}
use Rattle.std.proofs.lemmas.List.Sorted.{IsPartitionedBy-ltb}
use Rattle.z_text.specs.Expected.{place_in}
use Rattle.z_text.proofs.Places.{prefix_from_point}
use Rattle.z_text.proofs.expected.Expected.place_in.Goals as goal

pub returns-clause-value : goal.returns-clause-value
unfolding place_in
returns-clause-value c =
    let e = c.args.self.now in
    let same : c.as_slice.result.now ≡ e.keys.items = c.as_slice.ensures.value in
    let point = c.partition_point.ensures.partitioned (λ k. nat_lt k c.args.key)
    (always_returns_same _ _ _ (λ a r f k. search (rules, of_calls)))
    (subst (IsPartitionedBy (λ k. nat_lt k c.args.key)) (sym same)
    (IsPartitionedBy-ltb (λ k. k) e.keys.items c.args.key e.rising)) in
    subst (λ l. c.partition_point.result ≡ prefix_len (λ k. nat_lt k c.args.key) l) same
    (sym (prefix_from_point (λ k. nat_lt k c.args.key) c.as_slice.result.now c.partition_point.result 0
    c.partition_point.ensures.bound point))
