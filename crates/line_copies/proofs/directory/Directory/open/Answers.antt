use Rattle.std.proofs.Common.{◌<◌, ◌^◌, sym, subst, arith}
use Rattle.line_copies.proofs.Exclusive.{none_at_first}
use Rattle.line_copies.proofs.directory.Directory.open.Goals as goal

pub invariant_of-result : goal.invariant_of-result
invariant_of-result c =
    none_at_first c.in_ok-table.table c.in_ok-exclusive.exclusive.items
    (c.in_ok-exclusive.ensures.items_if_clones_equal (λ y e. e)) c.in_ok-table.ensures.empty
    (subst (λ n. n < 2 ^ 32) (sym c.in_ok-table.ensures.cpus) (omega (arith, c.ranges.cpus.fits)))
