-- None lies below the place from which on one is looked for.
use Rattle.std.proofs.Common.{◌≤◌, ◌-◌}
use Rattle.bit_set.specs.Bits.{NoneMarked}
use Rattle.z_regs.specs.Prefix.{storage_size}
use Rattle.tx_marks.proofs.paged.PagedSet.next_behind.Given as goal

abbrev pub invariant-loop-at : goal.invariant-loop-at
invariant-loop-at l =
    record {
      order : l.from ≤ l.at;
      none : NoneMarked l.self-inside.places l.from l.at;
    }

abbrev pub decreases-loop-at : goal.decreases-loop-at
decreases-loop-at l = storage_size - l.at
