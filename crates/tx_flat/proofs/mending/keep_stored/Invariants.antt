use Rattle.std.proofs.Common.{◌≡◌, ◌-◌, length}
use Rattle.z_regs.specs.Prefix.{storage_size}
use Rattle.tx_footprint.specs.Touched.{sets_of}
use Rattle.tx_flat.specs.Near.{AreKept}
use Rattle.tx_flat.proofs.Kept.{later}
use Rattle.tx_flat.proofs.mending.keep_stored.Given as goal

abbrev pub invariant-loop-line : goal.invariant-loop-line
invariant-loop-line l = record {
  kept : AreKept l.initial.a.turned (later l.from (sets_of l.initial.a.footprint).stored) l.initial.a.seen l.storage
      l.a.lasting;
  rest : l.a ≡ record l.initial.a { lasting = l.a.lasting };
  size : length l.storage ≡ storage_size;
}

abbrev pub decreases-loop-line : goal.decreases-loop-line
decreases-loop-line l = 4096 - l.from
