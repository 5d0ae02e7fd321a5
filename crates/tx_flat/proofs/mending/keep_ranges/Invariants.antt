use Rattle.std.proofs.Common.{◌≡◌, length, drop}
use Rattle.z_regs.specs.Prefix.{storage_size}
use Rattle.tx_footprint.specs.Places.{stores}
use Rattle.tx_flat.specs.Near.{AreKept}
use Rattle.tx_flat.proofs.mending.keep_ranges.Given as goal

abbrev pub invariant-loop-i : goal.invariant-loop-i
invariant-loop-i l = record {
  kept : AreKept l.initial.a.turned (stores (drop l.i l.absolute)) l.initial.a.seen l.storage l.a.lasting;
  rest : l.a ≡ record l.initial.a { lasting = l.a.lasting };
  size : length l.storage ≡ storage_size;
}
