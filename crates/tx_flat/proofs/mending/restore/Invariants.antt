use Rattle.std.proofs.Common.{◌≡◌, ◌-◌}
use Rattle.tx_footprint.specs.Touched.{sets_of}
use Rattle.tx_flat.specs.Near.{Near}
use Rattle.tx_flat.proofs.Kept.{later}
use Rattle.tx_flat.proofs.mending.restore.Given as goal

abbrev pub invariant-loop-line : goal.invariant-loop-line
invariant-loop-line l = record {
  seen : Near l.initial.a.turned (later l.from (sets_of l.initial.a.footprint).stored) l.storage l.a.seen;
  lasting : Near l.initial.a.turned (later l.from (sets_of l.initial.a.footprint).stored) l.storage l.a.lasting;
  rest : l.a ≡ record l.initial.a { seen = l.a.seen; lasting = l.a.lasting };
}

abbrev pub decreases-loop-line : goal.decreases-loop-line
decreases-loop-line l = 4096 - l.from
