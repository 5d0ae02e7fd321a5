use Rattle.std.proofs.Common.{◌≡◌, ℕ, Bool, length}
use Rattle.z_regs.specs.Prefix.{storage_size}
use Rattle.tx_flat.specs.Near.{AreKept}
use Rattle.tx_flat.proofs.Kept.{outside}
use Rattle.tx_flat.proofs.mending.keep_range.Given as goal

abbrev pub invariant-loop-line : goal.invariant-loop-line
invariant-loop-line l = record {
  kept : (test : ℕ → Bool)
      → AreKept l.initial.a.turned test l.initial.a.seen l.initial.storage l.initial.a.lasting
      → AreKept l.initial.a.turned (outside test l.first l.line) l.initial.a.seen l.storage l.a.lasting;
  rest : l.a ≡ record l.initial.a { lasting = l.a.lasting };
  size : length l.storage ≡ storage_size;
}
