use Rattle.std.proofs.Common.{◌≡◌, take}
use Rattle.z_regs.specs.Seen.{seen_by}
use Rattle.z_regs.specs.Written.{written}
use Rattle.z_regs.proofs.real.RealView.put_across.Given as goal

abbrev pub invariant-loop-k : goal.invariant-loop-k
invariant-loop-k g l =
    seen_by l.self.prefix (g.V.Bytes.bytes l.self.below) ≡
    written (seen_by l.initial.self.prefix (g.V.Bytes.bytes l.initial.self.below)) l.address
    (take l.k l.bytes)
