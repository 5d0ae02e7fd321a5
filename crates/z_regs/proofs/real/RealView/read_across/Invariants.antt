use Rattle.std.proofs.Common.{◌≡◌, take, length}
use Rattle.z_regs.specs.Seen.{seen_by}
use Rattle.z_regs.specs.Written.{range_at}
use Rattle.z_regs.proofs.real.RealView.read_across.Given as goal

abbrev pub invariant-loop-k : goal.invariant-loop-k
invariant-loop-k g l =
    record {
      copied : take l.k l.into ≡
          range_at (seen_by l.self.prefix (g.V.Bytes.bytes l.self.below)) l.address l.k;
      size : length l.into ≡ length l.initial.into;
    }
