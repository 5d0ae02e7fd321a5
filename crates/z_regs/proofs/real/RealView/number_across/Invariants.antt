use Rattle.std.proofs.Common.{◌≡◌, ◌<◌, ℕ, take, length}
use Rattle.std.specs.Prelude.{slice_index}
use Rattle.z_regs.specs.Seen.{seen_by}
use Rattle.z_regs.specs.Written.{range_at}
use Rattle.z_regs.proofs.real.RealView.number_across.Given as goal

abbrev pub invariant-loop-k : goal.invariant-loop-k
invariant-loop-k g l =
    record {
      copied : take l.k l.item ≡
          range_at (seen_by l.self.prefix (g.V.Bytes.bytes l.self.below)) l.address l.k;
      bytes : (i : ℕ) → slice_index l.item i < 256;
      size : length l.item ≡ 8;
    }
