use Rattle.std.proofs.Common.{◌≡◌, ◌<◌, ℕ, take, length}
use Rattle.std.specs.Prelude.{slice_index}
use Rattle.z_regs.specs.Written.{range_at}
use Rattle.z_regs.proofs.number.number_at.Given as goal

abbrev pub invariant-loop-k : goal.invariant-loop-k
invariant-loop-k l =
    record {
      copied : take l.k l.item ≡ range_at l.bytes l.first l.k;
      bytes : (i : ℕ) → slice_index l.item i < 256;
      size : length l.item ≡ 8;
    }
