use Rattle.std.proofs.Common.{◌≡◌, take, length}
use Rattle.report_text.specs.Storage.{bytes_at}
use Rattle.report_text.proofs.storage.copy.Given as goal

abbrev pub invariant-loop-i : goal.invariant-loop-i
invariant-loop-i g l = record {
  copied : take l.i l.into ≡ bytes_at (g.S.SharedBytes.bytes l.storage) l.first l.i;
  size : length l.into ≡ length l.initial.into;
}
