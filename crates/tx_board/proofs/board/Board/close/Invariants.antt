-- What has been merged so far: as many parts as shares, and their turns.
use Rattle.std.proofs.Common.{◌≡◌, ◌+◌, length, sum_by}
use Rattle.tx_board.proofs.board.Board.close.Given as goal

abbrev pub invariant-loop-share : goal.invariant-loop-share
invariant-loop-share g l = record {
  parts : l.all.parts ≡ 1 + length l.yielded;
  amount : l.all.amount ≡ l.finished + l.worked;
  worked : l.worked ≡ sum_by (λ share. share.turns) l.yielded;
  total : l.book.total ≡ l.recorded;
}
