-- The parts that are left, and the shares that are made.
use Rattle.std.proofs.Common.{◌≡◌, ◌+◌, vec_len}
use Rattle.std.specs.List.{All}
use Rattle.tx_board.proofs.board.shares_of.Given as goal

abbrev pub invariant-loop-number : goal.invariant-loop-number
invariant-loop-number g l = record {
  left : l.rest.parts + l._number ≡ l.count;
  nothing : l.rest.amount ≡ 0;
  made : vec_len l.shares ≡ l._number;
  zero : All (λ share. share.turns ≡ 0) l.shares.items;
}
