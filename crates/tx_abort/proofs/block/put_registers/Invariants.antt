use Rattle.std.proofs.Common.{◌≡◌, map}
use Rattle.std.specs.List.{range_with_len}
use Rattle.tx_abort.specs.Block.{register_field}
use Rattle.tx_abort.specs.Writes.{with_fields}
use Rattle.tx_abort.proofs.block.put_registers.Given as goal

-- the registers so far are written
abbrev pub invariant-loop-r : goal.invariant-loop-r
invariant-loop-r l = l.block ≡
    with_fields (map (register_field l.general) (range_with_len 0 l.r)) l.initial.block
