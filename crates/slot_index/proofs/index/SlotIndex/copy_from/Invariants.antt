-- The keys so far are the first ones of the other index.
use Rattle.std.proofs.Common.{◌≡◌, take}
use Rattle.slot_index.proofs.index.SlotIndex.copy_from.Given as goal

abbrev pub invariant-loop-slot : goal.invariant-loop-slot
invariant-loop-slot l = l.self ≡ record {
  limit = l.other.limit;
  most = l.other.most;
  keys =
      take l.slot l.other.keys;
}
