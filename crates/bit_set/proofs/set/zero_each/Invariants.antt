-- No word outside those that are left is anything but zero.
use Rattle.std.proofs.Common.{◌≡◌, length}
use Rattle.bit_set.specs.Used.{IsZeroOutside}
use Rattle.bit_set.proofs.set.zero_each.Given as goal

abbrev pub invariant-loop-at : goal.invariant-loop-at
invariant-loop-at l =
    record { size : length l.words ≡ length l.initial.words; used : IsZeroOutside l.words l.at l.high }
