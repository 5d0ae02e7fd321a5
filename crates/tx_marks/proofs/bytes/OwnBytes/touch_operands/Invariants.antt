-- The first operands are touched.
use Rattle.std.proofs.Common.{◌≡◌, ℕ, ◌||◌, take}
use Rattle.std.specs.List.{flat_map}
use Rattle.tx_lending.specs.Places.{is_among, places_from}
use Rattle.tx_marks.specs.Own.{is_touched, given}
use Rattle.tx_marks.proofs.bytes.OwnBytes.touch_operands.Given as goal

abbrev pub invariant-loop-i : goal.invariant-loop-i
invariant-loop-i l =
    record {
      bytes : l.self.now ≡ l.initial.self.now;
      before : (a : ℕ) → given l.self a ≡ given l.initial.self a;
      marks : (a : ℕ) → is_touched l.self a ≡ (is_touched l.initial.self a
          || is_among (flat_map (λ r. places_from l.prefix r.first r.length) (take l.i l.need)) a);
    }
