-- So many bytes are touched.
use Rattle.std.proofs.Common.{◌≡◌, ℕ, ◌||◌}
use Rattle.tx_lending.specs.Places.{is_among, places_from}
use Rattle.tx_marks.specs.Own.{is_touched, given}
use Rattle.tx_marks.proofs.bytes.OwnBytes.touch_more.Given as goal

abbrev pub invariant-loop-k : goal.invariant-loop-k
invariant-loop-k l =
    record {
      bytes : l.self.now ≡ l.initial.self.now;
      before : (a : ℕ) → given l.self a ≡ given l.initial.self a;
      marks : (a : ℕ) → is_touched l.self a
          ≡ (is_touched l.initial.self a || is_among (places_from l.prefix l.first l.k) a);
    }
