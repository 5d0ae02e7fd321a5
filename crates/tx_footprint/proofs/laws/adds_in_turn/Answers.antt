use Rattle.std.proofs.Common.{◌≡◌, Bool, List, ◌++◌, ap, sym, ◌∙◌}
use Rattle.std.specs.Prelude.{◌||◌, ◌&&◌, not}
use Rattle.std.specs.List.{list_any}
use Rattle.std.proofs.lemmas.List.Folds.{list_any-append}
use Rattle.z_regs.specs.declared.ranges.Range.{Range}
use Rattle.tx_footprint.specs.Sizes.{line_size, block_size}
use Rattle.tx_footprint.specs.Places.{has_place}
use Rattle.std.proofs.Math.Bool.{or_assoc}
use Rattle.tx_footprint.proofs.laws.adds_in_turn.Goals as goal

-- of the tests of two lists in turn, and of one list of both
in_turn : (test : Range → Bool) (was : Bool) (first second : List Range)
    → ((was || list_any test first) || list_any test second) ≡ (was || list_any test (first ++ second))
in_turn test was first second =
    or_assoc was (list_any test first) (list_any test second)
    ∙ ap (λ b. was || b) (sym (list_any-append test first second))

pub returns : goal.returns
returns c = λ sets first second i.
    record {
      fetched =
          λ line. in_turn (λ r. not r.store && has_place line_size r line) (sets.fetched line) first second i;
      stored = λ line. in_turn (λ r. r.store && has_place line_size r line) (sets.stored line) first second i;
      blocks = λ block. in_turn (λ r. r.store && has_place block_size r block) (sets.blocks block) first
          second i;
    }
