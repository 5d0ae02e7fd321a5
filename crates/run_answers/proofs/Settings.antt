-- An image may be run with limits that are in their ranges.
use Rattle.std.proofs.Common.{ℕ, ◌≤◌, arith}
use Rattle.std.proofs.lemmas.List.Sums.{count_by-le-length}
use Rattle.tx_journal.specs.Content.{Content}
use Rattle.tx_journal.specs.Image.{IsImage}
use Rattle.tx_meaning.specs.Meaning.{IsSetting, is_external}
use Rattle.tx_meaning.specs.Limits.{external_limit}
use Rattle.run_answers.specs.Runs.{AreLimits, externals_in, running}

few_of : (image : Content) → IsImage image → externals_in image ≤ external_limit
few_of image is = omega (arith, count_by-le-length is_external image.schedule, is.few_events)

module _ (image : Content) (turns tick : ℕ) (is : IsImage image) (limits : AreLimits turns tick) where
  pub may_run : IsSetting (running image turns tick)
  may_run = record {
    image = is;
    limits = record {
      some_turn = limits.0;
      few_turns = limits.1;
      few_ticks = limits.2;
      few_externals = few_of image is;
    };
  }
