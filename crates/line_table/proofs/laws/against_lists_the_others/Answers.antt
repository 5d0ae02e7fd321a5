use Rattle.line_table.proofs.Against.{against-rising, from_against, in_against}
use Rattle.line_table.proofs.laws.against_lists_the_others.Goals as goal

pub returns : goal.returns
returns c = record {
  members =
      λ cpus held cpu line wanted other.
      (from_against cpus held cpu line wanted other, in_against cpus held cpu line wanted other);
  rising = against-rising;
}
