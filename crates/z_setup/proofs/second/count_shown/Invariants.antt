use Rattle.std.proofs.Common.{◌≡◌, ◌≤◌, ◌*◌, take}
use Rattle.std.specs.Prelude.{sum_by}
use Rattle.z_setup.specs.Machine.{size_of_show}
use Rattle.z_setup.proofs.second.count_shown.Given as goal

abbrev pub invariant-loop-show : goal.invariant-loop-show
invariant-loop-show l = record {
  sum : l.count ≡ sum_by size_of_show (take l.show-index l.shows);
  few : l.count ≤ l.show-index * 4294967295;
}
