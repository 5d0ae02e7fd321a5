use Rattle.std.proofs.Common.{◌≡◌, ◌≤◌, map, drop}
use Rattle.z_reading.specs.Listing.{task_in, tasks_of}
use Rattle.z_setup.specs.Setup.{machine_of, known_of}
use Rattle.z_assemble.specs.Whole.{second_over}
use Rattle.z_assemble.proofs.whole.second_over.Given as goal

abbrev pub invariant-loop-kept : goal.invariant-loop-kept
invariant-loop-kept l = record {
  same : second_over (known_of l.labels l.works)
      (map (task_in l.works.text.now) (drop l.kept-index l.works.kept.items)) (machine_of l.setup) ≡
      second_over (known_of l.labels l.works) (tasks_of l.works) (machine_of l.fn.setup);
  entered : l.setup.entered ≤ l.kept-index;
}
