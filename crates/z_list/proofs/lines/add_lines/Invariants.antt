use Rattle.std.proofs.Common.{◌≡◌, ◌++◌, take}
use Rattle.std.specs.List.{flat_map}
use Rattle.z_list.specs.Listing.{line_at}
use Rattle.z_list.proofs.lines.add_lines.Given as goal

abbrev pub invariant-loop-start : goal.invariant-loop-start
invariant-loop-start l = l.text.items ≡ l.initial.text.items ++ flat_map (line_at l.storage) (take l.start-index l.starts)
