use Rattle.std.proofs.Common.{◌≡◌, ◌++◌, take}
use Rattle.std.specs.List.{flat_map}
use Rattle.report_form.specs.Sheet.{show_parts}
use Rattle.report_form.proofs.sheet.add_shows.Given as goal

abbrev pub invariant-loop-show : goal.invariant-loop-show
invariant-loop-show l = l.parts.items ≡ l.initial.parts.items ++ flat_map show_parts (take l.show-index l.shows)
