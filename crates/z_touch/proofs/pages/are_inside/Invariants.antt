use Rattle.std.proofs.Common.{◌≡◌, true, take}
use Rattle.std.specs.List.{list_all}
use Rattle.z_instr.specs.Operands.{is_inside}
use Rattle.z_instr.specs.Access.{accessible_pages}
use Rattle.z_touch.specs.Refusals.{span_of}
use Rattle.z_touch.proofs.pages.are_inside.Given as goal

abbrev pub invariant-loop-i : goal.invariant-loop-i
invariant-loop-i l = list_all (λ r. is_inside (accessible_pages l.prefix) (span_of r)) (take l.i l.ranges) ≡
    true
