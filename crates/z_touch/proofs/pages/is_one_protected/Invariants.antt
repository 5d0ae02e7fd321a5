use Rattle.std.proofs.Common.{◌≡◌, false, take}
use Rattle.std.specs.List.{list_any}
use Rattle.std.specs.FinSet.{items}
use Rattle.z_instr.specs.Operands.{is_stored_into}
use Rattle.z_instr.specs.Access.{text_pages}
use Rattle.z_touch.specs.Refusals.{span_of}
use Rattle.z_touch.proofs.pages.is_one_protected.Given as goal

abbrev pub invariant-loop-i : goal.invariant-loop-i
invariant-loop-i l =
    list_any (λ r. is_stored_into (text_pages l.prefix (items l.guard)) (span_of r)) (take l.i l.ranges) ≡
    false
