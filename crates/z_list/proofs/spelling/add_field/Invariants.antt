use Rattle.std.proofs.Common.{◌≡◌, ◌++◌, take}
use Rattle.z_instr.specs.Made.{fields_of}
use Rattle.z_list.specs.Operands.{operands_at, further_text}
use Rattle.z_list.proofs.spelling.add_field.Given as goal

abbrev pub invariant-loop-slot : goal.invariant-loop-slot
invariant-loop-slot l =
    l.text.items
    ≡ l.initial.text.items ++ further_text (operands_at (take l.slot-index l.others) (fields_of l.instr))
