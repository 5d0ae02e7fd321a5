-- What a test has found.
use Rattle.std.specs.Prelude.{◌≡◌, List, Option, Some, None, Result, Ok, Err}
use Rattle.z_regs.specs.declared.ranges.Range.{Range}
use Rattle.z_regs.specs.Absolute.{absolute_ranges}
use Rattle.z_instr.specs.declared.instr.Instr.{Instr}
use Rattle.tx_serial.specs.Attempt.{Run}
use Rattle.tx_serial.specs.Fate.{Refusal, first_refusal, operands}
use Rattle.tx_serial.specs.Fate as fate
use Rattle.tx_private.specs.declared.refusals.Admitted.{Admitted}
use Rattle.tx_private.specs.declared.refusals.Refused.{Refused}
use Rattle.tx_private.specs.declared.refusals.Refused.TheVariants.{Excepts, Because}

abbrev pub refusal_of : Refused → Refusal
refusal_of (Excepts e) = fate.Excepts e
refusal_of (Because why) = fate.Because why

abbrev pub found : Option Refused → Option Refusal
found None = None
found (Some r) = Some (refusal_of r)

-- a test that answers the operands where it finds nothing
abbrev pub AnswersTest : Option Refusal → List Range → Result (List Range) Refused → Type 0
AnswersTest o ranges (Ok touches) = (o ≡ None) × (touches ≡ ranges)
AnswersTest o ranges (Err r) = o ≡ Some (refusal_of r)

-- what a list of tests answers: the first refusal, or else the operands by real and by absolute addresses
abbrev pub Admits : List (Option Refusal) → Run → Instr → Result Admitted Refused → Type 0
Admits found p i (Ok admitted) =
    (first_refusal found ≡ None) × (admitted.touches ≡ operands i p.cpu) ×
    (admitted.absolute ≡ absolute_ranges p.cpu.prefix (operands i p.cpu))
Admits found p i (Err r) = first_refusal found ≡ Some (refusal_of r)
