-- The numbers of the kinds of faults, and what stops a line.
use Rattle.std.specs.Prelude.{ℕ}
use Rattle.z_text.specs.declared.token.TextFault.{TextFault}
use Rattle.z_text.specs.declared.token.TextFault.TheVariants as texts
use Rattle.z_fields.specs.declared.fault.Kind.{Kind}
use Rattle.z_fields.specs.declared.fault.Kind.TheVariants as kinds
use Rattle.z_fields.specs.declared.fault.LineFault.{LineFault}
use Rattle.z_fields.specs.declared.fault.LineFault.TheVariants as stops

abbrev pub number_of : Kind → ℕ
number_of kinds.ListingTooLong = 1
number_of kinds.TooManyLines = 2
number_of kinds.BadToken = 3
number_of kinds.BadNumber = 4
number_of kinds.LineTooLong = 5
number_of kinds.UnknownMnemonic = 6
number_of kinds.WrongOperands = 7
number_of kinds.OutOfRange = 8
number_of kinds.UnknownLabel = 9
number_of kinds.DoubleLabel = 10
number_of kinds.Overlap = 11
number_of kinds.BadDirective = 12
number_of kinds.NoCpu = 13
number_of kinds.BadSchedule = 14

abbrev pub line_fault : TextFault → LineFault
line_fault texts.Memory = stops.Memory
line_fault texts.LineTooLong = stops.Failed kinds.LineTooLong
line_fault texts.BadToken = stops.Failed kinds.BadToken
line_fault texts.BadNumber = stops.Failed kinds.BadNumber
