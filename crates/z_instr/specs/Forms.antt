-- The formats by the manual's own names: what they are for short, what their operands stand for, and which
-- immediates have a sign.
use Rattle.std.specs.Prelude.{Bool, true, false, List, [], ◌∷◌}
use Rattle.std.specs.List.{list_any}
use Rattle.z_instr.specs.declared.format.Format.{Format}
use Rattle.z_instr.specs.declared.format.Format.TheVariants as format
use Rattle.z_instr.specs.declared.form.Form.{Form}
use Rattle.z_instr.specs.declared.form.Form.TheVariants.{RR, RRMask, RRSingle, I, RXa, RXb, RRE, RRESingle, RRFa, RRFc, RXYa, RIa, RIaSigned, RIb, RIc, RILa, RILaSigned, RILb, RILc, RSa, RSaSingle, RSYa, RSYb, SI, SIY, SIL, SILSigned, S, SAlone, SSa, RIEb, RIEc}
use Rattle.z_instr.specs.declared.form.Slot.{Slot}
use Rattle.z_instr.specs.declared.form.Slot.TheVariants.{First, Second, Third, Mask, Immediate, Compared, Target, Indexed, Based, Counted, SecondBased}

-- the format without its letter
abbrev pub format_of : Form → Format
format_of RR = format.RR
format_of RRMask = format.RR
format_of RRSingle = format.RR
format_of I = format.I
format_of RXa = format.RX
format_of RXb = format.RX
format_of RRE = format.RRE
format_of RRESingle = format.RRE
format_of RRFa = format.RRFa
format_of RRFc = format.RRFc
format_of RXYa = format.RXY
format_of RIa = format.RI
format_of RIaSigned = format.RI
format_of RIb = format.RI
format_of RIc = format.RI
format_of RILa = format.RIL
format_of RILaSigned = format.RIL
format_of RILb = format.RIL
format_of RILc = format.RIL
format_of RSa = format.RS
format_of RSaSingle = format.RS
format_of RSYa = format.RSY
format_of RSYb = format.RSY
format_of SI = format.SI
format_of SIY = format.SIY
format_of SIL = format.SIL
format_of SILSigned = format.SIL
format_of S = format.S
format_of SAlone = format.S
format_of SSa = format.SS
format_of RIEb = format.RIEb
format_of RIEc = format.RIEc

-- what the operands stand for, in the order in which a listing has them
abbrev pub slots : Form → List Slot
slots RR = First ∷ Second ∷ []
slots RRMask = Mask ∷ Second ∷ []
slots RRSingle = First ∷ []
slots I = Immediate ∷ []
slots RXa = First ∷ Indexed ∷ []
slots RXb = Mask ∷ Indexed ∷ []
slots RRE = First ∷ Second ∷ []
slots RRESingle = First ∷ []
slots RRFa = First ∷ Second ∷ Third ∷ []
slots RRFc = First ∷ Second ∷ Mask ∷ []
slots RXYa = First ∷ Indexed ∷ []
slots RIa = First ∷ Immediate ∷ []
slots RIaSigned = First ∷ Immediate ∷ []
slots RIb = First ∷ Target ∷ []
slots RIc = Mask ∷ Target ∷ []
slots RILa = First ∷ Immediate ∷ []
slots RILaSigned = First ∷ Immediate ∷ []
slots RILb = First ∷ Target ∷ []
slots RILc = Mask ∷ Target ∷ []
slots RSa = First ∷ Third ∷ Based ∷ []
slots RSaSingle = First ∷ Based ∷ []
slots RSYa = First ∷ Third ∷ Based ∷ []
slots RSYb = First ∷ Based ∷ Mask ∷ []
slots SI = Based ∷ Immediate ∷ []
slots SIY = Based ∷ Immediate ∷ []
slots SIL = Based ∷ Immediate ∷ []
slots SILSigned = Based ∷ Immediate ∷ []
slots S = Based ∷ []
slots SAlone = []
slots SSa = Counted ∷ SecondBased ∷ []
slots RIEb = First ∷ Second ∷ Mask ∷ Target ∷ []
slots RIEc = First ∷ Compared ∷ Mask ∷ Target ∷ []

-- an operand is a target
abbrev pub is_target : Slot → Bool
is_target Target = true
is_target _ = false

abbrev pub has_target : Form → Bool
has_target form = list_any is_target (slots form)

-- the immediate has a sign: where it is a distance, or added to storage, always
abbrev pub is_signed : Form → Bool
is_signed RIaSigned = true
is_signed RIb = true
is_signed RIc = true
is_signed RILaSigned = true
is_signed RILb = true
is_signed RILc = true
is_signed SIY = true
is_signed SILSigned = true
is_signed RIEb = true
is_signed RIEc = true
is_signed _ = false
