-- The instruction table: one row for each instruction, in the order of the opcodes.
use Rattle.std.specs.Prelude.{ℕ, Bool, true, false, List, [], ◌∷◌, get_or, codes}
use Rattle.z_arith.specs.declared.Width.TheVariants as width
use Rattle.z_arith.specs.declared.Shift.TheVariants as shift
use Rattle.z_instr.specs.declared.form.Form.{Form}
use Rattle.z_instr.specs.declared.form.Form.TheVariants as form
use Rattle.z_instr.specs.declared.table.Use.{Use}
use Rattle.z_instr.specs.declared.table.Use.TheVariants.{Free, Barred, Restricted}
use Rattle.z_instr.specs.declared.operand.Size.TheVariants as size
use Rattle.z_instr.specs.declared.operand.Operands.{Operands}
use Rattle.z_instr.specs.declared.operand.Demand.{Demand}
use Rattle.z_instr.specs.declared.kind.Kind.{Kind}
use Rattle.z_instr.specs.declared.kind.Kind.TheVariants.{General, Storage, Branch, Transaction}
use Rattle.z_instr.specs.declared.kind.General.TheVariants as general
use Rattle.z_instr.specs.declared.kind.Storage.TheVariants as storage
use Rattle.z_instr.specs.declared.kind.Branch.TheVariants as branch
use Rattle.z_instr.specs.declared.kind.Transaction.TheVariants as transaction
use Rattle.z_instr.specs.declared.kind.Operation.TheVariants.{Add, Subtract, AddLogical, SubtractLogical, AddWithCarry, SubtractWithBorrow, Multiply, Logic, Load, LoadAndTest, LoadPositive, LoadNegative, LoadComplement}
use Rattle.z_instr.specs.declared.kind.Logic.TheVariants as logic
use Rattle.z_instr.specs.declared.kind.Order.TheVariants as order
use Rattle.z_instr.specs.declared.kind.Part.{Part}
use Rattle.z_instr.specs.declared.kind.Part.TheVariants as part
use Rattle.z_instr.specs.declared.kind.Source.{Source}
use Rattle.z_instr.specs.declared.kind.Source.TheVariants as source
use Rattle.z_instr.specs.declared.kind.Combination.TheVariants as combination
use Rattle.z_instr.specs.declared.kind.Place.TheVariants as place
use Rattle.z_instr.specs.Kinds.{operands_of, demand_of}

-- ---- the columns

-- every transaction refuses the operation; and constrained ones may have it
abbrev pub is_restricted : Use → Bool
is_restricted Restricted = true
is_restricted _ = false

abbrev pub is_permitted : Use → Bool
is_permitted Free = true
is_permitted _ = false

-- A row: the letters of its name, its opcode, its form, whether every transaction refuses it and whether
-- constrained ones may have it, and what it does. Which operands in storage it touches and what it demands of its
-- fields follow from what it does.
pub record Entry : Type 0 where
  pub name : List ℕ
  pub opcode : ℕ
  pub form : Form
  pub restricted : Bool
  pub permitted : Bool
  pub kind : Kind
  pub operands : Operands
  pub demand : Demand

abbrev pub row : List ℕ → ℕ → Form → Use → Kind → Entry
row name opcode shape who kind =
    record {
      name = name;
      opcode = opcode;
      form = shape;
      restricted = is_restricted who;
      permitted = is_permitted who;
      kind = kind;
      operands = operands_of kind;
      demand = demand_of kind;
    }

-- ---- pieces of operands, in words

abbrev byte : Part
byte = part.Plain size.Byte

abbrev halfword : Part
halfword = part.Plain size.Halfword

abbrev word : Part
word = part.Plain size.Word

abbrev doubleword : Part
doubleword = part.Plain size.Doubleword

abbrev signed_halfword : Part
signed_halfword = part.Signed size.Halfword

abbrev signed_word : Part
signed_word = part.Signed size.Word

abbrev byte_of_r2 : Source
byte_of_r2 = source.Second byte

abbrev halfword_of_r2 : Source
halfword_of_r2 = source.Second halfword

abbrev word_of_r2 : Source
word_of_r2 = source.Second word

abbrev all_of_r2 : Source
all_of_r2 = source.Second doubleword

abbrev signed_halfword_of_r2 : Source
signed_halfword_of_r2 = source.Second signed_halfword

abbrev signed_word_of_r2 : Source
signed_word_of_r2 = source.Second signed_word

-- ---- the rows

-- How many rows there are.
abbrev pub row_count : ℕ
row_count = 188

unfoldable pub table : List Entry
table =
    row (codes "SPM") 0x04 form.RRSingle Restricted (General general.SetProgramMask) ∷
    row (codes "BCTR") 0x06 form.RR Barred (Branch (branch.OnCount place.Register width.Word)) ∷
    row (codes "BCR") 0x07 form.RRMask Barred (Branch (branch.OnCondition place.Register)) ∷
    row (codes "SVC") 0x0A form.I Restricted (Branch branch.ServiceCall) ∷
    row (codes "BASR") 0x0D form.RR Barred (Branch (branch.AndSave place.Register)) ∷
    row (codes "LPR") 0x10 form.RR Free (General (general.Compute LoadPositive width.Word word_of_r2)) ∷
    row (codes "LNR") 0x11 form.RR Free (General (general.Compute LoadNegative width.Word word_of_r2)) ∷
    row (codes "LTR") 0x12 form.RR Free (General (general.Compute LoadAndTest width.Word word_of_r2)) ∷
    row (codes "LCR") 0x13 form.RR Free (General (general.Compute LoadComplement width.Word word_of_r2)) ∷
    row (codes "NR") 0x14 form.RR Free (General (general.Compute (Logic logic.And) width.Word word_of_r2)) ∷
    row (codes "CLR") 0x15 form.RR Free (General (general.Compare order.Logical width.Word word_of_r2)) ∷
    row (codes "OR") 0x16 form.RR Free (General (general.Compute (Logic logic.Or) width.Word word_of_r2)) ∷
    row (codes "XR") 0x17 form.RR Free (General (general.Compute (Logic logic.ExclusiveOr) width.Word word_of_r2)) ∷
    row (codes "LR") 0x18 form.RR Free (General (general.Compute Load width.Word word_of_r2)) ∷
    row (codes "CR") 0x19 form.RR Free (General (general.Compare order.Signed width.Word word_of_r2)) ∷
    row (codes "AR") 0x1A form.RR Free (General (general.Compute Add width.Word word_of_r2)) ∷
    row (codes "SR") 0x1B form.RR Free (General (general.Compute Subtract width.Word word_of_r2)) ∷
    row (codes "MR") 0x1C form.RR Barred (General general.MultiplyWord) ∷
    row (codes "DR") 0x1D form.RR Barred (General general.DivideWord) ∷
    row (codes "ALR") 0x1E form.RR Free (General (general.Compute AddLogical width.Word word_of_r2)) ∷
    row (codes "SLR") 0x1F form.RR Free (General (general.Compute SubtractLogical width.Word word_of_r2)) ∷
    row (codes "STH") 0x40 form.RXa Free (Storage (storage.Store size.Halfword)) ∷
    row (codes "LA") 0x41 form.RXa Free (General general.Address) ∷
    row (codes "STC") 0x42 form.RXa Free (Storage (storage.Store size.Byte)) ∷
    row (codes "IC") 0x43 form.RXa Free (Storage storage.InsertByte) ∷
    row (codes "BCT") 0x46 form.RXa Barred (Branch (branch.OnCount place.Address width.Word)) ∷
    row (codes "BC") 0x47 form.RXb Barred (Branch (branch.OnCondition place.Address)) ∷
    row (codes "LH") 0x48 form.RXa Free (Storage (storage.Compute Load width.Word signed_halfword)) ∷
    row (codes "CH") 0x49 form.RXa Free (Storage (storage.Compare order.Signed width.Word signed_halfword)) ∷
    row (codes "AH") 0x4A form.RXa Free (Storage (storage.Compute Add width.Word signed_halfword)) ∷
    row (codes "SH") 0x4B form.RXa Free (Storage (storage.Compute Subtract width.Word signed_halfword)) ∷
    row (codes "ST") 0x50 form.RXa Free (Storage (storage.Store size.Word)) ∷
    row (codes "N") 0x54 form.RXa Free (Storage (storage.Compute (Logic logic.And) width.Word word)) ∷
    row (codes "CL") 0x55 form.RXa Free (Storage (storage.Compare order.Logical width.Word word)) ∷
    row (codes "O") 0x56 form.RXa Free (Storage (storage.Compute (Logic logic.Or) width.Word word)) ∷
    row (codes "X") 0x57 form.RXa Free (Storage (storage.Compute (Logic logic.ExclusiveOr) width.Word word)) ∷
    row (codes "L") 0x58 form.RXa Free (Storage (storage.Compute Load width.Word word)) ∷
    row (codes "C") 0x59 form.RXa Free (Storage (storage.Compare order.Signed width.Word word)) ∷
    row (codes "A") 0x5A form.RXa Free (Storage (storage.Compute Add width.Word word)) ∷
    row (codes "S") 0x5B form.RXa Free (Storage (storage.Compute Subtract width.Word word)) ∷
    row (codes "AL") 0x5E form.RXa Free (Storage (storage.Compute AddLogical width.Word word)) ∷
    row (codes "SL") 0x5F form.RXa Free (Storage (storage.Compute SubtractLogical width.Word word)) ∷
    row (codes "MS") 0x71 form.RXa Barred (Storage (storage.Compute Multiply width.Word word)) ∷
    row (codes "SRL") 0x88 form.RSaSingle Free (General (general.ShiftFirst shift.RightLogical)) ∷
    row (codes "SLL") 0x89 form.RSaSingle Free (General (general.ShiftFirst shift.LeftLogical)) ∷
    row (codes "SRA") 0x8A form.RSaSingle Free (General (general.ShiftFirst shift.RightSigned)) ∷
    row (codes "SLA") 0x8B form.RSaSingle Free (General (general.ShiftFirst shift.LeftSigned)) ∷
    row (codes "STM") 0x90 form.RSa Free (Storage (storage.StoreMany width.Word)) ∷
    row (codes "TM") 0x91 form.SI Free (Storage storage.TestUnderMask) ∷
    row (codes "MVI") 0x92 form.SI Free (Storage (storage.StoreImmediate size.Byte)) ∷
    row (codes "NI") 0x94 form.SI Free (Storage (storage.ByteLogic logic.And)) ∷
    row (codes "CLI") 0x95 form.SI Free (Storage (storage.CompareImmediate order.Logical width.Word byte)) ∷
    row (codes "OI") 0x96 form.SI Free (Storage (storage.ByteLogic logic.Or)) ∷
    row (codes "XI") 0x97 form.SI Free (Storage (storage.ByteLogic logic.ExclusiveOr)) ∷
    row (codes "LM") 0x98 form.RSa Free (Storage (storage.LoadMany width.Word)) ∷
    row (codes "IILL") 0xA53 form.RIa Free (General general.InsertHalfword) ∷
    row (codes "NILL") 0xA57 form.RIa Free (General (general.LowHalfword logic.And)) ∷
    row (codes "OILL") 0xA5B form.RIa Free (General (general.LowHalfword logic.Or)) ∷
    row (codes "LLILL") 0xA5F form.RIa Free (General (general.Compute Load width.Double source.Immediate)) ∷
    row (codes "TMLL") 0xA71 form.RIa Free (General general.TestHalfword) ∷
    row (codes "BRC") 0xA74 form.RIc Free (Branch (branch.OnCondition place.Relative)) ∷
    row (codes "BRAS") 0xA75 form.RIb Barred (Branch (branch.AndSave place.Relative)) ∷
    row (codes "BRCT") 0xA76 form.RIb Free (Branch (branch.OnCount place.Relative width.Word)) ∷
    row (codes "BRCTG") 0xA77 form.RIb Free (Branch (branch.OnCount place.Relative width.Double)) ∷
    row (codes "LHI") 0xA78 form.RIaSigned Free (General (general.Compute Load width.Word source.Immediate)) ∷
    row (codes "LGHI") 0xA79 form.RIaSigned Free (General (general.Compute Load width.Double source.Immediate)) ∷
    row (codes "AHI") 0xA7A form.RIaSigned Free (General (general.Compute Add width.Word source.Immediate)) ∷
    row (codes "AGHI") 0xA7B form.RIaSigned Free (General (general.Compute Add width.Double source.Immediate)) ∷
    row (codes "MHI") 0xA7C form.RIaSigned Barred (General (general.Compute Multiply width.Word source.Immediate)) ∷
    row (codes "MGHI") 0xA7D form.RIaSigned Barred (General (general.Compute Multiply width.Double source.Immediate)) ∷
    row (codes "CHI") 0xA7E form.RIaSigned Free (General (general.Compare order.Signed width.Word source.Immediate)) ∷
    row (codes "CGHI") 0xA7F form.RIaSigned Free (General (general.Compare order.Signed width.Double source.Immediate)) ∷
    row (codes "IPM") 0xB222 form.RRESingle Free (General general.InsertProgramMask) ∷
    row (codes "SAR") 0xB24E form.RRE Barred (General general.SetAccess) ∷
    row (codes "EAR") 0xB24F form.RRE Free (General general.ExtractAccess) ∷
    row (codes "MSR") 0xB252 form.RRE Barred (General (general.Compute Multiply width.Word word_of_r2)) ∷
    row (codes "PPA") 0xB2E8 form.RRFc Restricted (Transaction transaction.Assist) ∷
    row (codes "ETND") 0xB2EC form.RRESingle Barred (Transaction transaction.ExtractDepth) ∷
    row (codes "TEND") 0xB2F8 form.SAlone Free (Transaction transaction.End) ∷
    row (codes "TABORT") 0xB2FC form.S Barred (Transaction transaction.Abort) ∷
    row (codes "LPGR") 0xB900 form.RRE Free (General (general.Compute LoadPositive width.Double all_of_r2)) ∷
    row (codes "LNGR") 0xB901 form.RRE Free (General (general.Compute LoadNegative width.Double all_of_r2)) ∷
    row (codes "LTGR") 0xB902 form.RRE Free (General (general.Compute LoadAndTest width.Double all_of_r2)) ∷
    row (codes "LCGR") 0xB903 form.RRE Free (General (general.Compute LoadComplement width.Double all_of_r2)) ∷
    row (codes "LGR") 0xB904 form.RRE Free (General (general.Compute Load width.Double all_of_r2)) ∷
    row (codes "LGHR") 0xB907 form.RRE Free (General (general.Compute Load width.Double signed_halfword_of_r2)) ∷
    row (codes "AGR") 0xB908 form.RRE Free (General (general.Compute Add width.Double all_of_r2)) ∷
    row (codes "SGR") 0xB909 form.RRE Free (General (general.Compute Subtract width.Double all_of_r2)) ∷
    row (codes "ALGR") 0xB90A form.RRE Free (General (general.Compute AddLogical width.Double all_of_r2)) ∷
    row (codes "SLGR") 0xB90B form.RRE Free (General (general.Compute SubtractLogical width.Double all_of_r2)) ∷
    row (codes "MSGR") 0xB90C form.RRE Barred (General (general.Compute Multiply width.Double all_of_r2)) ∷
    row (codes "DSGR") 0xB90D form.RRE Barred (General general.DivideDouble) ∷
    row (codes "LGFR") 0xB914 form.RRE Free (General (general.Compute Load width.Double signed_word_of_r2)) ∷
    row (codes "LLGFR") 0xB916 form.RRE Free (General (general.Compute Load width.Double word_of_r2)) ∷
    row (codes "AGFR") 0xB918 form.RRE Free (General (general.Compute Add width.Double signed_word_of_r2)) ∷
    row (codes "SGFR") 0xB919 form.RRE Free (General (general.Compute Subtract width.Double signed_word_of_r2)) ∷
    row (codes "CGR") 0xB920 form.RRE Free (General (general.Compare order.Signed width.Double all_of_r2)) ∷
    row (codes "CLGR") 0xB921 form.RRE Free (General (general.Compare order.Logical width.Double all_of_r2)) ∷
    row (codes "BCTGR") 0xB946 form.RRE Barred (Branch (branch.OnCount place.Register width.Double)) ∷
    row (codes "NGR") 0xB980 form.RRE Free (General (general.Compute (Logic logic.And) width.Double all_of_r2)) ∷
    row (codes "OGR") 0xB981 form.RRE Free (General (general.Compute (Logic logic.Or) width.Double all_of_r2)) ∷
    row (codes "XGR") 0xB982 form.RRE Free (General (general.Compute (Logic logic.ExclusiveOr) width.Double all_of_r2)) ∷
    row (codes "FLOGR") 0xB983 form.RRE Barred (General general.FindLeftmostOne) ∷
    row (codes "LLGCR") 0xB984 form.RRE Free (General (general.Compute Load width.Double byte_of_r2)) ∷
    row (codes "LLGHR") 0xB985 form.RRE Free (General (general.Compute Load width.Double halfword_of_r2)) ∷
    row (codes "MLGR") 0xB986 form.RRE Barred (General general.MultiplyLogical) ∷
    row (codes "DLGR") 0xB987 form.RRE Barred (General general.DivideLogical) ∷
    row (codes "ALCGR") 0xB988 form.RRE Free (General (general.Compute AddWithCarry width.Double all_of_r2)) ∷
    row (codes "SLBGR") 0xB989 form.RRE Free (General (general.Compute SubtractWithBorrow width.Double all_of_r2)) ∷
    row (codes "LOCGR") 0xB9E2 form.RRFc Free (General general.LoadSelected) ∷
    row (codes "NGRK") 0xB9E4 form.RRFa Free (General (general.Compute (Logic logic.And) width.Double source.Third)) ∷
    row (codes "OGRK") 0xB9E6 form.RRFa Free (General (general.Compute (Logic logic.Or) width.Double source.Third)) ∷
    row (codes "XGRK") 0xB9E7 form.RRFa Free (General (general.Compute (Logic logic.ExclusiveOr) width.Double source.Third)) ∷
    row (codes "AGRK") 0xB9E8 form.RRFa Free (General (general.Compute Add width.Double source.Third)) ∷
    row (codes "SGRK") 0xB9E9 form.RRFa Free (General (general.Compute Subtract width.Double source.Third)) ∷
    row (codes "ARK") 0xB9F8 form.RRFa Free (General (general.Compute Add width.Word source.Third)) ∷
    row (codes "SRK") 0xB9F9 form.RRFa Free (General (general.Compute Subtract width.Word source.Third)) ∷
    row (codes "CS") 0xBA form.RSa Barred (Storage (storage.CompareAndSwap width.Word)) ∷
    row (codes "LARL") 0xC00 form.RILb Free (General general.Target) ∷
    row (codes "LGFI") 0xC01 form.RILaSigned Free (General (general.Compute Load width.Double source.Immediate)) ∷
    row (codes "BRCL") 0xC04 form.RILc Free (Branch (branch.OnCondition place.Relative)) ∷
    row (codes "BRASL") 0xC05 form.RILb Barred (Branch (branch.AndSave place.Relative)) ∷
    row (codes "XILF") 0xC07 form.RILa Free (General (general.Compute (Logic logic.ExclusiveOr) width.Word source.Immediate)) ∷
    row (codes "NILF") 0xC0B form.RILa Free (General (general.Compute (Logic logic.And) width.Word source.Immediate)) ∷
    row (codes "OILF") 0xC0D form.RILa Free (General (general.Compute (Logic logic.Or) width.Word source.Immediate)) ∷
    row (codes "LLILF") 0xC0F form.RILa Free (General (general.Compute Load width.Double source.Immediate)) ∷
    row (codes "AGFI") 0xC28 form.RILaSigned Free (General (general.Compute Add width.Double source.Immediate)) ∷
    row (codes "AFI") 0xC29 form.RILaSigned Free (General (general.Compute Add width.Word source.Immediate)) ∷
    row (codes "CGFI") 0xC2C form.RILaSigned Free (General (general.Compare order.Signed width.Double source.Immediate)) ∷
    row (codes "CFI") 0xC2D form.RILaSigned Free (General (general.Compare order.Signed width.Word source.Immediate)) ∷
    row (codes "CLGFI") 0xC2E form.RILa Free (General (general.Compare order.Logical width.Double source.Immediate)) ∷
    row (codes "MVC") 0xD2 form.SSa Barred (Storage (storage.ByteByByte combination.Move)) ∷
    row (codes "NC") 0xD4 form.SSa Barred (Storage (storage.ByteByByte (combination.Logic logic.And))) ∷
    row (codes "CLC") 0xD5 form.SSa Barred (Storage storage.CompareBytes) ∷
    row (codes "OC") 0xD6 form.SSa Barred (Storage (storage.ByteByByte (combination.Logic logic.Or))) ∷
    row (codes "XC") 0xD7 form.SSa Barred (Storage (storage.ByteByByte (combination.Logic logic.ExclusiveOr))) ∷
    row (codes "LTG") 0xE302 form.RXYa Free (Storage (storage.Compute LoadAndTest width.Double doubleword)) ∷
    row (codes "LG") 0xE304 form.RXYa Free (Storage (storage.Compute Load width.Double doubleword)) ∷
    row (codes "AG") 0xE308 form.RXYa Free (Storage (storage.Compute Add width.Double doubleword)) ∷
    row (codes "SG") 0xE309 form.RXYa Free (Storage (storage.Compute Subtract width.Double doubleword)) ∷
    row (codes "ALG") 0xE30A form.RXYa Free (Storage (storage.Compute AddLogical width.Double doubleword)) ∷
    row (codes "SLG") 0xE30B form.RXYa Free (Storage (storage.Compute SubtractLogical width.Double doubleword)) ∷
    row (codes "MSG") 0xE30C form.RXYa Barred (Storage (storage.Compute Multiply width.Double doubleword)) ∷
    row (codes "LGF") 0xE314 form.RXYa Free (Storage (storage.Compute Load width.Double signed_word)) ∷
    row (codes "LGH") 0xE315 form.RXYa Free (Storage (storage.Compute Load width.Double signed_halfword)) ∷
    row (codes "LLGF") 0xE316 form.RXYa Free (Storage (storage.Compute Load width.Double word)) ∷
    row (codes "AGF") 0xE318 form.RXYa Free (Storage (storage.Compute Add width.Double signed_word)) ∷
    row (codes "CG") 0xE320 form.RXYa Free (Storage (storage.Compare order.Signed width.Double doubleword)) ∷
    row (codes "CLG") 0xE321 form.RXYa Free (Storage (storage.Compare order.Logical width.Double doubleword)) ∷
    row (codes "STG") 0xE324 form.RXYa Free (Storage (storage.Store size.Doubleword)) ∷
    row (codes "NTSTG") 0xE325 form.RXYa Barred (Transaction transaction.StoreLasting) ∷
    row (codes "STY") 0xE350 form.RXYa Free (Storage (storage.Store size.Word)) ∷
    row (codes "LY") 0xE358 form.RXYa Free (Storage (storage.Compute Load width.Word word)) ∷
    row (codes "LAY") 0xE371 form.RXYa Free (General general.Address) ∷
    row (codes "NG") 0xE380 form.RXYa Free (Storage (storage.Compute (Logic logic.And) width.Double doubleword)) ∷
    row (codes "OG") 0xE381 form.RXYa Free (Storage (storage.Compute (Logic logic.Or) width.Double doubleword)) ∷
    row (codes "XG") 0xE382 form.RXYa Free (Storage (storage.Compute (Logic logic.ExclusiveOr) width.Double doubleword)) ∷
    row (codes "LLGC") 0xE390 form.RXYa Free (Storage (storage.Compute Load width.Double byte)) ∷
    row (codes "LLGH") 0xE391 form.RXYa Free (Storage (storage.Compute Load width.Double halfword)) ∷
    row (codes "MVHHI") 0xE544 form.SILSigned Free (Storage (storage.StoreImmediate size.Halfword)) ∷
    row (codes "MVGHI") 0xE548 form.SILSigned Free (Storage (storage.StoreImmediate size.Doubleword)) ∷
    row (codes "MVHI") 0xE54C form.SILSigned Free (Storage (storage.StoreImmediate size.Word)) ∷
    row (codes "CGHSI") 0xE558 form.SILSigned Free (Storage (storage.CompareImmediate order.Signed width.Double doubleword)) ∷
    row (codes "CHSI") 0xE55C form.SILSigned Free (Storage (storage.CompareImmediate order.Signed width.Word word)) ∷
    row (codes "TBEGIN") 0xE560 form.SIL Barred (Transaction transaction.Begin) ∷
    row (codes "TBEGINC") 0xE561 form.SIL Barred (Transaction transaction.BeginConstrained) ∷
    row (codes "LMG") 0xEB04 form.RSYa Free (Storage (storage.LoadMany width.Double)) ∷
    row (codes "SRAG") 0xEB0A form.RSYa Free (General (general.ShiftThird shift.RightSigned width.Double)) ∷
    row (codes "SLAG") 0xEB0B form.RSYa Free (General (general.ShiftThird shift.LeftSigned width.Double)) ∷
    row (codes "SRLG") 0xEB0C form.RSYa Free (General (general.ShiftThird shift.RightLogical width.Double)) ∷
    row (codes "SLLG") 0xEB0D form.RSYa Free (General (general.ShiftThird shift.LeftLogical width.Double)) ∷
    row (codes "RLLG") 0xEB1C form.RSYa Free (General (general.ShiftThird shift.Rotate width.Double)) ∷
    row (codes "RLL") 0xEB1D form.RSYa Free (General (general.ShiftThird shift.Rotate width.Word)) ∷
    row (codes "STMG") 0xEB24 form.RSYa Free (Storage (storage.StoreMany width.Double)) ∷
    row (codes "CSG") 0xEB30 form.RSYa Barred (Storage (storage.CompareAndSwap width.Double)) ∷
    row (codes "ASI") 0xEB6A form.SIY Barred (Storage (storage.AddImmediate width.Word)) ∷
    row (codes "AGSI") 0xEB7A form.SIY Barred (Storage (storage.AddImmediate width.Double)) ∷
    row (codes "LOCG") 0xEBE2 form.RSYb Free (Storage storage.LoadSelected) ∷
    row (codes "STOCG") 0xEBE3 form.RSYb Free (Storage storage.StoreSelected) ∷
    row (codes "LANG") 0xEBE4 form.RSYa Barred (Storage (storage.LoadAnd (Logic logic.And) width.Double)) ∷
    row (codes "LAOG") 0xEBE6 form.RSYa Barred (Storage (storage.LoadAnd (Logic logic.Or) width.Double)) ∷
    row (codes "LAXG") 0xEBE7 form.RSYa Barred (Storage (storage.LoadAnd (Logic logic.ExclusiveOr) width.Double)) ∷
    row (codes "LAAG") 0xEBE8 form.RSYa Barred (Storage (storage.LoadAnd Add width.Double)) ∷
    row (codes "LAA") 0xEBF8 form.RSYa Barred (Storage (storage.LoadAnd Add width.Word)) ∷
    row (codes "CGRJ") 0xEC64 form.RIEb Free (Branch (branch.OnCompare order.Signed width.Double)) ∷
    row (codes "CLGRJ") 0xEC65 form.RIEb Free (Branch (branch.OnCompare order.Logical width.Double)) ∷
    row (codes "CRJ") 0xEC76 form.RIEb Free (Branch (branch.OnCompare order.Signed width.Word)) ∷
    row (codes "CGIJ") 0xEC7C form.RIEc Free (Branch branch.OnCompareImmediate) ∷
    []

abbrev pub no_entry : Entry
no_entry = row [] 0 form.RR Free (Branch branch.ServiceCall)

-- the row of a number
unfoldable pub entry_at : ℕ → Entry
entry_at n = get_or table n no_entry

-- what the operation of a row does
unfoldable pub kind_at : ℕ → Kind
kind_at n = (entry_at n).kind
