-- What follows from what an operation does: the operands in storage that it touches, and what it demands.
use Rattle.z_arith.specs.declared.Width.{Width}
use Rattle.z_arith.specs.declared.Width.TheVariants as width
use Rattle.z_instr.specs.declared.operand.Size.{Size}
use Rattle.z_instr.specs.declared.operand.Size.TheVariants as size
use Rattle.z_instr.specs.declared.operand.Operands.{Operands}
use Rattle.z_instr.specs.declared.operand.Operands.TheVariants.{Absent, Fetched, Stored, FetchedMany, StoredMany, FetchedSelected, StoredSelected, StoredAndFetched, BothFetched}
use Rattle.z_instr.specs.declared.operand.Demand.{Demand}
use Rattle.z_instr.specs.declared.operand.Demand.TheVariants as demand
use Rattle.z_instr.specs.declared.kind.Kind.{Kind}
use Rattle.z_instr.specs.declared.kind.Kind.TheVariants as kind
use Rattle.z_instr.specs.declared.kind.General.{General}
use Rattle.z_instr.specs.declared.kind.General.TheVariants.{MultiplyWord, MultiplyLogical, DivideWord, DivideDouble, DivideLogical, FindLeftmostOne}
use Rattle.z_instr.specs.declared.kind.Storage.{Storage}
use Rattle.z_instr.specs.declared.kind.Storage.TheVariants.{Compute, Compare, CompareImmediate, TestUnderMask, InsertByte, Store, StoreImmediate, ByteLogic, AddImmediate, LoadMany, StoreMany, CompareAndSwap, LoadAnd, LoadSelected, StoreSelected, ByteByByte, CompareBytes}
use Rattle.z_instr.specs.declared.kind.Branch.{Branch}
use Rattle.z_instr.specs.declared.kind.Branch.TheVariants.{ServiceCall}
use Rattle.z_instr.specs.declared.kind.Transaction.{Transaction}
use Rattle.z_instr.specs.declared.kind.Transaction.TheVariants.{Begin, BeginConstrained, Abort, StoreLasting}
use Rattle.z_instr.specs.declared.kind.Part.{Part}
use Rattle.z_instr.specs.declared.kind.Part.TheVariants as part

-- the item that has a register's width
abbrev pub item : Width → Size
item width.Word = size.Word
item width.Double = size.Doubleword

abbrev pub size_of : Part → Size
size_of (part.Plain s) = s
size_of (part.Signed s) = s

-- ---- operands in storage

abbrev pub storage_operands : Storage → Operands
storage_operands (Compute o w p) = Fetched (size_of p)
storage_operands (Compare o w p) = Fetched (size_of p)
storage_operands (CompareImmediate o w p) = Fetched (size_of p)
storage_operands TestUnderMask = Fetched size.Byte
storage_operands InsertByte = Fetched size.Byte
storage_operands (Store s) = Stored s
storage_operands (StoreImmediate s) = Stored s
storage_operands (ByteLogic l) = Stored size.Byte
storage_operands (AddImmediate w) = Stored (item w)
storage_operands (LoadMany w) = FetchedMany (item w)
storage_operands (StoreMany w) = StoredMany (item w)
storage_operands (CompareAndSwap w) = Stored (item w)
storage_operands (LoadAnd o w) = Stored (item w)
storage_operands LoadSelected = FetchedSelected
storage_operands StoreSelected = StoredSelected
storage_operands (ByteByByte m) = StoredAndFetched
storage_operands CompareBytes = BothFetched

abbrev pub transaction_operands : Transaction → Operands
transaction_operands StoreLasting = Stored size.Doubleword
transaction_operands _ = Absent

abbrev pub operands_of : Kind → Operands
operands_of (kind.General g) = Absent
operands_of (kind.Storage s) = storage_operands s
operands_of (kind.Branch b) = Absent
operands_of (kind.Transaction t) = transaction_operands t

-- ---- demands

-- what puts a result into a pair of registers wants the even one
abbrev pub general_demand : General → Demand
general_demand MultiplyWord = demand.EvenPair
general_demand MultiplyLogical = demand.EvenPair
general_demand DivideWord = demand.EvenPair
general_demand DivideDouble = demand.EvenPair
general_demand DivideLogical = demand.EvenPair
general_demand FindLeftmostOne = demand.EvenPair
general_demand _ = demand.Nothing

-- what reads and stores at once wants the operand on a boundary of its size
abbrev pub storage_demand : Storage → Demand
storage_demand (CompareAndSwap w) = demand.Boundary
storage_demand (LoadAnd o w) = demand.Boundary
storage_demand _ = demand.Nothing

abbrev pub branch_demand : Branch → Demand
branch_demand ServiceCall = demand.ServiceZero
branch_demand _ = demand.Nothing

abbrev pub transaction_demand : Transaction → Demand
transaction_demand Begin = demand.Begin
transaction_demand BeginConstrained = demand.BeginConstrained
transaction_demand Abort = demand.AbortCode
transaction_demand StoreLasting = demand.Boundary
transaction_demand _ = demand.Nothing

abbrev pub demand_of : Kind → Demand
demand_of (kind.General g) = general_demand g
demand_of (kind.Storage s) = storage_demand s
demand_of (kind.Branch b) = branch_demand b
demand_of (kind.Transaction t) = transaction_demand t
