-- What part an instruction has in the rules of transactions.
use Rattle.std.specs.Prelude.{ℕ, Bool, true, false, ◌&&◌, not, nat_eq, cond, List, Option, Some, None}
use Rattle.z_instr.specs.declared.instr.Instr.{Instr}
use Rattle.z_instr.specs.declared.operand.Demand.{Demand}
use Rattle.z_instr.specs.declared.operand.Demand.TheVariants.{Begin}
use Rattle.z_instr.specs.declared.kind.Kind.{Kind}
use Rattle.z_instr.specs.declared.kind.Kind.TheVariants.{General, Transaction}
use Rattle.z_instr.specs.declared.kind.General.TheVariants as general
use Rattle.z_instr.specs.declared.kind.Transaction.TheVariants as transaction
use Rattle.z_instr.specs.Forms.{has_target}
use Rattle.z_instr.specs.Table.{Entry, entry_at}
use Rattle.z_instr.specs.Operands.{first_address}
use Rattle.z_instr.specs.Facts.{is_begin}

-- it takes away a level of a transaction
abbrev pub ends_level : Kind → Bool
ends_level (Transaction transaction.End) = true
ends_level _ = false

abbrev pub is_end : Entry → Bool
is_end e = ends_level e.kind

-- it changes an access register, which not every transaction allows
abbrev pub sets_access : Kind → Bool
sets_access (General general.SetAccess) = true
sets_access _ = false

abbrev pub sets_access_register : Entry → Bool
sets_access_register e = sets_access e.kind

-- it branches to a target that stands in it: what has a target does, but for the instruction that only loads
-- its address
abbrev pub loads_target : Kind → Bool
loads_target (General general.Target) = true
loads_target _ = false

abbrev pub is_relative_branch : Entry → Bool
is_relative_branch e = has_target e.form && not (loads_target e.kind)

-- its stores outlive an abort
abbrev pub is_lasting_store : Kind → Bool
is_lasting_store (Transaction transaction.StoreLasting) = true
is_lasting_store _ = false

abbrev pub stores_lastingly : Entry → Bool
stores_lastingly e = is_lasting_store e.kind

-- it asks for time between attempts
abbrev pub is_assist : Kind → Bool
is_assist (Transaction transaction.Assist) = true
is_assist _ = false

abbrev pub asks_for_time : Entry → Bool
asks_for_time e = is_assist e.kind

-- it begins a transaction
abbrev pub begins : Entry → Bool
begins e = is_begin e.demand

abbrev pub may_name_block : Demand → Bool
may_name_block Begin = true
may_name_block _ = false

-- the address of the diagnostic block that a begin names, where it names one
abbrev pub block_named : Instr → List ℕ → Option ℕ
block_named i general =
    cond (may_name_block (entry_at i.op.number).demand && not (nat_eq i.b 0))
    (Some (first_address i general)) None
