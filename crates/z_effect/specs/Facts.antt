-- Who executes an operation, and which one ends the program.
use Rattle.std.specs.Prelude.{Bool, true, false}
use Rattle.z_instr.specs.declared.kind.Kind.{Kind}
use Rattle.z_instr.specs.declared.kind.Kind.TheVariants as kind
use Rattle.z_instr.specs.declared.kind.Branch.TheVariants as branch

abbrev pub is_general : Kind → Bool
is_general (kind.General g) = true
is_general _ = false

abbrev pub is_storage : Kind → Bool
is_storage (kind.Storage s) = true
is_storage _ = false

abbrev pub is_branch : Kind → Bool
is_branch (kind.Branch b) = true
is_branch _ = false

-- a service call, which ends the program
abbrev pub is_service : Kind → Bool
is_service (kind.Branch branch.ServiceCall) = true
is_service _ = false
