-- What a pass over the lines answers.
use Rattle.std.specs.Prelude.{◌≡◌, ℕ, Result, Ok, Err}
use Rattle.z_fields.specs.declared.fault.LineFault.{LineFault}
use Rattle.z_fields.specs.declared.fault.LineFault.TheVariants as stops
use Rattle.z_assemble.specs.Whole.{fault_at}
use Rattle.z_assemble.specs.declared.fault.AssembleFault.{AssembleFault}
use Rattle.z_assemble.specs.declared.fault.AssembleFault.TheVariants as ends
use Rattle.z_assemble.specs.declared.fault.ListingFault.{ListingFault}

-- The pass left what is given, or found the fault that is given, unless memory ran out.
abbrev pub Passes : {A : Type 0} → Result (Unit {0}) AssembleFault → Result A ListingFault → A → Type 0
Passes (Ok _) given new = given ≡ Ok new
Passes (Err ends.Memory) given new = Unit {0}
Passes (Err (ends.Listing f)) given new = given ≡ Err f

abbrev pub on_line : ℕ → LineFault → AssembleFault
on_line line stops.Memory = ends.Memory
on_line line (stops.Failed k) = ends.Listing (fault_at line k)
