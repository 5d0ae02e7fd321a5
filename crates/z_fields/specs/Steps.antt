-- What a step of the code answers.
use Rattle.std.specs.Prelude.{◌≡◌, Result, Ok, Err}
use Rattle.z_fields.specs.declared.fault.Kind.{Kind}
use Rattle.z_fields.specs.declared.fault.LineFault.{LineFault}
use Rattle.z_fields.specs.declared.fault.LineFault.TheVariants as stops

-- The step left what is given, or failed as is given, unless memory ran out.
abbrev pub Gives : {A : Type 0} → Result (Unit {0}) LineFault → Result A Kind → A → Type 0
Gives (Ok _) given new = given ≡ Ok new
Gives (Err stops.Memory) given new = Unit {0}
Gives (Err (stops.Failed k)) given new = given ≡ Err k

-- The step answers what is given, seen in this way, unless memory ran out.
abbrev pub Answers : {X A : Type 0} → (X → A) → Result X LineFault → Result A Kind → Type 0
Answers view (Ok x) given = given ≡ Ok (view x)
Answers view (Err stops.Memory) given = Unit {0}
Answers view (Err (stops.Failed k)) given = given ≡ Err k
