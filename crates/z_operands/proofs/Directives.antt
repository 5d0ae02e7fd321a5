-- The directives in two parts, besides PREFIX.
use Rattle.std.proofs.Common.{◌≡◌, ℕ, Bool, true, false, List, Option, Some, None, if◌then◌else◌, refl, ap, ◌∙◌}
use Rattle.std.specs.Prelude.{codes}
use Rattle.std.specs.Str.{bytes_eq}
use Rattle.z_operands.specs.Operations.{directive_named, placing_named, machine_named, or_else}
use Rattle.z_operands.specs.declared.operation.Operation.{Operation}
use Rattle.z_operands.specs.declared.operation.Operation.TheVariants.{Org, Equ, Ds, Dc, Cpu, Reg, Show, Tdb}
use Rattle.z_operands.specs.declared.operation.Operation.TheVariants.{Sched, Parm, Prefix, End}

abbrev placing : Bool → Bool → Bool → Bool → Option Operation → Option Operation
placing org equ ds dc rest =
    if org then Some Org else (if equ then Some Equ else (if ds then Some Ds
    else (if dc then Some Dc else rest)))

abbrev machine : Bool → Bool → Bool → Bool → Bool → Bool → Option Operation → Option Operation
machine cpu reg show tdb sched parm rest =
    if cpu then Some Cpu else (if reg then Some Reg else (if show then Some Show
    else (if tdb then Some Tdb else (if sched then Some Sched else (if parm then Some Parm else rest)))))

-- What follows the directives that place bytes is what none of them is.
placed_first : (org equ ds dc : Bool) (rest : Option Operation) →
    placing org equ ds dc rest ≡ or_else (placing org equ ds dc None) rest
placed_first true equ ds dc rest = refl
placed_first false true ds dc rest = refl
placed_first false false true dc rest = refl
placed_first false false false true rest = refl
placed_first false false false false rest = refl

-- A name other than PREFIX is a directive of one part or the other.
pub in_two_parts : (name : List ℕ) → bytes_eq name (codes "PREFIX") ≡ false →
    directive_named name ≡ or_else (placing_named name) (machine_named name)
unfolding directive_named placing_named machine_named
in_two_parts name other =
    let is : List ℕ → Bool = bytes_eq name in
    let last : Option Operation = if is (codes "END") then Some End else None in
    ap (λ b. placing (is (codes "ORG")) (is (codes "EQU")) (is (codes "DS")) (is (codes "DC"))
    (machine (is (codes "CPU")) (is (codes "REG")) (is (codes "SHOW")) (is (codes "TDB")) (is (codes "SCHED"))
    (is (codes "PARM")) (if b then Some Prefix else last))) other
    ∙ placed_first (is (codes "ORG")) (is (codes "EQU")) (is (codes "DS")) (is (codes "DC"))
    (machine (is (codes "CPU")) (is (codes "REG")) (is (codes "SHOW")) (is (codes "TDB")) (is (codes "SCHED"))
    (is (codes "PARM")) last)
