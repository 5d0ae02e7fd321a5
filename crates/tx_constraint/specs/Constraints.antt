-- The constraints of a constrained transaction, over all that its attempt has run.
use Rattle.std.specs.Prelude.{◌≡◌, ℕ, ◌+◌, Bool, false, ◌&&◌, not, nat_lt, nat_le, if◌then◌else◌, length, List, [], ◌∷◌, ◌++◌, Option, Some, None, Result, Ok, Err}
use Rattle.std.specs.List.{list_any, flat_map, count_by}
use Rattle.z_regs.specs.declared.ranges.Range.{Range}
use Rattle.z_instr.specs.declared.instr.Instr.{Instr}
use Rattle.tx_constraint.specs.Operations.{ends, is_permitted, unit_of, bytes_of}
use Rattle.tx_constraint.specs.Bytes.{lies_in_one, touches_own_page}
use Rattle.tx_constraint.specs.Octowords.{with_octowords}

-- an instruction that was run: what it is, where it stands, and its operands, all by real addresses
pub record Step : Type 0 where
  pub instruction : Instr
  pub at : ℕ
  pub ranges : List Range

-- an attempt so far: the address of its TBEGINC, and the instructions behind that, oldest first
pub record Attempt : Type 0 where
  pub begin : ℕ
  pub steps : List Step

abbrev pub begun : ℕ → Attempt
begun begin = record { begin = begin; steps = [] }

abbrev pub with_step : Attempt → Step → Attempt
with_step a s = record a { steps = a.steps ++ s ∷ [] }

-- ---- each constraint broken

-- 1: more than 32 instructions, TBEGINC and TEND not counted
abbrev pub is_too_long : Attempt → Bool
is_too_long a = nat_lt 32 (count_by (λ s. not (ends s.instruction)) a.steps)

-- 2: an instruction that does not lie in the 256 bytes that begin with TBEGINC
abbrev pub lies_near : ℕ → Instr → ℕ → Bool
lies_near begin i at = nat_le begin at && nat_le (at + bytes_of i) (begin + 256)

abbrev pub leaves_its_bytes : Attempt → Bool
leaves_its_bytes a = list_any (λ s. not (lies_near a.begin s.instruction s.at)) a.steps

-- 3: an instruction that is not permitted, or a branch that goes back
abbrev pub has_barred : Attempt → Bool
has_barred a = list_any (λ s. not (is_permitted s.instruction)) a.steps

-- 4: operands in more than four octowords
abbrev pub octowords : Attempt → List ℕ
octowords a = with_octowords [] (flat_map (λ s. s.ranges) a.steps)

abbrev pub is_too_wide : Attempt → Bool
is_too_wide a = nat_lt 4 (length (octowords a))

-- 5: an operand in a page of those 256 bytes
abbrev pub touches_itself : Attempt → Bool
touches_itself a = list_any (λ s. list_any (touches_own_page a.begin) s.ranges) a.steps

-- 7: an operand that crosses the boundary of its doubleword or octoword
abbrev pub is_split : ℕ → Range → Bool
is_split unit r = not (lies_in_one unit r)

abbrev pub has_split : Attempt → Bool
has_split a = list_any (λ s. list_any (is_split (unit_of s.instruction)) s.ranges) a.steps

-- ---- the lowest that is broken

abbrev pub first_of : Bool → ℕ → Option ℕ → Option ℕ
first_of is_broken number rest = if is_broken then Some number else rest

-- of constraints 1 to 3
unfoldable pub text_breach : Attempt → Option ℕ
text_breach a =
    first_of (is_too_long a) 1 (first_of (leaves_its_bytes a) 2 (first_of (has_barred a) 3 None))

-- of constraints 4 to 7. Constraint 6, that no location is reached by two addresses, is never broken, since
-- real addresses
-- are one to one with absolute ones.
unfoldable pub operand_breach : Attempt → Option ℕ
operand_breach a =
    first_of (is_too_wide a) 4 (first_of (touches_itself a) 5 (first_of (has_split a) 7 None))

-- what is answered: nothing, or the number
abbrev pub verdict : Option ℕ → Result (Unit {0}) ℕ
verdict None = Ok tt
verdict (Some number) = Err number

-- an attempt that goes on: it has broken nothing, and not come to its end
pub record GoesOn (a : Attempt) : Type 0 where
  pub unended : list_any (λ s. ends s.instruction) a.steps ≡ false
  pub text : text_breach a ≡ None
  pub operands : operand_breach a ≡ None
