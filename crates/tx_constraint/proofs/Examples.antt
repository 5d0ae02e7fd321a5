-- Worked values of the definitions.
use Rattle.std.proofs.Common.{◌≡◌, ℕ, true, false, [], ◌∷◌, map, refl}
use Rattle.std.specs.Prelude.{codes, filter}
use Rattle.z_regs.specs.declared.ranges.Range.{Range}
use Rattle.z_instr.specs.Roles.{is_relative_branch}
use Rattle.z_instr.specs.Table.{Entry, table}
use Rattle.tx_constraint.specs.Operations.{is_multiple}
use Rattle.tx_constraint.specs.Bytes.{lies_in_one, touches_own_page}
use Rattle.tx_constraint.specs.Octowords.{with_octowords}

abbrev operand : ℕ → ℕ → Range
operand first length = record { first = first; length = length; store = false }

-- the operations on several registers
multiple : map (λ (e : Entry). e.name) (filter (λ e. is_multiple e.operands) table) ≡ codes "STM" ∷
    codes "LM" ∷ codes "LMG" ∷ codes "STMG" ∷ []
unfolding table
multiple = refl

-- the branches with a target
branches : map (λ (e : Entry). e.name) (filter is_relative_branch table) ≡ codes "BRC" ∷ codes "BRAS" ∷
    codes "BRCT" ∷ codes "BRCTG" ∷ codes "BRCL" ∷ codes "BRASL" ∷ codes "CGRJ" ∷ codes "CLGRJ" ∷
    codes "CRJ" ∷ codes "CGIJ" ∷ []
unfolding table
branches = refl

-- a doubleword across the boundary of an octoword, and one before it; the second octoword comes once
octowords : with_octowords [] (operand 0x901C 8 ∷ operand 0x8FF8 8 ∷ operand 0x9020 32 ∷ []) ≡ 0x47F ∷ 0x480 ∷
    0x481 ∷ []
unfolding with_octowords
octowords = refl

within : lies_in_one 8 (operand 0x9008 8) ≡ true
within = refl

across : lies_in_one 8 (operand 0x9009 8) ≡ false
across = refl

-- 256 bytes from 4F02 on end in the next page, 256 bytes from 4F00 on do not
next_page : touches_own_page 0x4F02 (operand 0x5800 8) ≡ true
next_page = refl

one_page : touches_own_page 0x4F00 (operand 0x5800 8) ≡ false
one_page = refl
