-- What is kept of an attempt, and the constraints that one more instruction would break, by that.
use Rattle.std.specs.Prelude.{◌≡◌, ℕ, ◌+◌, ◌&&◌, not, nat_lt, nat_le, length, List, [], Option, None}
use Rattle.std.specs.List.{list_any}
use Rattle.z_regs.specs.declared.ranges.Range.{Range}
use Rattle.z_instr.specs.declared.instr.Instr.{Instr}
use Rattle.tx_constraint.specs.Operations.{ends, is_permitted, unit_of}
use Rattle.tx_constraint.specs.Bytes.{touches_own_page}
use Rattle.tx_constraint.specs.Octowords.{with_octowords}
use Rattle.tx_constraint.specs.Constraints.{Attempt, octowords, lies_near, is_split, first_of}

-- the address of TBEGINC, how many instructions came after it, and the octowords of their operands
pub record Kept : Type 0 where
  pub begin : ℕ
  pub count : ℕ
  pub octowords : List ℕ

abbrev pub kept : Attempt → Kept
kept a = record { begin = a.begin; count = length a.steps; octowords = octowords a }

-- one more instruction, with these operands
abbrev pub added : Kept → List Range → Kept
added k ranges = record k { count = k.count + 1; octowords = with_octowords k.octowords ranges }

unfoldable pub next_text_breach : Kept → Instr → ℕ → Option ℕ
next_text_breach k i at =
    first_of (nat_le 32 k.count && not (ends i)) 1
    (first_of (not (lies_near k.begin i at)) 2 (first_of (not (is_permitted i)) 3 None))

unfoldable pub next_operand_breach : Kept → Instr → List Range → Option ℕ
next_operand_breach k i ranges =
    first_of (nat_lt 4 (length (with_octowords k.octowords ranges))) 4
    (first_of (list_any (touches_own_page k.begin) ranges) 5
    (first_of (list_any (is_split (unit_of i)) ranges) 7 None))

abbrev pub kept_at : ℕ → Kept
kept_at begin = record { begin = begin; count = 0; octowords = [] }

-- one TBEGINC, and the same octowords
pub record AreSame (k l : Kept) : Type 0 where
  pub begin : k.begin ≡ l.begin
  pub octowords : k.octowords ≡ l.octowords
