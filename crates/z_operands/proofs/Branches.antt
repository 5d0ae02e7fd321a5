-- The extended mnemonics of branches are no names of rows.
use Rattle.std.proofs.Common.{◌≡◌, ℕ, Bool, true, false, List, Option, Some, None, refl, sym, ap, ◌∙◌}
use Rattle.std.specs.Prelude.{codes, if◌then◌else◌}
use Rattle.std.specs.Str.{bytes_eq}
use Rattle.z_instr.specs.Table.{table}
use Rattle.z_text.proofs.Keys.{bytes_same}
use Rattle.z_operands.specs.Operations.{branch_mask, row_named, directive_named, instruction, extended, or_else}
use Rattle.z_operands.specs.Operations.{operation_named}
use Rattle.z_operands.specs.declared.operation.Operation.{Operation}

-- Where a name is this one, it is no row's; else the rest says so.
unless_named : (name x : List ℕ) (v m : ℕ) (rest : Option ℕ) → row_named x ≡ None →
    (rest ≡ Some m → row_named name ≡ None) →
    (if bytes_eq name x then Some v else rest) ≡ Some m → row_named name ≡ None
unless_named name x v m rest none more e = by_name (bytes_eq name x) refl
  where
    by_name : (b : Bool) → bytes_eq name x ≡ b → row_named name ≡ None
    by_name true t = ap row_named (bytes_same name x t) ∙ none
    by_name false t = more (ap (λ c. if c then Some v else rest) (sym t) ∙ e)

pub no_row : (name : List ℕ) (m : ℕ) → branch_mask name ≡ Some m → row_named name ≡ None
unfolding branch_mask row_named table
no_row name m =
    unless_named name (codes "J") 15 m _ refl (unless_named name (codes "JE") 8 m _ refl
    (unless_named name (codes "JZ") 8 m _ refl (unless_named name (codes "JNE") 7 m _ refl
    (unless_named name (codes "JNZ") 7 m _ refl (unless_named name (codes "JH") 2 m _ refl
    (unless_named name (codes "JP") 2 m _ refl (unless_named name (codes "JL") 4 m _ refl
    (unless_named name (codes "JM") 4 m _ refl (unless_named name (codes "JO") 1 m _ refl
    (unless_named name (codes "JNH") 13 m _ refl (unless_named name (codes "JNL") 11 m _ refl
    (unless_named name (codes "JNO") 14 m _ refl (λ e. absurd cc)))))))))))))

-- The operation of such a name is the branch on condition with its mask.
pub branch_named : (name : List ℕ) (mask : ℕ) (row : Option ℕ) (o : Option Operation) →
    directive_named name ≡ None → branch_mask name ≡ Some mask → row ≡ row_named (codes "BRC") →
    o ≡ instruction row (Some mask) → o ≡ operation_named name
unfolding operation_named
branch_named name mask row o none is there e =
    e ∙ (ap (λ r. instruction r (Some mask)) there
    ∙ sym (ap (λ d. or_else d (or_else (instruction (row_named name) None) (extended name (branch_mask name)))) none
    ∙ (ap (λ r. or_else (instruction r None) (extended name (branch_mask name))) (no_row name mask is)
    ∙ ap (extended name) is)))
