-- The label and the operation lie in the line.
use Rattle.std.proofs.Common.{◌≡◌, ℕ, ◌+◌, ◌<◌, ◌≤◌, ◌==◌, Bool, true, false, [], ◌∷◌, length, refl, arith}
use Rattle.std.specs.Prelude.{All, if◌then◌else◌}
use Rattle.std.proofs.lemmas.List.Elements.{All-append}
use Rattle.z_text.proofs.Pieces.{All_one}
use Rattle.z_text.specs.Tokens.{head_of, LiesIn}
use Rattle.z_text.specs.declared.fields.Fields.{Fields}
use Rattle.z_text.specs.declared.token.Token.{Token}
use Rattle.z_text.specs.declared.token.TokenKind.TheVariants.{Name}

abbrev operation_of : Fields → Token
operation_of f = record { first = f.operation; end = f.operation_end; kind = Name }

abbrev label_of : Fields → Token
label_of f = record { first = 0; end = f.label_end; kind = Name }

by_label : (n : ℕ) (f : Fields) → f.label_end ≤ 16 → f.label_end ≤ f.operation →
    f.operation < f.operation_end → f.operation_end ≤ f.operation + 16 → f.operation_end ≤ n →
    (b : Bool) → (f.label_end == 0) ≡ b → All (LiesIn n) (if b then operation_of f ∷ [] else label_of f ∷
    operation_of f ∷ []) × (length (if b then operation_of f ∷ [] else label_of f ∷ operation_of f ∷ []) ≤
    f.operation_end)
by_label n f short order some small within true e =
    (All_one (LiesIn n) (operation_of f) (omega arith, omega arith, omega arith), omega arith)
by_label n f short order some small within false e =
    let inked : 0 < f.label_end = grind arith in (
      All-append (LiesIn n) (label_of f ∷ []) (operation_of f ∷
          []) (All_one (LiesIn n) (label_of f) (omega arith, omega arith, omega arith))
          (All_one (LiesIn n) (operation_of f) (omega arith, omega arith, omega arith)),
      omega arith,
    )

pub head_lies : (n : ℕ) (f : Fields) → f.label_end ≤ 16 → f.label_end ≤ f.operation →
    f.operation < f.operation_end → f.operation_end ≤ f.operation + 16 → f.operation_end ≤ n →
    All (LiesIn n) (head_of f) × (length (head_of f) ≤ f.operation_end)
head_lies n f short order some small within =
    by_label n f short order some small within (f.label_end == 0) refl
