-- The values of expressions, over any table of labels.
use Rattle.std.specs.Prelude.{ℕ, ℤ, pos, Bool, false, List, [], ◌∷◌, Option, Some, None, option_map, Result}
use Rattle.std.specs.Prelude.{Ok, Err, slice_index, ◌==◌, if◌then◌else◌}
use Rattle.z_text.specs.Expressions.{add, signed, is_sign}
use Rattle.z_text.specs.Line.{as_read, span}
use Rattle.z_text.specs.Numbers.{number_of}
use Rattle.z_text.specs.declared.token.ExprFault.{ExprFault}
use Rattle.z_text.specs.declared.token.Token.{Token}
use Rattle.z_text.specs.declared.token.TokenKind.{TokenKind}
use Rattle.z_text.specs.declared.token.TokenKind.TheVariants.{Name, Number, Hex, Star}
use Rattle.z_operands.specs.Operands.{operands_of}
use Rattle.z_fields.specs.declared.fault.Kind.{Kind}
use Rattle.z_fields.specs.declared.fault.Kind.TheVariants.{BadDirective, UnknownLabel}
use Rattle.z_operands.specs.declared.operand.Operand.{Operand}
use Rattle.z_operands.specs.declared.operand.Operand.TheVariants.{Plain}

-- the value of each label that has one
abbrev pub Table : Type 0
Table = List ℕ → Option ℤ

-- the value of a term: a number, a label, or an asterisk for the location
abbrev pub value_of_term : TokenKind → List ℕ → Table → ℕ → Option ℤ
value_of_term Number text labels here = option_map pos (number_of Number text)
value_of_term Hex text labels here = option_map pos (number_of Hex text)
value_of_term Name text labels here = labels (as_read text)
value_of_term Star text labels here = Some (pos here)
value_of_term _ text labels here = None

-- The exact sum of the terms among these tokens, each with the sign before it. `negative`: a minus stood
-- before the first.
unfoldable pub sum_in : List ℕ → Table → ℕ → Bool → List Token → Option ℤ
sum_in text labels here negative [] = Some (pos 0)
sum_in text labels here negative (t ∷ ts) =
    if is_sign t.kind then sum_in text labels here (slice_index text t.first == 45) ts
    else add (signed negative (value_of_term t.kind (span t.first t.end text) labels here))
    (sum_in text labels here false ts)

-- the value of an expression in a text, if its labels have values
abbrev pub value_in_line : List ℕ → Table → ℕ → List Token → Option ℤ
value_in_line text labels here ts = sum_in text labels here false ts

-- ---- the operands of directives

-- operands, or this kind of fault where they have no form at all
abbrev pub wanted : Kind → Option (List Operand) → Result (List Operand) Kind
wanted malformed None = Err malformed
wanted malformed (Some os) = Ok os

-- the operands that tokens are
abbrev pub operands_on : Kind → List ℕ → Table → ℕ → List Token → Result (List Operand) Kind
operands_on malformed line labels here ts = wanted malformed (operands_of (value_in_line line labels here) ts)

abbrev pub one_value : Option ℤ → Result ℤ Kind
one_value None = Err UnknownLabel
one_value (Some v) = Ok v

-- one expression: its value, or what is wrong, its form before its labels
abbrev pub one_in : List Operand → Result ℤ Kind
one_in (Plain a ∷ []) = one_value a
one_in _ = Err BadDirective

abbrev pub two_values : Option ℤ → Option ℤ → Result (ℤ × ℤ) Kind
two_values (Some a) (Some b) = Ok (a, b)
two_values _ _ = Err UnknownLabel

abbrev pub two_in : List Operand → Result (ℤ × ℤ) Kind
two_in (Plain a ∷ Plain b ∷ []) = two_values a b
two_in _ = Err BadDirective

abbrev pub three_values : Option ℤ → Option ℤ → Option ℤ → Result (ℤ × ℤ × ℤ) Kind
three_values (Some a) (Some b) (Some c) = Ok (a, b, c)
three_values _ _ _ = Err UnknownLabel

abbrev pub three_in : List Operand → Result (ℤ × ℤ × ℤ) Kind
three_in (Plain a ∷ Plain b ∷ Plain c ∷ []) = three_values a b c
three_in _ = Err BadDirective

abbrev pub value_there : Result (ℤ × ℕ) ExprFault → Option ℤ
value_there (Ok r) = Some r.0
value_there (Err e) = None
