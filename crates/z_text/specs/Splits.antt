-- What the scan of operands leaves behind the tokens that it was given.
use Rattle.std.specs.Prelude.{◌≡◌, ℕ, ◌≤◌, true, false, List, ◌++◌, length, map, Option, Some, None, Result}
use Rattle.std.specs.Prelude.{Ok, Err, All}
use Rattle.std.specs.List.{list_any}
use Rattle.z_text.specs.Tokens.{Piece, token_of, is_bad, LiesIn, head_of, behind}
use Rattle.z_text.specs.declared.fields.Fields.{Fields}
use Rattle.z_text.specs.declared.token.Token.{Token}
use Rattle.z_text.specs.declared.token.TextFault.{TextFault}
use Rattle.z_text.specs.declared.token.TextFault.TheVariants.{Memory, LineTooLong, BadToken, BadNumber}

-- The pieces are pushed where none is bad; all tokens lie in the line, and there are no more than bytes up to
-- `end`.
abbrev pub Splits : ℕ → ℕ → List Token → List Token → List Piece → Result (Unit {0}) TextFault → Type 0
Splits n end old new ps (Ok _) =
    (list_any is_bad ps ≡ false) × (new ≡ old ++ map token_of ps) × All (LiesIn n) new × (length new ≤ end)
Splits n end old new ps (Err Memory) = Unit {0}
Splits n end old new ps (Err BadToken) = list_any is_bad ps ≡ true
Splits n end old new ps (Err LineTooLong) = ⊥
Splits n end old new ps (Err BadNumber) = ⊥

-- The label and the operation are there, unless memory ran out.
abbrev pub HasHead : Fields → List Token → Result (Unit {0}) TextFault → Type 0
HasHead f new (Ok _) = new ≡ head_of f
HasHead f new (Err e) = e ≡ Memory

-- The tokens of the operands are pushed, where they have some.
abbrev pub HasOperands : ℕ → List Token → List Token → Option (List Token) → Result (Unit {0}) TextFault →
    Type 0
HasOperands n old new given (Ok _) = (behind old given ≡ Some new) × All (LiesIn n) new × (length new ≤ n)
HasOperands n old new given (Err Memory) = Unit {0}
HasOperands n old new given (Err BadToken) = given ≡ None
HasOperands n old new given (Err LineTooLong) = ⊥
HasOperands n old new given (Err BadNumber) = ⊥

-- These are the tokens of the line, where it has some.
abbrev pub GivesSplit : ℕ → Option (List Token) → List Token → Result (Unit {0}) TextFault → Type 0
GivesSplit n given new (Ok _) = (given ≡ Some new) × All (LiesIn n) new × (length new ≤ n)
GivesSplit n given new (Err Memory) = Unit {0}
GivesSplit n given new (Err BadToken) = given ≡ None
GivesSplit n given new (Err LineTooLong) = ⊥
GivesSplit n given new (Err BadNumber) = ⊥
