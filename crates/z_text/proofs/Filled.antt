-- Tokens lie end to end over the operands.
use Rattle.std.proofs.Common.{◌≡◌, ℕ, zero, suc, ◌+◌, ◌-◌, ◌<◌, ◌≤◌, Bool, true, false, List, [], ◌∷◌, ◌++◌}
use Rattle.std.proofs.Common.{length, drop, Option, Some, None, map, length-drop, refl, sym, ◌∙◌, subst}
use Rattle.std.proofs.Common.{arith}
use Rattle.std.specs.Prelude.{Result, Ok, Err, nat_lt, if◌then◌else◌}
use Rattle.std.specs.List.{list_any, list_all}
use Rattle.std.proofs.lemmas.List.{length-take}
use Rattle.std.proofs.lemmas.List.Sums.{prefix_len-le-length}
use Rattle.z_text.specs.declared.token.TextFault.TheVariants.{BadNumber, LineTooLong}
use Rattle.z_text.specs.Line.{as_read, fields_of, is_blank, is_inked, is_letter_or_digit, past}
use Rattle.z_text.specs.Line.{keeps_operands_whole, says_nothing, span}
use Rattle.z_text.specs.Tokens.{behind, continues_number, FillFrom, FillOperands, has_bad_head}
use Rattle.z_text.specs.Tokens.{head_of, is_bad, is_good_number, kind_at, operands_of, pieces, pieces_of}
use Rattle.z_text.specs.Tokens.{size_at, size_for, split_of, token_of, tokens_of, with_numbers}
use Rattle.z_text.specs.declared.fields.Fields.{Fields}
use Rattle.z_text.specs.declared.token.TextFault.{TextFault}
use Rattle.z_text.specs.declared.token.Token.{Token}
use Rattle.z_text.specs.declared.token.TokenKind.{TokenKind}
use Rattle.z_text.specs.declared.token.TokenKind.TheVariants.{Name, Number, Hex, Sign, Open, Close, Comma}
use Rattle.z_text.specs.declared.token.TokenKind.TheVariants.{Star}

size_fits : (o : Option TokenKind) (b : ℕ) (bs : List ℕ) →
    (0 < size_for o (b ∷ bs)) × (size_for o (b ∷ bs) ≤ 1 + length bs)
size_fits (Some Number) b bs = (omega arith, omega (arith, prefix_len-le-length continues_number bs))
size_fits (Some Hex) b bs = (omega arith, omega (arith, prefix_len-le-length continues_number bs))
size_fits (Some Name) b bs = (omega arith, omega (arith, prefix_len-le-length is_letter_or_digit bs))
size_fits (Some Sign) b bs = (omega arith, omega arith)
size_fits (Some Open) b bs = (omega arith, omega arith)
size_fits (Some Close) b bs = (omega arith, omega arith)
size_fits (Some Comma) b bs = (omega arith, omega arith)
size_fits (Some Star) b bs = (omega arith, omega arith)
size_fits None b bs = (omega arith, omega arith)

pieces_fill : (k at : ℕ) (bs : List ℕ) → k ≤ length bs →
    FillFrom (at + k) (map token_of (pieces k at bs)) (at + length bs)
unfolding pieces
pieces_fill zero at [] fits = refl
pieces_fill (suc k) at [] fits = absurd (omega arith)
pieces_fill (suc k) at (b ∷ bs) fits =
    let rest = pieces_fill k (at + 1) bs (omega arith) in
    let first : (at + 1) + k ≡ at + suc k = omega arith in
    let end : (at + 1) + length bs ≡ at + length (b ∷ bs) = omega arith in
    subst (λ e. FillFrom (at + suc k) (map token_of (pieces k (at + 1) bs)) e) end
    (subst (λ f. FillFrom f (map token_of (pieces k (at + 1) bs)) ((at + 1) + length bs)) first rest)
pieces_fill zero at (b ∷ bs) fits =
    let size = size_fits (kind_at (b ∷ bs)) b bs in
    let n : ℕ = size_at (b ∷ bs) in
    let rest = pieces_fill (n - 1) (at + 1) bs (omega (arith, size.1)) in
    let first : (at + 1) + (n - 1) ≡ at + n = omega (arith, size.0) in
    let end : (at + 1) + length bs ≡ at + length (b ∷ bs) = omega arith in
    let here : at ≡ at + 0 = omega arith in (
      here,
      subst (λ e. FillFrom (at + n) (map token_of (pieces (n - 1) (at + 1) bs)) e) end
          (subst (λ f. FillFrom f (map token_of (pieces (n - 1) (at + 1) bs))
          ((at + 1) + length bs)) first rest),
    )

places_fill : (line : List ℕ) (first end : ℕ) → first ≤ end → end ≤ length line →
    FillFrom first (map token_of (pieces_of first end line)) end
places_fill line first end order fits =
    let filled = pieces_fill 0 first (span first end line) (omega arith) in
    let size : length (span first end line) ≡ end - first = simp (length-take, length-drop) (omega arith) in
    let begin : first + 0 ≡ first = omega arith in
    let over : first + length (span first end line) ≡ end = omega (arith, size) in
    subst (λ e. FillFrom first (map token_of (pieces_of first end line)) e) over
    (subst (λ f. FillFrom f (map token_of (pieces_of first end line))
    (first + length (span first end line))) begin filled)

past_fits : (p : ℕ → Bool) (at : ℕ) (line : List ℕ) → at ≤ length line → past p at line ≤ length line
past_fits p at line h = omega (arith, prefix_len-le-length p (drop at line), length-drop at line)

fields_fit : (line : List ℕ) → ((fields_of line).operands ≤ (fields_of line).operands_end) ×
    ((fields_of line).operands_end ≤ length line)
unfolding fields_of
fields_fit line =
    let label = past_fits is_inked 0 line (omega arith) in
    let operation = past_fits is_blank _ line label in
    let operation_end = past_fits is_inked _ line operation in
    let operands = past_fits is_blank _ line operation_end in
    (omega arith, past_fits is_inked _ line operands)

by_parts : (bad worse : Bool) (head us ts : List Token) →
    (if bad then None else behind head (if worse then None else Some us)) ≡ Some ts → ts ≡ head ++ us
by_parts true worse head us ts e = cc
by_parts false true head us ts e = cc
by_parts false false head us ts e = cc

split_has : (line : List ℕ) (ts : List Token) → says_nothing line ≡ false →
    keeps_operands_whole (span (fields_of line).operation (fields_of line).operation_end line) ≡ false →
    split_of line ≡ Some ts →
    ts ≡ head_of (fields_of line) ++
    map token_of (pieces_of (fields_of line).operands (fields_of line).operands_end line)
unfolding split_of operands_of
split_has line ts speaks splits e =
    let f : Fields = fields_of line in
    let us : List Token = map token_of (pieces_of f.operands f.operands_end line) in
    let shape : split_of line ≡ (if has_bad_head line f then None
    else behind (head_of f) (if list_any is_bad (pieces_of f.operands f.operands_end line) then None
    else Some us)) = rw (speaks, splits) refl in
    by_parts (has_bad_head line f) (list_any is_bad (pieces_of f.operands f.operands_end line))
    (head_of f) us ts (sym shape ∙ e)

numbered : (text : List ℕ) (o : Option (List Token)) (ts : List Token) → with_numbers text o ≡ Ok ts →
    o ≡ Some ts
numbered text None ts e = cc
numbered text (Some us) ts e = by_test (list_all (is_good_number text) us) us ts e
  where
    by_test : (b : Bool) (us ts : List Token) → (let given : Result (List Token) TextFault =
        if b then Ok us else Err BadNumber in given) ≡ Ok ts → Some us ≡ Some ts
    by_test true us ts e = cc
    by_test false us ts e = cc

has_tokens : (text : List ℕ) (ts : List Token) → tokens_of text ≡ Ok ts → split_of (as_read text) ≡ Some ts
unfolding tokens_of
has_tokens text ts e = by_length (nat_lt 120 (length text)) e
  where
    by_length : (b : Bool) → (let given : Result (List Token) TextFault = if b then Err LineTooLong
        else with_numbers text (split_of (as_read text)) in given) ≡ Ok ts → split_of (as_read text) ≡ Some ts
    by_length true e = cc
    by_length false e = numbered text _ ts e

pub filled : (text : List ℕ) (ts : List Token) → tokens_of text ≡ Ok ts → FillOperands (as_read text) ts
filled text ts given = λ speaks splits.
    let line : List ℕ = as_read text in
    let f : Fields = fields_of line in
    let fit = fields_fit line in (
      map token_of (pieces_of f.operands f.operands_end line),
      split_has line ts speaks splits (has_tokens text ts given),
      places_fill line f.operands f.operands_end fit.0 fit.1,
    )
