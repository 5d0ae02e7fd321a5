-- Expressions: a term or a signed term, and signed terms behind it.
use Rattle.std.specs.Prelude.{◌≡◌, ℕ, ◌+◌, ◌-◌, ◌^◌, ◌<◌, ◌≤◌, ℤ, pos, negsuc, ◌+ℤ◌, ◌-ℤ◌, ◌≤ℤ◌, Bool, true}
use Rattle.std.specs.Prelude.{false, ◌&&◌, List, [], ◌∷◌, length, take, drop, Option, Some, None, is_none}
use Rattle.std.specs.Prelude.{option_map, Result, Ok, Err, ◌==◌, if◌then◌else◌, slice_index}
use Rattle.std.specs.List.{list_any}
use Rattle.z_text.specs.Labels.{value_in}
use Rattle.z_text.specs.Line.{as_read, span}
use Rattle.z_text.specs.Numbers.{number_of}
use Rattle.z_text.specs.declared.running.RunningSum.{RunningSum}
use Rattle.z_text.specs.declared.labels.Labels.{Labels}
use Rattle.z_text.specs.declared.token.ExprFault.{ExprFault}
use Rattle.z_text.specs.declared.token.ExprFault.TheVariants.{BadToken, UnknownLabel}
use Rattle.z_text.specs.declared.token.Token.{Token}
use Rattle.z_text.specs.declared.token.TokenKind.{TokenKind}
use Rattle.z_text.specs.declared.token.TokenKind.TheVariants.{Name, Number, Hex, Sign, Star}

abbrev pub is_sign : TokenKind → Bool
is_sign Sign = true
is_sign _ = false

-- a number, a label, or an asterisk for the location
abbrev pub is_term : TokenKind → Bool
is_term Name = true
is_term Number = true
is_term Hex = true
is_term Star = true
is_term _ = false

abbrev pub begins_term : List Token → Bool
begins_term [] = false
begins_term (t ∷ ts) = is_term t.kind

abbrev pub begins_signed_term : List Token → Bool
begins_signed_term [] = false
begins_signed_term (s ∷ ts) = is_sign s.kind && begins_term ts

-- how many tokens the signed terms at the front are
unfoldable pub signed_terms_size : List Token → ℕ
signed_terms_size (s ∷ t ∷ ts) = if is_sign s.kind && is_term t.kind then 2 + signed_terms_size ts else 0
signed_terms_size _ = 0

-- how many tokens the longest expression at the front has, 0 where none begins
unfoldable pub expression_size : List Token → ℕ
expression_size ts = if begins_term ts then 1 + signed_terms_size (drop 1 ts) else signed_terms_size ts

-- the place after the longest expression at a place
abbrev pub end_after : ℕ → ℕ → Option ℕ
end_after at size = if size == 0 then None else Some (at + size)

abbrev pub end_of : List Token → ℕ → Option ℕ
end_of ts at = end_after at (expression_size (drop at ts))

-- The grammar, apart from sizes: signed terms and nothing else,
abbrev pub are_signed_terms : List Token → Bool
are_signed_terms [] = true
are_signed_terms (s ∷ []) = false
are_signed_terms (s ∷ t ∷ ts) = (is_sign s.kind && is_term t.kind) && are_signed_terms ts

-- and an expression: a term or a signed term, and signed terms.
abbrev pub is_expression : List Token → Bool
is_expression [] = false
is_expression (t ∷ ts) = if is_term t.kind then are_signed_terms ts else are_signed_terms (t ∷ ts)

-- the tokens from one place to another
abbrev pub part : ℕ → ℕ → List Token → List Token
part first end ts = take (end - first) (drop first ts)

-- No tokens from this place are an expression, or those to the end are one, and no more of them are.
abbrev pub IsLongest : List Token → ℕ → Option ℕ → Type 0
IsLongest ts at None = (end : ℕ) → end ≤ length ts → is_expression (part at end ts) ≡ false
IsLongest ts at (Some end) = (is_expression (part at end ts) ≡ true) × ((longer : ℕ) → end < longer →
    longer ≤ length ts → is_expression (part at longer ts) ≡ false)

-- the value of a term, if it has one: a label may have none
abbrev pub value_of_kind : TokenKind → List ℕ → Labels → ℕ → Option ℤ
value_of_kind Number text labels here = option_map pos (number_of Number text)
value_of_kind Hex text labels here = option_map pos (number_of Hex text)
value_of_kind Name text labels here = value_in labels (as_read text)
value_of_kind Star text labels here = Some (pos here)
value_of_kind _ text labels here = None

unfoldable pub term_value : List ℕ → Labels → ℕ → Token → Option ℤ
term_value text labels here t = value_of_kind t.kind (span t.first t.end text) labels here

abbrev pub signed : Bool → Option ℤ → Option ℤ
signed negative None = None
signed negative (Some v) = Some (if negative then pos 0 -ℤ v else v)

-- the sum of two values, where there are both
abbrev pub add : Option ℤ → Option ℤ → Option ℤ
add (Some a) (Some b) = Some (a +ℤ b)
add _ _ = None

-- The exact sum of the terms among these tokens, each with the sign before it. `negative`: a minus stood
-- before the first.
unfoldable pub sum_of : List ℕ → Labels → ℕ → Bool → List Token → Option ℤ
sum_of text labels here negative [] = Some (pos 0)
sum_of text labels here negative (t ∷ ts) =
    if is_sign t.kind then sum_of text labels here (slice_index text t.first == 45) ts
    else add (signed negative (term_value text labels here t)) (sum_of text labels here false ts)

abbrev pub with_value : Option ℤ → ℕ → Result (ℤ × ℕ) ExprFault
with_value None end = Err UnknownLabel
with_value (Some v) end = Ok (v, end)

abbrev pub value_to : List ℕ → List Token → ℕ → Labels → ℕ → Option ℕ → Result (ℤ × ℕ) ExprFault
value_to text ts at labels here None = Err BadToken
value_to text ts at labels here (Some end) =
    with_value (sum_of text labels here false (take (end - at) (drop at ts))) end

-- the value of the longest expression at a place, and the place after it
unfoldable pub expression_of : List ℕ → List Token → ℕ → Labels → ℕ → Result (ℤ × ℕ) ExprFault
expression_of text ts at labels here = value_to text ts at labels here (end_of ts at)

abbrev pub is_label : TokenKind → Bool
is_label Name = true
is_label _ = false

-- The token is a label without a value.
abbrev pub lacks_value : List ℕ → Labels → Token → Bool
lacks_value text labels t = is_label t.kind && is_none (value_in labels (as_read (span t.first t.end text)))

-- A value comes where there is an expression and each of its labels has a value, and each fault where it has
-- its cause.
abbrev pub HasCause : List ℕ → List Token → ℕ → Labels → Result (ℤ × ℕ) ExprFault → Type 0
HasCause text ts at labels (Ok r) =
    (end_of ts at ≡ Some r.1) × (list_any (lacks_value text labels) (part at r.1 ts) ≡ false)
HasCause text ts at labels (Err BadToken) = end_of ts at ≡ None
HasCause text ts at labels (Err UnknownLabel) =
    (end : ℕ) × (end_of ts at ≡ Some end) × (list_any (lacks_value text labels) (part at end ts) ≡ true)

-- from -2 ^ 64 to 2 ^ 64
abbrev pub IsNear : ℤ → Type 0
IsNear v = (negsuc (2 ^ 64 - 1) ≤ℤ v) × (v ≤ℤ pos (2 ^ 64))

-- the sum so far with the sum of the tokens behind it
abbrev pub total : List ℕ → Labels → ℕ → RunningSum → List Token → Option ℤ
total text labels here s ts = add (Some s.value) (sum_of text labels here s.negative ts)

abbrev pub total_after : List ℕ → Labels → ℕ → Option RunningSum → List Token → Option ℤ
total_after text labels here None ts = None
total_after text labels here (Some s) ts = total text labels here s ts
