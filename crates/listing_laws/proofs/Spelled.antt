-- The operands that the disassembler prints, as words.
use Rattle.std.proofs.Common.{◌≡◌, ℕ, suc, ◌+◌, ◌*◌, ◌<◌, ◌≤◌, ◌^◌, List, []}
use Rattle.std.proofs.Common.{◌∷◌, ◌++◌}
use Rattle.std.proofs.Common.{length, refl, sym, ap, ◌∙◌, subst, arith, length-append, lit<}
use Rattle.std.specs.Prelude.{ℤ, pos, negsuc}
use Rattle.std.specs.List.{prefix_len}
use Rattle.std.specs.Fmt.{decimal, signed_decimal}
use Rattle.std.proofs.lemmas.Fmt.{length-decimal-le}
use lib.Signed.{mag}
use Rattle.z_text.specs.Tokens.{continues_number}
use Rattle.z_list.specs.declared.parts.Operand.{Operand}
use Rattle.z_list.specs.declared.parts.Operand.TheVariants.{Number, Target, Indexed, Based, Counted}
use Rattle.z_list.specs.Operands.{operand_text, further_text, field_text}
use Rattle.z_list.specs.Operands.{target_text}
use Rattle.z_list.proofs.Texts.{based_before, pair_before}
use Rattle.listing_laws.proofs.Words.{Word, text_of, AreCut}
use Rattle.listing_laws.proofs.Lines.{field}
use Rattle.listing_laws.proofs.Numbers.{number, plus, minus, opening, closing, comma, star, number_cut}
use Rattle.listing_laws.proofs.Numbers.{plus_cut, minus_cut, opening_cut, closing_cut, comma_cut, star_cut}

-- the words of an operand before others
abbrev pub signed_then : ℤ → List Word → List Word
signed_then (pos n) ws = number n ∷ ws
signed_then (negsuc n) ws = minus ∷ number (suc n) ∷ ws

abbrev pub target_then : ℤ → List Word → List Word
target_then (pos n) ws = star ∷ plus ∷ number n ∷ ws
target_then (negsuc n) ws = star ∷ minus ∷ number (suc n) ∷ ws

abbrev pub one_then : ℕ → List Word → List Word
one_then b ws = opening ∷ number b ∷ closing ∷ ws

abbrev pub two_then : ℕ → ℕ → List Word → List Word
two_then x b ws = opening ∷ number x ∷ comma ∷ number b ∷ closing ∷ ws

abbrev pub operand_then : Operand → List Word → List Word
operand_then (Number z) ws = signed_then z ws
operand_then (Target z) ws = target_then z ws
operand_then (Indexed d x b) ws = signed_then d (two_then x b ws)
operand_then (Based d b) ws = signed_then d (one_then b ws)
operand_then (Counted d c b) ws = signed_then d (two_then c b ws)

-- operands, each behind a comma; and operands with commas between them
abbrev pub further : List Operand → List Word
further [] = []
further (o ∷ os) = comma ∷ operand_then o (further os)

abbrev pub words_of : List Operand → List Word
words_of [] = []
words_of (o ∷ os) = operand_then o (further os)

-- ---- their numbers are small

abbrev pub IsNear : ℤ → Type 0
IsNear z = mag z < 2 ^ 33

abbrev pub AreFew : Operand → Type 0
AreFew (Number z) = IsNear z
AreFew (Target z) = IsNear z
AreFew (Indexed d x b) = IsNear d × (x < 1000) × (b < 1000)
AreFew (Based d b) = IsNear d × (b < 1000)
AreFew (Counted d c b) = IsNear d × (c < 1000) × (b < 1000)

abbrev pub AreAllFew : List Operand → Type 0
AreAllFew [] = Unit {0}
AreAllFew (o ∷ os) = AreFew o × AreAllFew os

-- ---- their texts

signed_text : (z : ℤ) (ws : List Word) → text_of (signed_then z ws) ≡ signed_decimal z ++ text_of ws
signed_text (pos n) ws = refl
signed_text (negsuc n) ws = refl

target_is : (z : ℤ) (ws : List Word) → text_of (target_then z ws) ≡ target_text z ++ text_of ws
target_is (pos n) ws = refl
target_is (negsuc n) ws = refl

operand_is : (o : Operand) (ws : List Word) → text_of (operand_then o ws) ≡ operand_text o ++ text_of ws
operand_is (Number z) ws = signed_text z ws
operand_is (Target z) ws = target_is z ws
operand_is (Indexed d x b) ws = signed_text d (two_then x b ws) ∙ sym (pair_before d x b (text_of ws))
operand_is (Based d b) ws = signed_text d (one_then b ws) ∙ sym (based_before d b (text_of ws))
operand_is (Counted d c b) ws = signed_text d (two_then c b ws) ∙ sym (pair_before d c b (text_of ws))

further_is : (os : List Operand) → text_of (further os) ≡ further_text os
further_is [] = refl
further_is (o ∷ os) =
    ap (λ (t : List ℕ). 44 ∷ t) (operand_is o (further os)
    ∙ ap (λ (t : List ℕ). operand_text o ++ t) (further_is os))

signed_some : (z : ℤ) (ws : List Word) → field (signed_then z ws) ≡ 32 ∷ text_of (signed_then z ws)
signed_some (pos n) ws = refl
signed_some (negsuc n) ws = refl

operand_some : (o : Operand) (ws : List Word) → field (operand_then o ws) ≡ 32 ∷ text_of (operand_then o ws)
operand_some (Number z) ws = signed_some z ws
operand_some (Target (pos n)) ws = refl
operand_some (Target (negsuc n)) ws = refl
operand_some (Indexed d x b) ws = signed_some d (two_then x b ws)
operand_some (Based d b) ws = signed_some d (one_then b ws)
operand_some (Counted d c b) ws = signed_some d (two_then c b ws)

pub field_is : (os : List Operand) → field (words_of os) ≡ field_text os
field_is [] = refl
field_is (o ∷ os) =
    operand_some o (further os)
    ∙ ap (λ (t : List ℕ). 32 ∷ t) (operand_is o (further os)
    ∙ ap (λ (t : List ℕ). operand_text o ++ t) (further_is os))

-- ---- they are cut as they stand

abbrev pub Stops : List Word → Type 0
Stops ws = prefix_len continues_number (text_of ws) ≡ 0

past_zero : (n : ℕ) → IsNear (negsuc n) → suc n < 10 ^ 10
past_zero n near = let h : n < 2 ^ 33 = near in omega arith

at_zero : (n : ℕ) → IsNear (pos n) → n < 10 ^ 10
at_zero n near = let h : n < 2 ^ 33 = near in omega arith

pub near_fits : (n : ℕ) → n < 10 ^ 10 → n < 2 ^ 64
near_fits n h = omega arith

signed_cut : (z : ℤ) (ws : List Word) → IsNear z → AreCut ws → Stops ws → AreCut (signed_then z ws)
signed_cut (pos n) ws near cut stops = (number_cut n (text_of ws) (near_fits n (at_zero n near)) stops, cut)
signed_cut (negsuc n) ws near cut stops = (
  minus_cut (text_of (number (suc n) ∷ ws)),
  (
    number_cut (suc n) (text_of ws) (near_fits (suc n)
        (past_zero n near)) stops,
    cut,
  ),
)

target_cut : (z : ℤ) (ws : List Word) → IsNear z → AreCut ws → Stops ws → AreCut (target_then z ws)
target_cut (pos n) ws near cut stops = (
  star_cut (text_of (plus ∷ number n ∷ ws)),
  (
    plus_cut (text_of (number n ∷ ws)),
    (number_cut n (text_of ws) (near_fits n (at_zero n near)) stops, cut),
  ),
)
target_cut (negsuc n) ws near cut stops = (
  star_cut (text_of (minus ∷ number (suc n) ∷ ws)),
  (
    minus_cut (text_of (number (suc n) ∷ ws)),
    (number_cut (suc n) (text_of ws) (near_fits (suc n) (past_zero n near)) stops, cut),
  ),
)

few_fits : (n : ℕ) → n < 1000 → n < 2 ^ 64
few_fits n h = omega arith

one_cut : (b : ℕ) (ws : List Word) → b < 1000 → AreCut ws → AreCut (one_then b ws)
one_cut b ws few cut = (
  opening_cut (text_of (number b ∷ closing ∷ ws)),
  (
    number_cut b (text_of (closing ∷ ws)) (few_fits b
        few) refl,
    (closing_cut (text_of ws), cut),
  ),
)

two_cut : (x b : ℕ) (ws : List Word) → x < 1000 → b < 1000 → AreCut ws → AreCut (two_then x b ws)
two_cut x b ws inner few cut = (
  opening_cut (text_of (number x ∷ comma ∷ number b ∷ closing ∷ ws)),
  (
    number_cut x (text_of (comma ∷ number b ∷ closing ∷ ws)) (few_fits x inner) refl,
    (
      comma_cut (text_of (number b ∷ closing ∷ ws)),
      (
        number_cut b (text_of (closing ∷ ws)) (few_fits b few)
            refl,
        (closing_cut (text_of ws), cut),
      ),
    ),
  ),
)

operand_cut : (o : Operand) (ws : List Word) → AreFew o → AreCut ws → Stops ws → AreCut (operand_then o ws)
operand_cut (Number z) ws few cut stops = signed_cut z ws few cut stops
operand_cut (Target z) ws few cut stops = target_cut z ws few cut stops
operand_cut (Indexed d x b) ws few cut stops =
    signed_cut d (two_then x b ws) few.0 (two_cut x b ws few.1 few.2 cut) refl
operand_cut (Based d b) ws few cut stops = signed_cut d (one_then b ws) few.0 (one_cut b ws few.1 cut) refl
operand_cut (Counted d c b) ws few cut stops =
    signed_cut d (two_then c b ws) few.0 (two_cut c b ws few.1 few.2 cut) refl

further_stops : (os : List Operand) → Stops (further os)
further_stops [] = refl
further_stops (o ∷ os) = refl

further_cut : (os : List Operand) → AreAllFew os → AreCut (further os)
further_cut [] few = tt
further_cut (o ∷ os) few = (
  comma_cut (text_of (operand_then o (further os))),
  operand_cut o (further os) few.0 (further_cut os
      few.1) (further_stops os),
)

pub words_cut : (os : List Operand) → AreAllFew os → AreCut (words_of os)
words_cut [] few = tt
words_cut (o ∷ os) few = operand_cut o (further os) few.0 (further_cut os few.1) (further_stops os)

-- ---- they are short

pub near_short : (n : ℕ) → n < 10 ^ 10 → length (decimal n) ≤ 10
near_short n h = length-decimal-le 10 n (lit< tt) h (near_fits n h)

few_short : (n : ℕ) → n < 1000 → length (decimal n) ≤ 3
few_short n h = length-decimal-le 3 n (lit< tt) h (few_fits n h)

signed_short : (z : ℤ) (ws : List Word) → IsNear z
    → length (text_of (signed_then z ws)) ≤ 11 + length (text_of ws)
signed_short (pos n) ws near = omega (
  arith,
  near_short n (at_zero n near),
  length-append (decimal n)
      (text_of ws),
)
signed_short (negsuc n) ws near = omega (
  arith,
  near_short (suc n) (past_zero n near),
  length-append
      (decimal (suc n)) (text_of ws),
)

target_short : (z : ℤ) (ws : List Word) → IsNear z
    → length (text_of (target_then z ws)) ≤ 12 + length (text_of ws)
target_short (pos n) ws near = omega (
  arith,
  near_short n (at_zero n near),
  length-append (decimal n)
      (text_of ws),
)
target_short (negsuc n) ws near = omega (
  arith,
  near_short (suc n) (past_zero n near),
  length-append
      (decimal (suc n)) (text_of ws),
)

one_short : (b : ℕ) (ws : List Word) → b < 1000 → length (text_of (one_then b ws)) ≤ 5 + length (text_of ws)
one_short b ws few = omega (arith, few_short b few, length-append (decimal b) (text_of (closing ∷ ws)))

two_short : (x b : ℕ) (ws : List Word) → x < 1000 → b < 1000
    → length (text_of (two_then x b ws)) ≤ 9 + length (text_of ws)
two_short x b ws inner few =
    omega (
      arith,
      few_short b few,
      length-append (decimal b) (text_of (closing ∷ ws)),
      few_short x inner,
      length-append (decimal x) (text_of (comma ∷ number b ∷ closing ∷ ws)),
    )

operand_short : (o : Operand) (ws : List Word) → AreFew o
    → length (text_of (operand_then o ws)) ≤ 20 + length (text_of ws)
operand_short (Number z) ws few = omega (arith, signed_short z ws few)
operand_short (Target z) ws few = omega (arith, target_short z ws few)
operand_short (Indexed d x b) ws few = omega (
  arith,
  signed_short d (two_then x b ws) few.0,
  two_short x b
      ws few.1 few.2,
)
operand_short (Based d b) ws few = omega (arith, signed_short d (one_then b ws) few.0, one_short b ws few.1)
operand_short (Counted d c b) ws few = omega (
  arith,
  signed_short d (two_then c b ws) few.0,
  two_short c b
      ws few.1 few.2,
)

further_short : (os : List Operand) → AreAllFew os → length (text_of (further os)) ≤ 21 * length os
further_short [] few = omega arith
further_short (o ∷ os) few = omega (arith, operand_short o (further os) few.0, further_short os few.1)

pub field_short : (os : List Operand) → AreAllFew os → length (field (words_of os)) ≤ 21 * length os
field_short [] few = omega arith
field_short (o ∷ os) few =
    subst (λ (t : List ℕ). length t ≤ 21 * length (o ∷ os)) (sym (operand_some o (further os)))
    (omega (arith, operand_short o (further os) few.0, further_short os few.1))
