-- Words that stand end to end, and the tokens that they are cut into.
use Rattle.std.proofs.Common.{◌≡◌, ℕ, suc, ◌+◌, ◌-◌, ◌<◌, Bool, true, false, not, ◌||◌}
use Rattle.std.proofs.Common.{List, [], ◌∷◌, ◌++◌}
use Rattle.std.proofs.Common.{length, take, drop, map, Option, Some, is_some, refl, sym, ap}
use Rattle.std.proofs.Common.{ap₂, ◌∙◌}
use Rattle.std.proofs.Common.{arith, append_assoc, add-zero, length-append}
use Rattle.std.specs.Prelude.{nat_lt, slice_index, ◌==◌}
use Rattle.std.specs.List.{list_all, list_any}
use Rattle.std.specs.Char.{to_ascii_uppercase}
use Rattle.std.proofs.lemmas.List.{take_at, drop_at}
use Rattle.std.proofs.lemmas.Bool.{and_parts, and_from}
use Rattle.z_text.specs.Line.{span}
use Rattle.z_text.specs.Numbers.{number_of}
use Rattle.z_text.specs.Tokens.{kind_at, size_for, Piece, pieces, is_bad_piece, is_bad}
use Rattle.z_text.specs.Tokens.{token_of}
use Rattle.z_text.specs.Tokens.{is_numeric, is_good_number}
use Rattle.z_text.specs.declared.token.Token.{Token}
use Rattle.z_text.specs.declared.token.TokenKind.{TokenKind}

pub record Word : Type 0 where
  pub kind : TokenKind
  pub text : List ℕ

abbrev pub word : TokenKind → List ℕ → Word
word kind text = record { kind = kind; text = text }

-- the bytes of words, and their tokens and pieces from a place on
abbrev pub text_of : List Word → List ℕ
text_of [] = []
text_of (w ∷ ws) = w.text ++ text_of ws

abbrev pub tokens_for : ℕ → List Word → List Token
tokens_for at [] = []
tokens_for at (w ∷ ws) =
    record { first = at; end = at + length w.text; kind = w.kind } ∷ tokens_for (at + length w.text) ws

abbrev pub pieces_for : ℕ → List Word → List Piece
pieces_for at [] = []
pieces_for at (w ∷ ws) =
    record { first = at; size = length w.text; kind = Some w.kind } ∷ pieces_for (at + length w.text) ws

-- the word is cut as it stands where these bytes follow it, and is neither a bad token nor a bad number
pub record IsCut (w : Word) (rest : List ℕ) : Type 0 where
  pub some : 0 < length w.text
  pub kind : kind_at (w.text ++ rest) ≡ Some w.kind
  pub size : size_for (Some w.kind) (w.text ++ rest) ≡ length w.text
  pub fair : is_bad_piece (Some w.kind) (length w.text) ≡ false
  pub number : (not (is_numeric w.kind) || is_some (number_of w.kind w.text)) ≡ true
  pub capital : map to_ascii_uppercase w.text ≡ w.text
  pub inked : list_all (λ b. not (b == 32)) w.text ≡ true
  pub visible : list_all (λ b. nat_lt 31 b) w.text ≡ true

abbrev pub AreCut : List Word → Type 0
AreCut [] = Unit {0}
AreCut (w ∷ ws) = IsCut w (text_of ws) × AreCut ws

-- ---- pieces

pieces_skip : (bs rest : List ℕ) (at : ℕ)
    → pieces (length bs) at (bs ++ rest) ≡ pieces 0 (at + length bs) rest
unfolding pieces
pieces_skip [] rest at = ap (λ n. pieces 0 n rest) (sym (add-zero at))
pieces_skip (b ∷ bs) rest at =
    let e : at + 1 + length bs ≡ at + suc (length bs) = omega arith in
    pieces_skip bs rest (at + 1) ∙ ap (λ n. pieces 0 n rest) e

-- the first piece where its kind and size are known
piece_front : (b : ℕ) (bs rest : List ℕ) (at : ℕ) (k : TokenKind) → kind_at (b ∷ (bs ++ rest)) ≡ Some k
    → size_for (Some k) (b ∷ (bs ++ rest)) ≡ suc (length bs)
    → pieces 0 at (b ∷ (bs ++ rest))
    ≡ record { first = at; size = suc (length bs); kind = Some k } ∷ pieces 0 (at + suc (length bs)) rest
unfolding pieces
piece_front b bs rest at k kind size =
    let all = b ∷ (bs ++ rest) in
    let e : at + 1 + length bs ≡ at + suc (length bs) = omega arith in
    let less : suc (length bs) - 1 ≡ length bs = omega arith in
    ap (λ (o : Option TokenKind). record { first = at; size = size_for o all; kind = o } ∷ pieces (size_for
    o all - 1) (at + 1) (bs ++ rest)) kind
    ∙ ap (λ (n : ℕ). record { first = at; size = n; kind = Some k } ∷ pieces (n - 1) (at + 1) (bs
    ++ rest)) size
    ∙ ap (λ (ps : List Piece). record { first = at; size = suc (length bs); kind = Some k } ∷ ps)
    (ap (λ n. pieces n (at + 1) (bs ++ rest)) less ∙ pieces_skip bs rest (at + 1)
    ∙ ap (λ n. pieces 0 n rest) e)

piece_word : (t rest : List ℕ) (at : ℕ) (k : TokenKind) → 0 < length t → kind_at (t ++ rest) ≡ Some k
    → size_for (Some k) (t ++ rest) ≡ length t
    → pieces 0 at (t ++ rest) ≡ record { first = at; size = length t; kind = Some k } ∷ pieces 0 (at +
    length t) rest
piece_word [] rest at k some kind size = absurd (omega arith)
piece_word (b ∷ bs) rest at k some kind size = piece_front b bs rest at k kind size

pub pieces_are : (ws : List Word) (at : ℕ) → AreCut ws → pieces 0 at (text_of ws) ≡ pieces_for at ws
unfolding pieces
pieces_are [] at cut = refl
pieces_are (w ∷ ws) at cut =
    piece_word w.text (text_of ws) at w.kind cut.0.some cut.0.kind cut.0.size
    ∙ ap (λ (ps : List Piece). record { first = at; size = length w.text; kind = Some w.kind } ∷ ps)
    (pieces_are ws (at + length w.text) cut.1)

pub tokens_are : (ws : List Word) (at : ℕ) → map token_of (pieces_for at ws) ≡ tokens_for at ws
tokens_are [] at = refl
tokens_are (w ∷ ws) at =
    ap (λ (ts : List Token). record { first = at; end = at + length w.text; kind = w.kind } ∷ ts)
    (tokens_are ws (at + length w.text))

pub none_bad : (ws : List Word) (at : ℕ) → AreCut ws → list_any is_bad (pieces_for at ws) ≡ false
none_bad [] at cut = refl
none_bad (w ∷ ws) at cut =
    ap (λ b. b || list_any is_bad (pieces_for (at + length w.text) ws)) cut.0.fair
    ∙ none_bad ws (at + length w.text) cut.1

-- ---- where words stand in a line

-- the words stand in the line from a place on
abbrev pub Lie : List ℕ → ℕ → List Word → Type 0
Lie line at [] = Unit {0}
Lie line at (w ∷ ws) =
    (span at (at + length w.text) line ≡ w.text) × (slice_index line at ≡ slice_index w.text 0)
    × Lie line (at + length w.text) ws

pub span_is : (front text rest line : List ℕ) (at end : ℕ) → at ≡ length front → end ≡ at + length text
    → line ≡ front ++ (text ++ rest) → span at end line ≡ text
span_is front text rest line at end starts ends is =
    let size : end - at ≡ length text = omega arith in
    ap (λ (l : List ℕ). take (end - at) (drop at l)) is
    ∙ ap (take (end - at)) (drop_at front (text ++ rest) at (sym starts))
    ∙ take_at text rest (end - at) (sym size)

first_is : (front text rest : List ℕ) → 0 < length text
    → slice_index (front ++ (text ++ rest)) (length front) ≡ slice_index text 0
first_is [] [] rest some = absurd (omega arith)
first_is [] (b ∷ bs) rest some = refl
first_is (c ∷ front) text rest some = first_is front text rest some

pub they_lie : (ws : List Word) (front line : List ℕ) (at : ℕ) → AreCut ws → at ≡ length front
    → line ≡ front ++ text_of ws → Lie line at ws
they_lie [] front line at cut starts is = tt
they_lie (w ∷ ws) front line at cut starts is =
    let more : at + length w.text ≡ length (front ++ w.text) = omega (arith, length-append front w.text) in (
      span_is front w.text (text_of ws) line at (at + length w.text) starts refl is,
      ap₂ (λ (l : List ℕ) (k : ℕ). slice_index l k) is starts
          ∙ first_is front w.text (text_of ws) cut.0.some,
      they_lie ws (front ++ w.text) line (at + length w.text) cut.1 more (is
          ∙ sym (append_assoc front w.text (text_of ws))),
    )

pub good_numbers : (ws : List Word) (line : List ℕ) (at : ℕ) → AreCut ws → Lie line at ws
    → list_all (is_good_number line) (tokens_for at ws) ≡ true
unfolding is_good_number
good_numbers [] line at cut lie = refl
good_numbers (w ∷ ws) line at cut lie =
    and_from _ _
    (ap (λ (t : List ℕ). not (is_numeric w.kind) || is_some (number_of w.kind t)) lie.0 ∙ cut.0.number)
    (good_numbers ws line (at + length w.text) cut.1 lie.2)

-- ---- words in capitals, and without blanks

pub map_over : (f : ℕ → ℕ) (xs ys : List ℕ) → map f xs ≡ xs → map f ys ≡ ys → map f (xs ++ ys) ≡ xs ++ ys
map_over f [] ys e k = k
map_over f (x ∷ xs) ys e k =
    let head : f x ≡ x = cc in
    let tail : map f xs ≡ xs = cc in
    ap₂ (λ (b : ℕ) (bs : List ℕ). b ∷ bs) head (map_over f xs ys tail k)

pub all_capital : (ws : List Word) → AreCut ws → map to_ascii_uppercase (text_of ws) ≡ text_of ws
all_capital [] cut = refl
all_capital (w ∷ ws) cut = map_over to_ascii_uppercase w.text (text_of ws) cut.0.capital (all_capital ws
    cut.1)

pub all_over : (p : ℕ → Bool) (xs ys : List ℕ) → list_all p xs ≡ true → list_all p ys ≡ true
    → list_all p (xs ++ ys) ≡ true
all_over p [] ys e k = k
all_over p (x ∷ xs) ys e k =
    let parts = and_parts (p x) (list_all p xs) e in
    and_from _ _ parts.0 (all_over p xs ys parts.1 k)

pub all_inked : (ws : List Word) → AreCut ws → list_all (λ b. not (b == 32)) (text_of ws) ≡ true
all_inked [] cut = refl
all_inked (w ∷ ws) cut = all_over (λ b. not (b == 32)) w.text (text_of ws) cut.0.inked (all_inked ws cut.1)

pub all_visible : (ws : List Word) → AreCut ws → list_all (λ b. nat_lt 31 b) (text_of ws) ≡ true
all_visible [] cut = refl
all_visible (w ∷ ws) cut = all_over (λ b. nat_lt 31 b) w.text (text_of ws) cut.0.visible (all_visible ws
    cut.1)
