-- A line of a label, an operation and operands, and its tokens.
use Rattle.std.proofs.Common.{◌≡◌, ℕ, ◌+◌, ◌<◌, ◌≤◌, Bool, true, false, not, ◌&&◌, ◌||◌}
use Rattle.std.proofs.Common.{List, [], ◌∷◌, ◌++◌}
use Rattle.std.proofs.Common.{length, drop, map, Some, None, refl, sym, ap}
use Rattle.std.proofs.Common.{ap₂, ◌∙◌, subst}
use Rattle.std.proofs.Common.{arith, append_assoc, length-append, cond, le-ltb, nat_le, eqb-true}
use Rattle.std.specs.Prelude.{◌==◌, if◌then◌else◌, Ok, Err}
use Rattle.std.specs.List.{prefix_len, list_all, list_any}
use Rattle.std.specs.Char.{to_ascii_uppercase, is_ascii_uppercase}
use Rattle.std.proofs.lemmas.List.{drop_at, append-nil}
use Rattle.std.proofs.lemmas.Bool.Decides.{nat_tests}
use Rattle.std.proofs.lemmas.Bool.{ne_eqb, and_parts, and_from, not-true}
use Rattle.z_text.specs.Line.{as_read, span, past, is_blank, is_inked, is_letter_or_digit, fields_of}
use Rattle.z_text.specs.Line.{says_nothing, is_name}
use Rattle.z_text.specs.Line.{keeps_operands_whole, is_printed}
use Rattle.z_text.specs.Tokens.{head_of, has_bad_head, operands_of, behind, split_of, pieces_of, tokens_of}
use Rattle.z_text.specs.Tokens.{with_numbers}
use Rattle.z_text.specs.Tokens.{token_of, is_good_number, is_bad, pieces, Piece}
use Rattle.z_text.specs.declared.fields.Fields.{Fields}
use Rattle.z_text.specs.declared.token.Token.{Token}
use Rattle.z_text.specs.declared.token.TokenKind.TheVariants.{Name}
use Rattle.z_text.specs.declared.token.TextFault.TheVariants.{LineTooLong, BadNumber}
use Rattle.listing_laws.proofs.Words.{Word, text_of, tokens_for, pieces_for, AreCut, Lie, span_is, they_lie}
use Rattle.listing_laws.proofs.Words.{good_numbers, pieces_are, tokens_are, none_bad, all_capital}
use Rattle.listing_laws.proofs.Words.{all_inked, all_visible, map_over}
use Rattle.std.proofs.Common.{nat_lt}
use Rattle.listing_laws.proofs.Words.{all_over}
use Rattle.z_text.proofs.Keys.{capital_is_letter}

-- operands behind a blank, nothing where there are none
abbrev pub field : List Word → List ℕ
field [] = []
field (w ∷ ws) = 32 ∷ text_of (w ∷ ws)

abbrev pub line_with : List ℕ → List ℕ → List Word → List ℕ
line_with label op ws = label ++ 32 ∷ (op ++ field ws)

abbrev gap : List Word → ℕ
gap [] = 0
gap (w ∷ ws) = 1

-- where the operation begins and ends, and where the operands begin
abbrev pub op_at : List ℕ → ℕ
op_at label = length label + 1

abbrev pub op_end : List ℕ → List ℕ → ℕ
op_end label op = op_at label + length op

abbrev pub words_at : List ℕ → List ℕ → List Word → ℕ
words_at label op ws = op_end label op + gap ws

abbrev pub is_label : List ℕ → Bool
is_label [] = true
is_label (b ∷ bs) = is_name (b ∷ bs)

-- the label is none or a name, the operation a name, and the operands are words
pub record IsSaid (label op : List ℕ) (ws : List Word) : Type 0 where
  pub label_named : is_label label ≡ true
  pub named : is_name op ≡ true
  pub split : keeps_operands_whole op ≡ false
  pub label_capital : map to_ascii_uppercase label ≡ label
  pub op_capital : map to_ascii_uppercase op ≡ op
  pub words : AreCut ws
  pub short : length (line_with label op ws) ≤ 120

-- ---- where the parts end

pub prefix_to : (p : ℕ → Bool) (xs ys : List ℕ) → list_all p xs ≡ true → prefix_len p ys ≡ 0
    → prefix_len p (xs ++ ys) ≡ length xs
prefix_to p [] ys h e = e
prefix_to p (x ∷ xs) ys h e =
    let parts = and_parts (p x) (list_all p xs) h in
    ap (λ b. cond b (1 + prefix_len p (xs ++ ys)) 0) parts.0
    ∙ ap (λ n. 1 + n) (prefix_to p xs ys parts.1 e) ∙ omega arith

-- a letter or a digit is no blank
inked_letter : (b : ℕ) → is_letter_or_digit b ≡ true → is_inked b ≡ true
inked_letter b h = by (b == 32) refl
  where
    by : (c : Bool) → (b == 32) ≡ c → not c ≡ true
    by true e = let no : is_letter_or_digit 32 ≡ true = subst (λ (n : ℕ). is_letter_or_digit n
        ≡ true) (eqb-true b 32 e) h in cc
    by false e = refl

all_inked_letters : (xs : List ℕ) → list_all is_letter_or_digit xs ≡ true → list_all is_inked xs ≡ true
all_inked_letters [] h = refl
all_inked_letters (x ∷ xs) h =
    let parts = and_parts (is_letter_or_digit x) (list_all is_letter_or_digit xs) h in
    and_from _ _ (inked_letter x parts.0) (all_inked_letters xs parts.1)

inked_name : (xs : List ℕ) → is_name xs ≡ true → list_all is_inked xs ≡ true
inked_name [] h = refl
inked_name (x ∷ xs) h =
    let parts = and_parts (is_ascii_uppercase x) (nat_le (length xs) 15 && list_all is_letter_or_digit xs)
    h in
    let rest = and_parts (nat_le (length xs) 15) (list_all is_letter_or_digit xs) parts.1 in
    and_from _ _ (inked_letter x (capital_is_letter x parts.0)) (all_inked_letters xs rest.1)

-- a name has a first letter
name_is_some : (xs : List ℕ) → is_name xs ≡ true → 0 < length xs
name_is_some [] h = cc
name_is_some (x ∷ xs) h = omega arith

not_blank : (b : ℕ) → is_inked b ≡ true → is_blank b ≡ false
not_blank b h = not-true (b == 32) h

-- no blank stands where inked bytes begin
no_blanks : (xs ys : List ℕ) → list_all is_inked xs ≡ true → 0 < length xs
    → prefix_len is_blank (xs ++ ys) ≡ 0
no_blanks [] ys h some = absurd (omega arith)
no_blanks (x ∷ xs) ys h some =
    let parts = and_parts (is_inked x) (list_all is_inked xs) h in
    ap (λ b. cond b (1 + prefix_len is_blank (xs ++ ys)) 0) (not_blank x parts.0)

past_at : (p : ℕ → Bool) (front mid rest line : List ℕ) (at : ℕ) → at ≡ length front
    → line ≡ front ++ (mid ++ rest)
    → list_all p mid ≡ true → prefix_len p rest ≡ 0 → past p at line ≡ at + length mid
past_at p front mid rest line at starts is all stops =
    ap (λ (l : List ℕ). at + prefix_len p l) (ap (drop at) is ∙ drop_at front (mid ++ rest) at (sym starts))
    ∙ ap (λ n. at + n) (prefix_to p mid rest all stops)

blanks : List Word → List ℕ
blanks [] = []
blanks (w ∷ ws) = 32 ∷ []

field_parts : (ws : List Word) → field ws ≡ blanks ws ++ text_of ws
unfolding blanks
field_parts [] = refl
field_parts (w ∷ ws) = refl

gap_is : (ws : List Word) → length (blanks ws) ≡ gap ws
unfolding blanks
gap_is [] = refl
gap_is (w ∷ ws) = refl

blank_parts : (ws : List Word) → list_all is_blank (blanks ws) ≡ true
unfolding blanks
blank_parts [] = refl
blank_parts (w ∷ ws) = refl

words_begin : (ws : List Word) → AreCut ws → prefix_len is_blank (text_of ws) ≡ 0
words_begin [] cut = refl
words_begin (w ∷ ws) cut = no_blanks w.text (text_of ws) cut.0.inked cut.0.some

field_stops : (ws : List Word) → prefix_len is_inked (field ws) ≡ 0
field_stops [] = refl
field_stops (w ∷ ws) = refl

abbrev pub fields_for : List ℕ → List ℕ → List Word → Fields
fields_for label op ws = record {
  label_end = length label;
  operation = op_at label;
  operation_end = op_end label op;
  operands = words_at label op ws;
  operands_end = words_at label op ws + length (text_of ws);
}

abbrev pub token_at : ℕ → ℕ → Token
token_at first end = record { first = first; end = end; kind = Name }

-- the tokens of the label, where there is one, and of the operation
abbrev pub heads : List ℕ → List ℕ → List Token
heads label op =
    if length label == 0 then token_at (op_at label) (op_end label op) ∷ []
    else token_at 0 (length label) ∷ token_at (op_at label) (op_end label op) ∷ []

head_name : (a b c : Bool) → (a || b) ≡ true → c ≡ true → ((not a && not b) || not c) ≡ false
head_name true b c h k = ap not k
head_name false true c h k = ap not k
head_name false false c h k = cc

module _ (label op : List ℕ) (ws : List Word) (said : IsSaid label op ws) where
  abbrev pub line : List ℕ
  line = line_with label op ws

  label_inked : list_all is_inked label ≡ true
  label_inked = by label said.label_named
    where
      by : (l : List ℕ) → is_label l ≡ true → list_all is_inked l ≡ true
      by [] h = refl
      by (x ∷ xs) h = inked_name (x ∷ xs) h

  before_op : line ≡ (label ++ 32 ∷ []) ++ (op ++ field ws)
  before_op = sym (append_assoc label (32 ∷ []) (op ++ field ws))

  before_field : line ≡ ((label ++ 32 ∷ []) ++ op) ++ field ws
  before_field = before_op ∙ sym (append_assoc (label ++ 32 ∷ []) op (field ws))

  before_words : line ≡ (((label ++ 32 ∷ []) ++ op) ++ blanks ws) ++ text_of ws
  before_words = before_field ∙ ap (λ f. ((label ++ 32 ∷ []) ++ op) ++ f) (field_parts ws)
      ∙ sym (append_assoc ((label ++ 32 ∷ []) ++ op) (blanks ws) (text_of ws))

  front_op : op_at label ≡ length (label ++ 32 ∷ [])
  front_op = omega (arith, length-append label (32 ∷ []))

  front_field : op_end label op ≡ length ((label ++ 32 ∷ []) ++ op)
  front_field = omega (arith, length-append label (32 ∷ []), length-append (label ++ 32 ∷ []) op)

  front_words : words_at label op ws ≡ length (((label ++ 32 ∷ []) ++ op) ++ blanks ws)
  front_words = omega (arith, front_field, gap_is ws, length-append ((label ++ 32 ∷ []) ++ op) (blanks ws))

  label_end_is : past is_inked 0 line ≡ length label
  label_end_is = past_at is_inked [] label (32 ∷ (op ++ field ws)) line 0 refl refl label_inked refl
      ∙ omega arith

  operation_is : past is_blank (length label) line ≡ op_at label
  operation_is = past_at is_blank label (32 ∷ []) (op ++ field ws) line (length label) refl refl refl
      (no_blanks op (field ws) (inked_name op said.named) (name_is_some op said.named))

  operation_end_is : past is_inked (op_at label) line ≡ op_end label op
  operation_end_is = past_at is_inked (label ++ 32 ∷ []) op (field ws) line (op_at label) front_op before_op
      (inked_name op said.named) (field_stops ws)

  operands_is : past is_blank (op_end label op) line ≡ words_at label op ws
  operands_is = past_at is_blank ((label ++ 32 ∷ [])
      ++ op) (blanks ws) (text_of ws) line (op_end label op) front_field
      (before_field ∙ ap (λ f. ((label ++ 32 ∷ []) ++ op)
      ++ f) (field_parts ws)) (blank_parts ws) (words_begin ws said.words)
      ∙ ap (λ n. op_end label op + n) (gap_is ws)

  operands_end_is : past is_inked (words_at label op ws) line ≡ words_at label op ws + length (text_of ws)
  operands_end_is = past_at is_inked (((label ++ 32 ∷ []) ++ op)
      ++ blanks ws) (text_of ws) [] line (words_at label op ws)
      front_words (before_words ∙ ap (λ t. (((label ++ 32 ∷ []) ++ op) ++ blanks ws)
      ++ t) (sym (append-nil (text_of ws))))
      (all_inked ws said.words) refl

  pub fields_are : fields_of line ≡ fields_for label op ws
  unfolding fields_of
  fields_are =
      let a = label_end_is in
      let b = ap (λ (n : ℕ). past is_blank n line) a ∙ operation_is in
      let c = ap (λ (n : ℕ). past is_inked n line) b ∙ operation_end_is in
      let d = ap (λ (n : ℕ). past is_blank n line) c ∙ operands_is in
      let e = ap (λ (n : ℕ). past is_inked n line) d ∙ operands_end_is in
      λ i. record {
        label_end = a i;
        operation = b i;
        operation_end = c i;
        operands = d i;
        operands_end = e
            i;
      }

  pub label_there : span 0 (length label) line ≡ label
  label_there = span_is [] label (32 ∷ (op ++ field ws)) line 0 (length label) refl (omega arith) refl

  pub op_there : span (op_at label) (op_end label op) line ≡ op
  op_there = span_is (label ++ 32 ∷ []) op (field ws) line (op_at label) (op_end label op) front_op refl
      before_op

  words_there : span (words_at label op ws) (words_at label op ws + length (text_of ws)) line ≡ text_of ws
  words_there = span_is (((label ++ 32 ∷ []) ++ op)
      ++ blanks ws) (text_of ws) [] line (words_at label op ws)
      (words_at label op ws + length (text_of ws)) front_words refl
      (before_words ∙ ap (λ t. (((label ++ 32 ∷ []) ++ op) ++ blanks ws)
      ++ t) (sym (append-nil (text_of ws))))

  pub words_lie : Lie line (words_at label op ws) ws
  words_lie = they_lie ws (((label ++ 32 ∷ []) ++ op)
      ++ blanks ws) line (words_at label op ws) said.words front_words before_words

  label_test : (length label == 0 || is_name label) ≡ true
  label_test = by label said.label_named
    where
      or_true : (a b : Bool) → b ≡ true → (a || b) ≡ true
      or_true true b h = refl
      or_true false b h = h

      by : (l : List ℕ) → is_label l ≡ true → (length l == 0 || is_name l) ≡ true
      by [] h = refl
      by (x ∷ xs) h = or_true (length (x ∷ xs) == 0) (is_name (x ∷ xs)) h

  good_head : has_bad_head line (fields_for label op ws) ≡ false
  unfolding has_bad_head
  good_head =
      ap₂ (λ (l o : List ℕ). (not (length label == 0) && not (is_name l)) || not (is_name o)) label_there
      op_there
      ∙ head_name (length label == 0) (is_name label) (is_name op) label_test said.named

  heads_are : head_of (fields_for label op ws) ≡ heads label op
  heads_are = refl

  operands_are : operands_of line (fields_for label op ws) ≡ Some (tokens_for (words_at label op ws) ws)
  unfolding operands_of
  operands_are =
      let first = words_at label op ws in
      let end = first + length (text_of ws) in
      let cut : pieces_of first end line ≡ pieces_for first ws = ap (pieces 0 first) words_there
      ∙ pieces_are ws first said.words in
      ap (λ b. if b then (if list_all is_printed (span first end line) then Some [] else None)
      else (if list_any is_bad (pieces_of first end line) then None
      else Some (map token_of (pieces_of first end line))))
      (ap keeps_operands_whole op_there ∙ said.split)
      ∙ ap (λ (ps : List Piece). if list_any is_bad ps then None else Some (map token_of ps)) cut
      ∙ ap (λ b. if b then None else Some (map token_of (pieces_for first ws))) (none_bad ws first
      said.words)
      ∙ ap Some (tokens_are ws first)

  says_something : says_nothing line ≡ false
  says_something = by label said.label_named
    where
      op_inked : list_all is_blank (op ++ field ws) ≡ false
      op_inked = by_op op (inked_name op said.named) (name_is_some op said.named)
        where
          by_op : (o : List ℕ) → list_all is_inked o ≡ true → 0 < length o
              → list_all is_blank (o ++ field ws) ≡ false
          by_op [] h some = absurd (omega arith)
          by_op (x ∷ xs) h some =
              let parts = and_parts (is_inked x) (list_all is_inked xs) h in
              ap (λ b. b && list_all is_blank (xs ++ field ws)) (not_blank x parts.0)

      star : (x : ℕ) → is_ascii_uppercase x ≡ true → (x == 42) ≡ false
      star x h = by_star (x == 42) refl
        where
          by_star : (c : Bool) → (x == 42) ≡ c → c ≡ false
          by_star true e = let no : is_ascii_uppercase 42 ≡ true = subst (λ (n : ℕ). is_ascii_uppercase n
              ≡ true) (eqb-true x 42 e) h in cc
          by_star false e = refl

      by : (l : List ℕ) → is_label l ≡ true → says_nothing (line_with l op ws) ≡ false
      by [] h = op_inked
      by (x ∷ xs) h =
          let parts = and_parts (is_ascii_uppercase x) (nat_le (length xs) 15 && list_all
          is_letter_or_digit xs) h in
          ap₂ (λ (a b : Bool). a || (b && list_all is_blank (xs ++ 32 ∷ (op ++ field ws)))) (star x parts.0)
          (not_blank x (inked_letter x (capital_is_letter x parts.0)))

  split_is : split_of line ≡ Some (heads label op ++ tokens_for (words_at label op ws) ws)
  unfolding split_of
  split_is =
      ap (λ b. if b then Some [] else (if has_bad_head line (fields_of line) then None
      else behind (head_of (fields_of line)) (operands_of line (fields_of line)))) says_something
      ∙ ap (λ (f : Fields). if has_bad_head line f then None
      else behind (head_of f) (operands_of line f)) fields_are
      ∙ ap (λ b. if b then None else behind (heads label op) (operands_of line (fields_for label op ws)))
      good_head
      ∙ ap (behind (heads label op)) operands_are

  as_is : as_read line ≡ line
  as_is = map_over to_ascii_uppercase label (32 ∷ (op ++ field ws)) said.label_capital
      (ap (λ (t : List ℕ). 32 ∷ t) (map_over to_ascii_uppercase op (field ws) said.op_capital (by ws
      said.words)))
    where
      by : (vs : List Word) → AreCut vs → map to_ascii_uppercase (field vs) ≡ field vs
      by [] cut = refl
      by (w ∷ vs) cut = ap (λ (t : List ℕ). 32 ∷ t) (all_capital (w ∷ vs) cut)

  good_heads : (ts : List Token) → list_all (is_good_number line) ts ≡ true
      → list_all (is_good_number line) (heads label op ++ ts) ≡ true
  unfolding is_good_number
  good_heads ts h = by (length label == 0)
    where
      by : (b : Bool) → list_all (is_good_number line) ((if b
          then token_at (op_at label) (op_end label op) ∷ []
          else token_at 0 (length label) ∷ token_at (op_at label) (op_end label op) ∷ []) ++ ts) ≡ true
      by true = h
      by false = h

  -- the tokens of the line are the label, the operation and the words
  pub tokens_of_line : tokens_of line ≡ Ok (heads label op ++ tokens_for (words_at label op ws) ws)
  unfolding tokens_of
  tokens_of_line =
      let ts = heads label op ++ tokens_for (words_at label op ws) ws in
      ap (λ b. if b then Err LineTooLong else with_numbers line (split_of (as_read line))) (le-ltb 120
      (length line) said.short)
      ∙ ap (λ (l : List ℕ). with_numbers line (split_of l)) as_is
      ∙ ap (with_numbers line) split_is
      ∙ ap (λ b. if b then Ok ts else Err BadNumber) (good_heads (tokens_for (words_at label op ws) ws)
      (good_numbers ws line (words_at label op ws) said.words words_lie))

-- ---- bytes that a line has

visible_name : (xs : List ℕ) → is_name xs ≡ true → list_all (λ b. nat_lt 31 b) xs ≡ true
visible_name [] h = refl
visible_name (x ∷ xs) h =
    let parts = and_parts (is_ascii_uppercase x) (nat_le (length xs) 15 && list_all is_letter_or_digit xs) h
    in
    let rest = and_parts (nat_le (length xs) 15) (list_all is_letter_or_digit xs) parts.1 in
    and_from _ _ (visible_letter x (capital_is_letter x parts.0)) (visible_letters xs rest.1)
  where
    visible_letter : (b : ℕ) → is_letter_or_digit b ≡ true → nat_lt 31 b ≡ true
    visible_letter b h = grind (arith, nat_tests)

    visible_letters : (ys : List ℕ) → list_all is_letter_or_digit ys ≡ true → list_all (λ b. nat_lt 31 b) ys
        ≡ true
    visible_letters [] h = refl
    visible_letters (y ∷ ys) h =
        let parts = and_parts (is_letter_or_digit y) (list_all is_letter_or_digit ys) h in
        and_from _ _ (visible_letter y parts.0) (visible_letters ys parts.1)

visible_label : (l : List ℕ) → is_label l ≡ true → list_all (λ b. nat_lt 31 b) l ≡ true
visible_label [] h = refl
visible_label (x ∷ xs) h = visible_name (x ∷ xs) h

visible_field : (ws : List Word) → AreCut ws → list_all (λ b. nat_lt 31 b) (field ws) ≡ true
visible_field [] cut = refl
visible_field (w ∷ ws) cut = all_visible (w ∷ ws) cut

module _ (label op : List ℕ) (ws : List Word) (said : IsSaid label op ws) where
  -- the line has no line end
  pub visible_line : list_all (λ b. nat_lt 31 b) (line_with label op ws) ≡ true
  visible_line = all_over (λ b. nat_lt 31 b) label (32 ∷ (op ++ field ws)) (visible_label label
      said.label_named)
      (all_over (λ b. nat_lt 31 b) op (field ws) (visible_name op said.named) (visible_field ws said.words))

  pub capital_line : as_read (line_with label op ws) ≡ line_with label op ws
  capital_line = as_is label op ws said

-- ---- the parts of a line in its tokens

long_label : (b : ℕ) (bs : List ℕ) → (length (b ∷ bs) == 0) ≡ false
long_label b bs = ne_eqb (length (b ∷ bs)) 0 (λ e. omega arith)

pub named_heads : (b : ℕ) (bs op : List ℕ) (ts : List Token)
    → heads (b ∷ bs) op ++ ts ≡ token_at 0 (length (b ∷ bs)) ∷ token_at (op_at (b ∷ bs)) (op_end (b ∷ bs) op)
    ∷ ts
named_heads b bs op ts =
    ap (λ c. (if c then token_at (op_at (b ∷ bs)) (op_end (b ∷ bs) op) ∷ []
    else token_at 0 (length (b ∷ bs)) ∷ token_at (op_at (b ∷ bs)) (op_end (b ∷ bs) op) ∷ []) ++ ts)
    (long_label b bs)
