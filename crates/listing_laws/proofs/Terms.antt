-- Operands that are numbers and labels, and what the assembler's second reading makes of them.
use Rattle.std.proofs.Common.{◌≡◌, ℕ, suc, ◌+◌, ◌<◌, ◌^◌, true, false, not, ◌||◌}
use Rattle.std.proofs.Common.{List, [], ◌∷◌, ◌++◌}
use Rattle.std.proofs.Common.{length, map, Option, Some, refl, ap, ap₂, ◌∙◌, arith}
use Rattle.std.proofs.Common.{lt-ltb, le-ltb, le-leb, lit<}
use Rattle.std.specs.Prelude.{ℤ, pos, Ok, ◌==◌, nat_lt}
use Rattle.std.specs.List.{list_all, prefix_len}
use Rattle.std.specs.Char.{to_ascii_uppercase, is_ascii_uppercase, is_ascii_digit}
use Rattle.std.specs.Fmt.{decimal}
use Rattle.std.proofs.lemmas.Int.{ints}
use Rattle.std.proofs.lemmas.Fmt.{length-decimal-le}
use Rattle.std.proofs.lemmas.Bool.{and_from}
use Rattle.std.proofs.Math.Bool.{or-true}
use Rattle.z_text.specs.Line.{span, as_read, is_letter_or_digit, is_name}
use Rattle.z_text.specs.Tokens.{kind_at}
use Rattle.z_text.specs.Expressions.{add, signed, is_term}
use Rattle.z_text.specs.declared.token.TokenKind.TheVariants as kinds
use Rattle.z_operands.specs.Operands.{Valuation, atoms_from, operands_from, operands_of}
use Rattle.z_operands.specs.Values.{Table, sum_in, value_in_line, operands_on, wanted}
use Rattle.z_fields.specs.declared.fault.Kind.{Kind}
use Rattle.z_operands.specs.declared.operand.Atom.{Atom}
use Rattle.z_operands.specs.declared.operand.Atom.TheVariants as atoms
use Rattle.z_operands.specs.declared.operand.Operand.TheVariants.{Plain}
use Rattle.listing_laws.proofs.Words.{Word, word, tokens_for, Lie, IsCut}
use Rattle.listing_laws.proofs.Lines.{prefix_to}
use Rattle.listing_laws.proofs.Numbers.{number, comma, digits_are, all_by, digit_byte}
use Rattle.listing_laws.proofs.Numbers.{capitals}
use Rattle.listing_laws.proofs.Values.{term_atom, mark_atom, plain_value, Ends}

-- ---- a letter and a number as a name

abbrev pub label_name : ℕ → ℕ → List ℕ
label_name letter n = letter ∷ decimal n

abbrev pub name_word : ℕ → ℕ → Word
name_word letter n = word kinds.Name (label_name letter n)

-- ---- terms

module _ (line : List ℕ) (labels : Table) (here : ℕ) where
  abbrev v : Valuation
  v = value_in_line line labels here

  -- the word is a term of this value, wherever it stands in the line
  pub record HasValue (w : Word) (x : ℤ) : Type 0 where
    pub term : is_term w.kind ≡ true
    pub value : (first end : ℕ) → span first end line ≡ w.text
        → v (record { first = first; end = end; kind = w.kind } ∷ []) ≡ Some x

  pub number_value : (n : ℕ) → n < 2 ^ 64 → HasValue (number n) (pos n)
  number_value n small = record {
    term = refl;
    value = λ first end is. plain_value line labels here n first
        end small is;
  }

  pub label_value : (letter n : ℕ) (x : ℤ) → as_read (label_name letter n) ≡ label_name letter n → labels
      (label_name letter n) ≡ Some x
      → HasValue (name_word letter n) x
  unfolding sum_in
  label_value letter n x capital known = record {
    term = refl;
    value = λ first end is.
        ap (λ (t : List ℕ). add (signed false (labels (as_read t))) (Some (pos 0))) is
        ∙ ap (λ (t : List ℕ). add (signed false (labels t)) (Some (pos 0))) capital
        ∙ ap (λ (o : Option ℤ). add (signed false o) (Some (pos 0))) known ∙ ap Some (omega (arith, ints));
  }

  one_atom : (w : Word) (x : ℤ) (at : ℕ) (ws : List Word) → HasValue w x → Lie line at (w ∷ ws) → Ends
      (tokens_for (at + length w.text) ws)
      → atoms_from v 0 (tokens_for at (w ∷ ws)) ≡ atoms.Value (Some x) ∷ atoms_from v 0 (tokens_for (at +
      length w.text) ws)
  one_atom w x at ws has lie ends =
      let end = at + length w.text in
      term_atom v (record { first = at; end = end; kind = w.kind }) (tokens_for end ws) has.term ends
      ∙ ap (λ (o : Option ℤ). atoms.Value o ∷ atoms_from v 0 (tokens_for end ws)) (has.value at end lie.0)

  pub no_operand : (kind : Kind) (at : ℕ) → operands_on kind line labels here (tokens_for at []) ≡ Ok []
  unfolding atoms_from operands_from operands_of
  no_operand kind at = refl

  pub one_operand : (kind : Kind) (w : Word) (x : ℤ) (at : ℕ) → HasValue w x → Lie line at (w ∷ [])
      → operands_on kind line labels here (tokens_for at (w ∷ [])) ≡ Ok (Plain (Some x) ∷ [])
  unfolding atoms_from operands_from operands_of
  one_operand kind w x at has lie = ap (λ (r : List Atom). wanted kind (operands_from 0 r)) (one_atom w x at
      [] has lie tt)

  pub two_operands : (kind : Kind) (w u : Word) (x y : ℤ) (at : ℕ) → HasValue w x → HasValue u y → Lie line
      at (w ∷ comma ∷ u ∷ [])
      → operands_on kind line labels here (tokens_for at (w ∷ comma ∷ u ∷ [])) ≡ Ok (Plain (Some x) ∷ Plain
      (Some y) ∷ [])
  unfolding atoms_from operands_from operands_of
  two_operands kind w u x y at has also lie =
      let middle = at + length w.text in
      ap (λ (r : List Atom). wanted kind (operands_from 0 r))
      (one_atom w x at (comma ∷ u ∷ []) has lie refl
      ∙ ap (λ (r : List Atom). atoms.Value (Some x) ∷ r)
      (mark_atom v (record { first = middle; end = middle + 1; kind = kinds.Comma }) (tokens_for (middle + 1)
      (u ∷ [])) refl
      ∙ ap (λ (r : List Atom). atoms.Comma ∷ r) (one_atom u y (middle + 1) [] also lie.2.2 tt)))

-- ---- names that are cut as they stand

letter_digit : (b : ℕ) → is_ascii_digit b ≡ true → is_letter_or_digit b ≡ true
letter_digit b h = ap (λ c. is_ascii_uppercase b || c) h ∙ or-true (is_ascii_uppercase b)

digits_go_on : (n : ℕ) → n < 2 ^ 64 → list_all is_letter_or_digit (decimal n) ≡ true
digits_go_on n small = all_by is_letter_or_digit (λ b h. letter_digit b (digit_byte b h).digit) (decimal n)
    (digits_are n small)

name_cut_by : (letter n : ℕ) (rest : List ℕ) → n < 10 → prefix_len is_letter_or_digit rest ≡ 0
    → kind_at (letter ∷ (decimal n ++ rest)) ≡ Some kinds.Name → to_ascii_uppercase letter ≡ letter → not
    (letter == 32) ≡ true
    → nat_lt 31 letter ≡ true → IsCut (name_word letter n) rest
name_cut_by letter n rest few stops kind capital inked visible =
    let small : n < 2 ^ 64 = omega arith in
    let are = digits_are n small in
    record {
      some = omega arith;
      kind = kind;
      size = ap (λ m. 1 + m) (prefix_to is_letter_or_digit (decimal n) rest (digits_go_on n small) stops) ∙
          omega arith;
      fair = le-ltb 16 (suc (length (decimal n))) (omega (arith, length-decimal-le 1 n (lit< tt) few small));
      number = refl;
      capital = ap₂ (λ (b : ℕ) (bs : List ℕ). b ∷ bs) capital (capitals (decimal n) are);
      inked = and_from _ _ inked (all_by (λ b. not (b == 32)) (λ b h. (digit_byte b h).inked) (decimal n)
          are);
      visible = and_from _ _ visible (all_by (λ b. nat_lt 31 b) (λ b h. lt-ltb 31 b (omega (arith, h.0)))
          (decimal n) are);
    }

pub p_cut : (n : ℕ) (rest : List ℕ) → n < 10 → prefix_len is_letter_or_digit rest ≡ 0
    → IsCut (name_word 80 n) rest
unfolding kind_at
p_cut n rest few stops = name_cut_by 80 n rest few stops refl refl refl refl

pub l_cut : (n : ℕ) (rest : List ℕ) → n < 10 → prefix_len is_letter_or_digit rest ≡ 0
    → IsCut (name_word 76 n) rest
unfolding kind_at
l_cut n rest few stops = name_cut_by 76 n rest few stops refl refl refl refl

pub is_name_by : (letter n : ℕ) → n < 10 → is_ascii_uppercase letter ≡ true
    → is_name (label_name letter n) ≡ true
is_name_by letter n few upper =
    let small : n < 2 ^ 64 = omega arith in
    and_from _ _ upper (and_from _ _ (le-leb (length (decimal n)) 15 (omega (
      arith,
      length-decimal-le 1 n
          (lit< tt) few small,
    ))) (digits_go_on n small))

pub capital_by : (letter n : ℕ) → n < 10 → to_ascii_uppercase letter ≡ letter
    → map to_ascii_uppercase (label_name letter n) ≡ label_name letter n
capital_by letter n few upper =
    let small : n < 2 ^ 64 = omega arith in
    ap₂ (λ (b : ℕ) (bs : List ℕ). b ∷ bs) upper (capitals (decimal n) (digits_are n small))
