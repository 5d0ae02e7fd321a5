-- What the assembler's first reading makes of a line that places bytes by their digits.
use Rattle.std.proofs.Common.{◌≡◌, ℕ, zero, suc, ◌+◌, ◌-◌, ◌*◌, ◌<◌, ◌≤◌, Bool, true, false, not, ◌&&◌, ◌||◌}
use Rattle.std.proofs.Common.{List, [], ◌∷◌, ◌++◌, length, map, take, drop, Option, Some, None, refl, sym, ap, ap₂}
use Rattle.std.proofs.Common.{◌∙◌, arith, lt-ltb, le-ltb, le-leb, cond, append_assoc, length-append, length-drop}
use Rattle.std.specs.Prelude.{pos, Result, Ok, Err, if◌then◌else◌, nat_lt, nat_le, ◌==◌}
use Rattle.std.specs.List.{list_all, list_any, prefix_len}
use Rattle.std.specs.Char.{to_ascii_uppercase}
use Rattle.std.proofs.lemmas.Bool.{and_parts, and_from}
use Rattle.std.proofs.lemmas.List.{take_all}
use Rattle.z_text.specs.Line.{span, past, is_blank, is_inked, is_printed, as_read, fields_of}
use Rattle.z_text.specs.Tokens.{tokens_of, split_of, has_bad_head, head_of, behind, operands_of, with_numbers}
use Rattle.z_text.specs.Tokens.{is_good_number}
use Rattle.z_text.specs.declared.fields.Fields.{Fields}
use Rattle.z_text.specs.declared.token.TextFault.{TextFault}
use Rattle.z_text.specs.declared.token.TextFault.TheVariants.{LineTooLong, BadNumber}
use Rattle.z_text.specs.declared.token.Token.{Token}
use Rattle.z_text.specs.declared.token.TokenKind.TheVariants.{Name}
use Rattle.z_fields.specs.Chain.{◌>>=◌}
use Rattle.z_fields.specs.Data.{data_of, quoted_hex, or_bad, pairs_of}
use Rattle.z_operands.specs.Operations.{operation_named, directive_named, row_named}
use Rattle.z_fields.specs.declared.fault.Kind.{Kind}
use Rattle.z_fields.specs.declared.fault.Kind.TheVariants.{BadDirective}
use Rattle.z_operands.specs.declared.operation.Operation.{Operation}
use Rattle.z_operands.specs.declared.operation.Operation.TheVariants.{Dc}
use Rattle.z_reading.specs.Listing.{Plan, line_gives, by_kind, said_line, operation_in, operation_line, dc_line}
use Rattle.z_reading.specs.Listing.{field_behind, written, labelled, named_line}
use Rattle.deck_laws.proofs.Digits.{capitals, AreBytes, IsDigit, pairs_back, all_digits, capitals_capital}
use Rattle.deck_laws.proofs.Digits.{capitals_size}
use Rattle.deck_laws.proofs.Rows.{Row}

-- the operand: X and the digits in quotes
abbrev pub field_of : List ℕ → List ℕ
field_of bytes = 88 ∷ 39 ∷ (capitals bytes ++ 39 ∷ [])

-- a blank, DC, a blank and the operand
abbrev pub data_text : List ℕ → List ℕ
data_text bytes = 32 ∷ 68 ∷ 67 ∷ 32 ∷ field_of bytes

abbrev dc_token : Token
dc_token = record { first = 1; end = 3; kind = Name }

pub all_take : (p : ℕ → Bool) (n : ℕ) (xs : List ℕ) → list_all p xs ≡ true → list_all p (take n xs) ≡ true
all_take p zero xs h = refl
all_take p (suc n) [] h = refl
all_take p (suc n) (x ∷ xs) h =
    let parts = and_parts (p x) (list_all p xs) h in and_from _ _ parts.0 (all_take p n xs parts.1)

pub prefix_all : (p : ℕ → Bool) (xs : List ℕ) → list_all p xs ≡ true → prefix_len p xs ≡ length xs
prefix_all p [] h = refl
prefix_all p (x ∷ xs) h =
    let parts = and_parts (p x) (list_all p xs) h in
    ap (λ b. cond b (1 + prefix_len p xs) 0) parts.0 ∙ ap (λ n. 1 + n) (prefix_all p xs parts.1) ∙ omega arith

module _ (bytes : List ℕ) (low : AreBytes bytes) (size : length bytes ≡ 32) where
  abbrev line : List ℕ
  line = data_text bytes

  printed : list_all is_printed (field_of bytes) ≡ true
  printed = all_digits is_printed (λ d b h. h.printed) refl bytes low

  inked : list_all is_inked (field_of bytes) ≡ true
  inked = all_digits is_inked (λ d b h. h.inked) refl bytes low

  pub visible : list_all (λ b. nat_lt 31 b) (data_text bytes) ≡ true
  visible = all_digits (λ b. nat_lt 31 b) (λ d b h. h.visible) refl bytes low

  pub capital : as_read (data_text bytes) ≡ data_text bytes
  capital = ap (λ (t : List ℕ). 32 ∷ 68 ∷ 67 ∷ 32 ∷ 88 ∷ 39 ∷ t) (capitals_capital bytes low)

  digits_size : length (capitals bytes ++ 39 ∷ []) ≡ 65
  digits_size = omega (arith, capitals_size bytes, size)

  pub line_short : length (data_text bytes) ≤ 120
  line_short = omega (arith, digits_size)

  unfoldable pub data_row : Row
  data_row = record { text = data_text bytes; visible = visible; short = line_short }

  abbrev ink : ℕ
  ink = prefix_len is_inked (field_of bytes)

  fields_are : fields_of line ≡ record {
    label_end = 0;
    operation = 1;
    operation_end = 3;
    operands = 4;
    operands_end = 4 + ink;
  }
  unfolding fields_of
  fields_are = refl

  abbrev found : Fields
  found = record { label_end = 0; operation = 1; operation_end = 3; operands = 4; operands_end = 4 + ink }

  operands_are : operands_of line found ≡ Some []
  unfolding operands_of
  operands_are = ap (λ b. if b then Some [] else None) (all_take is_printed (4 + ink - 4) (field_of bytes) printed)

  split_is : split_of line ≡ Some (dc_token ∷ [])
  unfolding split_of has_bad_head
  split_is =
      ap (λ (f : Fields). if has_bad_head line f then None else behind (head_of f) (operands_of line f)) fields_are
      ∙ ap (behind (dc_token ∷ [])) operands_are

  tokens_are : tokens_of line ≡ Ok (dc_token ∷ [])
  unfolding tokens_of is_good_number
  tokens_are =
      ap (λ b. if b then Err LineTooLong else with_numbers line (split_of (as_read line))) (le-ltb 120
      (length line) line_short)
      ∙ ap (λ (l : List ℕ). with_numbers line (split_of l)) capital
      ∙ ap (with_numbers line) split_is

  dc_is : operation_named (68 ∷ 67 ∷ []) ≡ Some Dc
  unfolding operation_named directive_named row_named
  dc_is = refl

  takes_data : (n : ℕ) (p : Plan) → p.ended ≡ false → line_gives n line p ≡ dc_line [] (field_behind 3 line) p
  unfolding line_gives operation_line
  takes_data n p open_yet =
      ap (λ (r : Result (List Token) TextFault). by_kind r >>= λ us. said_line n line us (operation_in us) p)
      tokens_are
      ∙ ap (λ b. if b then Err BadDirective else named_line (operation_named (68 ∷ 67 ∷ [])) n [] line 3 [] p)
      open_yet
      ∙ ap (λ (o : Option Operation). named_line o n [] line 3 [] p) dc_is

  field_is : field_behind 3 line ≡ field_of bytes
  field_is =
      let all : 4 + ink - 4 ≡ length (field_of bytes) =
      omega (arith, prefix_all is_inked (field_of bytes) inked) in
      ap (λ n. take n (field_of bytes)) all ∙ take_all (length (field_of bytes)) (field_of bytes) (omega arith)

  data_is : data_of (field_of bytes) ≡ Ok bytes
  unfolding data_of quoted_hex
  data_is =
      let digits = capitals bytes ++ 39 ∷ [] in
      ap (λ b. if b then or_bad (pairs_of digits) else Err BadDirective)
      (lt-ltb 2 (length digits) (omega (arith, digits_size)))
      ∙ ap or_bad (pairs_back bytes low)

  -- the line places the bytes at the location
  pub data_gives : (n : ℕ) (p : Plan) → p.ended ≡ false
      → line_gives n line p ≡ written bytes (labelled [] (pos p.here) p)
  unfolding dc_line
  data_gives n p open_yet =
      takes_data n p open_yet
      ∙ ap (λ (f : List ℕ). data_of f >>= λ bs. written bs (labelled [] (pos p.here) p)) field_is
      ∙ ap (λ (r : Result (List ℕ) Kind). r >>= λ bs. written bs (labelled [] (pos p.here) p)) data_is
