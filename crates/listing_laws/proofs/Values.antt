-- What the assembler makes of the words of operands: their values.
use Rattle.std.proofs.Common.{◌≡◌, ℕ, suc, ◌+◌, ◌-◌, ◌<◌, ◌^◌, Bool, true, false, List, [], ◌∷◌}
use Rattle.std.proofs.Common.{◌++◌}
use Rattle.std.proofs.Common.{length, Option, Some, refl, sym, ap, ap₂, ◌∙◌, arith, ◌&&◌}
use Rattle.std.proofs.Common.{append_assoc}
use Rattle.std.specs.Prelude.{ℤ, pos, negsuc, ◌+ℤ◌, ◌==◌, if◌then◌else◌, option_map, slice_index}
use Rattle.std.specs.Fmt.{decimal}
use Rattle.std.proofs.lemmas.Int.{ints}
use Rattle.z_text.specs.Expressions.{add, signed, is_sign, is_term, signed_terms_size}
use Rattle.z_text.specs.Expressions.{expression_size}
use Rattle.z_text.specs.Line.{span}
use Rattle.z_text.specs.Numbers.{number_of}
use Rattle.z_text.specs.declared.token.Token.{Token}
use Rattle.z_text.specs.declared.token.TokenKind.{TokenKind}
use Rattle.z_text.specs.declared.token.TokenKind.TheVariants as kinds
use Rattle.z_operands.specs.Operands.{Valuation, atoms_from, atom_for, mark_of}
use Rattle.z_operands.specs.Values.{Table, sum_in, value_in_line}
use Rattle.z_operands.specs.declared.operand.Atom.{Atom}
use Rattle.z_operands.specs.declared.operand.Atom.TheVariants as atoms
use Rattle.z_list.specs.declared.parts.Operand.{Operand}
use Rattle.z_list.specs.declared.parts.Operand.TheVariants.{Number, Target, Indexed, Based, Counted}
use Rattle.listing_laws.proofs.Words.{Word, word, tokens_for, Lie}
use Rattle.listing_laws.proofs.Numbers.{number, closing, comma, star, number_is}
use Rattle.listing_laws.proofs.Spelled.{signed_then, target_then, one_then, two_then, operand_then, further}
use Rattle.listing_laws.proofs.Spelled.{words_of, IsNear, AreFew, AreAllFew}

-- behind an expression stands a mark or nothing
abbrev pub is_end : TokenKind → Bool
is_end kinds.Open = true
is_end kinds.Close = true
is_end kinds.Comma = true
is_end _ = false

abbrev pub Ends : List Token → Type 0
Ends [] = Unit {0}
Ends (t ∷ ts) = is_end t.kind ≡ true

end_no_sign : (k : TokenKind) → is_end k ≡ true → is_sign k ≡ false
end_no_sign kinds.Open h = refl
end_no_sign kinds.Close h = refl
end_no_sign kinds.Comma h = refl
end_no_sign kinds.Name h = cc
end_no_sign kinds.Number h = cc
end_no_sign kinds.Hex h = cc
end_no_sign kinds.Sign h = cc
end_no_sign kinds.Star h = cc

end_no_term : (k : TokenKind) → is_end k ≡ true → is_term k ≡ false
end_no_term kinds.Open h = refl
end_no_term kinds.Close h = refl
end_no_term kinds.Comma h = refl
end_no_term kinds.Name h = cc
end_no_term kinds.Number h = cc
end_no_term kinds.Hex h = cc
end_no_term kinds.Sign h = cc
end_no_term kinds.Star h = cc

no_more : (ts : List Token) → Ends ts → signed_terms_size ts ≡ 0
unfolding signed_terms_size
no_more [] h = refl
no_more (t ∷ []) h = refl
no_more (t ∷ u ∷ ts) h =
    ap (λ b. if b && is_term u.kind then 2 + signed_terms_size ts else 0) (end_no_sign t.kind h)

no_expression : (t : Token) (ts : List Token) → is_end t.kind ≡ true → expression_size (t ∷ ts) ≡ 0
unfolding expression_size
no_expression t ts h =
    ap (λ b. if b then 1 + signed_terms_size ts else signed_terms_size (t ∷ ts)) (end_no_term t.kind h)
    ∙ no_more (t ∷ ts) h

-- ---- the parts at the front

module _ (v : Valuation) where
  pub mark_atom : (t : Token) (ts : List Token) → is_end t.kind ≡ true
      → atoms_from v 0 (t ∷ ts) ≡ mark_of t.kind ∷ atoms_from v 0 ts
  unfolding atoms_from
  mark_atom t ts h =
      ap (λ n. atom_for v n (t ∷ ts) ∷ atoms_from v ((if n == 0 then 1
      else n) - 1) ts) (no_expression t ts h)

  -- one term
  pub term_atom : (t : Token) (ts : List Token) → is_term t.kind ≡ true → Ends ts
      → atoms_from v 0 (t ∷ ts) ≡ atoms.Value (v (t ∷ [])) ∷ atoms_from v 0 ts
  unfolding atoms_from expression_size
  term_atom t ts h ends =
      ap (λ b. let n = if b then 1 + signed_terms_size ts
      else signed_terms_size (t ∷ ts) in atom_for v n (t ∷ ts) ∷ atoms_from v ((if n == 0 then 1
      else n) - 1) ts) h
      ∙ ap (λ m. let n = 1 + m in atom_for v n (t ∷ ts) ∷ atoms_from v ((if n == 0 then 1
      else n) - 1) ts) (no_more ts ends)

  -- a sign and a term
  pub signed_atom : (s t : Token) (ts : List Token) → s.kind ≡ kinds.Sign → t.kind ≡ kinds.Number → Ends ts
      → atoms_from v 0 (s ∷ t ∷ ts) ≡ atoms.Value (v (s ∷ t ∷ [])) ∷ atoms_from v 0 ts
  unfolding atoms_from expression_size signed_terms_size
  signed_atom s t ts sign number ends =
      ap₂ (λ (j k : TokenKind). let n = if is_term j then 1 + signed_terms_size (t ∷ ts)
      else (if is_sign j && is_term k then 2 + signed_terms_size ts
      else 0) in atom_for v n (s ∷ t ∷ ts) ∷ atoms_from v ((if n == 0 then 1
      else n) - 1) (t ∷ ts)) sign number
      ∙ ap (λ m. let n = 2 + m in atom_for v n (s ∷ t ∷ ts) ∷ atoms_from v ((if n == 0 then 1
      else n) - 1) (t ∷ ts)) (no_more ts ends)

  -- a term, a sign and a term
  pub sum_atom : (r s t : Token) (ts : List Token) → r.kind ≡ kinds.Star → s.kind ≡ kinds.Sign
      → t.kind ≡ kinds.Number → Ends ts
      → atoms_from v 0 (r ∷ s ∷ t ∷ ts) ≡ atoms.Value (v (r ∷ s ∷ t ∷ [])) ∷ atoms_from v 0 ts
  unfolding atoms_from expression_size signed_terms_size
  sum_atom r s t ts place sign number ends =
      ap (λ (i : TokenKind). let n = if is_term i then 1 + (if is_sign s.kind && is_term t.kind
      then 2 + signed_terms_size ts else 0) else signed_terms_size (r ∷ s ∷ t ∷ ts) in
      atom_for v n (r ∷ s ∷ t ∷ ts) ∷ atoms_from v ((if n == 0 then 1 else n) - 1) (s ∷ t ∷ ts)) place
      ∙ ap₂ (λ (j k : TokenKind). let n = 1 + (if is_sign j && is_term k then 2 + signed_terms_size ts
      else 0) in atom_for v n (r ∷ s ∷ t ∷ ts) ∷ atoms_from v ((if n == 0 then 1
      else n) - 1) (s ∷ t ∷ ts)) sign number
      ∙ ap (λ m. let n = 1 + (2 + m) in atom_for v n (r ∷ s ∷ t ∷ ts) ∷ atoms_from v ((if n == 0
      then 1 else n) - 1) (s ∷ t ∷ ts)) (no_more ts ends)

-- ---- the values of the words of a line

module _ (line : List ℕ) (labels : Table) (here : ℕ) where
  abbrev pub v : Valuation
  v = value_in_line line labels here

  number_value : (n first end : ℕ) → n < 2 ^ 64 → span first end line ≡ decimal n
      → option_map pos (number_of kinds.Number (span first end line)) ≡ Some (pos n)
  number_value n first end small is =
      ap (λ (t : List ℕ). option_map pos (number_of kinds.Number t)) is
      ∙ ap (option_map pos) (number_is n small)

  pub plain_value : (n first end : ℕ) → n < 2 ^ 64 → span first end line ≡ decimal n
      → v (record { first = first; end = end; kind = kinds.Number } ∷ []) ≡ Some (pos n)
  unfolding sum_in
  plain_value n first end small is =
      ap (λ (x : Option ℤ). add (signed false x) (Some (pos 0))) (number_value n first end small is)
      ∙ ap Some (omega (arith, ints))

  pub negative_value : (n at first end : ℕ) → suc n < 2 ^ 64 → slice_index line at ≡ 45
      → span first end line ≡ decimal (suc n)
      → (last : ℕ) → v (record { first = at; end = last; kind = kinds.Sign } ∷ record {
        first = first;
        end
            = end;
        kind = kinds.Number;
      } ∷ []) ≡ Some (negsuc n)
  unfolding sum_in
  negative_value n at first end small sign is last =
      ap (λ (b : ℕ). add (signed (b == 45) (option_map pos (number_of kinds.Number (span first end line))))
      (Some (pos 0))) sign
      ∙ ap (λ (x : Option ℤ). add (signed true x) (Some (pos 0))) (number_value (suc n) first end small is)
      ∙ ap Some (omega (arith, ints))

  pub ahead_value : (n place start at last first end : ℕ) → n < 2 ^ 64 → slice_index line at ≡ 43
      → span first end line ≡ decimal n
      → v (record { first = place; end = start; kind = kinds.Star } ∷ record {
        first = at;
        end = last;
        kind
            = kinds.Sign;
      } ∷ record { first = first; end = end; kind = kinds.Number } ∷ [])
      ≡ Some (pos here +ℤ pos n)
  unfolding sum_in
  ahead_value n place start at last first end small sign is =
      ap (λ (b : ℕ). add (Some (pos here)) (add (signed (b == 45) (option_map pos (number_of kinds.Number
      (span first end line)))) (Some (pos 0)))) sign
      ∙ ap (λ (x : Option ℤ). add (Some (pos here)) (add (signed false x) (Some (pos 0)))) (number_value n
      first end small is) ∙ ap Some (omega (arith, ints))

  pub back_value : (n place start at last first end : ℕ) → suc n < 2 ^ 64 → slice_index line at ≡ 45
      → span first end line ≡ decimal (suc n)
      → v (record { first = place; end = start; kind = kinds.Star } ∷ record {
        first = at;
        end = last;
        kind
            = kinds.Sign;
      } ∷ record { first = first; end = end; kind = kinds.Number } ∷ [])
      ≡ Some (pos here +ℤ negsuc n)
  unfolding sum_in
  back_value n place start at last first end small sign is =
      ap (λ (b : ℕ). add (Some (pos here)) (add (signed (b == 45) (option_map pos (number_of kinds.Number
      (span first end line)))) (Some (pos 0)))) sign
      ∙ ap (λ (x : Option ℤ). add (Some (pos here)) (add (signed true x) (Some (pos 0)))) (number_value
      (suc n) first end small is) ∙ ap Some (omega (arith, ints))

  -- ---- the parts of an operand

  abbrev pub parts : ℕ → List Word → List Atom
  parts at ws = atoms_from v 0 (tokens_for at ws)

  -- some words are these parts, and other words stand behind them
  record AreRead (at : ℕ) (us ws : List Word) (front : List Atom) : Type 0 where
    place : ℕ
    lie : Lie line place ws
    parts_are : parts at us ≡ front ++ parts place ws

  number_fits : (n : ℕ) → n < 2 ^ 33 → n < 2 ^ 64
  number_fits n h = omega arith

  near_fits : (n : ℕ) → n < 2 ^ 33 → suc n < 2 ^ 64
  near_fits n h = omega arith

  abbrev EndWords : List Word → Type 0
  EndWords [] = Unit {0}
  EndWords (w ∷ ws) = is_end w.kind ≡ true

  ends_at : (ws : List Word) (at : ℕ) → EndWords ws → Ends (tokens_for at ws)
  ends_at [] at h = tt
  ends_at (w ∷ ws) at h = h

  signed_parts : (z : ℤ) (ws : List Word) (at : ℕ) → IsNear z → Lie line at (signed_then z ws) → EndWords ws
      → AreRead at (signed_then z ws) ws (atoms.Value (Some z) ∷ [])
  signed_parts (pos n) ws at near lie ends =
      let end = at + length (decimal n) in
      record {
        place = end;
        lie = lie.2;
        parts_are =
            term_atom v (record { first = at; end = end; kind = kinds.Number }) (tokens_for end ws) refl
            (ends_at ws end ends)
            ∙ ap (λ (x : Option ℤ). atoms.Value x ∷ parts end ws) (plain_value n at end (number_fits n
            near) lie.0);
      }
  signed_parts (negsuc n) ws at near lie ends =
      let first = at + 1 in
      let end = first + length (decimal (suc n)) in
      record {
        place = end;
        lie = lie.2.2;
        parts_are =
            signed_atom v (record { first = at; end = first; kind = kinds.Sign }) (record {
              first = first;
              end = end;
              kind = kinds.Number;
            })
            (tokens_for end ws) refl refl (ends_at ws end ends)
            ∙ ap (λ (x : Option ℤ). atoms.Value x ∷ parts end ws) (negative_value n at first end (near_fits
            n near) lie.1 lie.2.0 first);
      }

  -- the tokens of an asterisk, a sign and a number with so many digits
  abbrev sum_tokens : ℕ → ℕ → List Token
  sum_tokens at digits =
      let sign = at + 1 in
      let first = sign + 1 in
      record { first = at; end = sign; kind = kinds.Star }
      ∷ record { first = sign; end = first; kind = kinds.Sign }
      ∷ record { first = first; end = first + digits; kind = kinds.Number } ∷ []

  -- words for these tokens, which have this value
  sum_parts : (c n : ℕ) (value : ℤ) (ws : List Word) (at : ℕ)
      → Lie line at (star ∷ word kinds.Sign (c ∷ []) ∷ number n ∷ ws) → EndWords ws
      → v (sum_tokens at (length (decimal n))) ≡ Some value
      → AreRead at (star ∷ word kinds.Sign (c ∷ []) ∷ number n ∷ ws) ws (atoms.Value (Some value) ∷ [])
  sum_parts c n value ws at lie ends is =
      let sign = at + 1 in
      let first = sign + 1 in
      let end = first + length (decimal n) in
      record {
        place = end;
        lie = lie.2.2.2;
        parts_are =
            sum_atom v (record { first = at; end = sign; kind = kinds.Star })
            (record { first = sign; end = first; kind = kinds.Sign })
            (record { first = first; end = end; kind = kinds.Number }) (tokens_for end ws) refl refl refl
            (ends_at ws end ends)
            ∙ ap (λ (x : Option ℤ). atoms.Value x ∷ parts end ws) is;
      }

  target_parts : (z : ℤ) (ws : List Word) (at : ℕ) → IsNear z → Lie line at (target_then z ws) → EndWords ws
      → AreRead at (target_then z ws) ws (atoms.Value (Some (pos here +ℤ z)) ∷ [])
  target_parts (pos n) ws at near lie ends =
      let sign = at + 1 in
      let first = sign + 1 in
      sum_parts 43 n (pos here +ℤ pos n) ws at lie ends
      (ahead_value n at sign sign first first (first + length (decimal n)) (number_fits n near) lie.2.1
      lie.2.2.0)
  target_parts (negsuc n) ws at near lie ends =
      let sign = at + 1 in
      let first = sign + 1 in
      sum_parts 45 (suc n) (pos here +ℤ negsuc n) ws at lie ends
      (back_value n at sign sign first first (first + length (decimal (suc n))) (near_fits n near) lie.2.1
      lie.2.2.0)

  few_fits : (n : ℕ) → n < 1000 → n < 2 ^ 64
  few_fits n h = omega arith

  -- a number with a mark behind it
  number_parts : (b : ℕ) (ws : List Word) (at : ℕ) → b < 1000 → Lie line at (number b ∷ ws) → EndWords ws
      → parts at (number b ∷ ws) ≡ atoms.Value (Some (pos b)) ∷ parts (at + length (decimal b)) ws
  number_parts b ws at few lie ends =
      let end = at + length (decimal b) in
      term_atom v (record { first = at; end = end; kind = kinds.Number }) (tokens_for end ws) refl (ends_at
      ws end ends)
      ∙ ap (λ (x : Option ℤ). atoms.Value x ∷ parts end ws) (plain_value b at end (few_fits b few) lie.0)

  one_parts : (b : ℕ) (ws : List Word) (at : ℕ) → b < 1000 → Lie line at (one_then b ws)
      → AreRead at (one_then b ws) ws (atoms.Open ∷ atoms.Value (Some (pos b)) ∷ atoms.Close ∷ [])
  one_parts b ws at few lie =
      let first = at + 1 in
      let end = first + length (decimal b) in
      record {
        place = end + 1;
        lie = lie.2.2.2;
        parts_are =
            mark_atom v (record { first = at; end = first; kind = kinds.Open }) (tokens_for first (number b
            ∷ closing ∷ ws)) refl
            ∙ ap (λ (r : List Atom). atoms.Open ∷ r) (number_parts b (closing ∷ ws) first few lie.2 refl
            ∙ ap (λ (r : List Atom). atoms.Value (Some (pos b)) ∷ r)
            (mark_atom v (record { first = end; end = end + 1; kind = kinds.Close }) (tokens_for (end + 1)
            ws) refl));
      }

  two_parts : (x b : ℕ) (ws : List Word) (at : ℕ) → x < 1000 → b < 1000 → Lie line at (two_then x b ws)
      → AreRead at (two_then x b ws) ws
      (atoms.Open ∷ atoms.Value (Some (pos x)) ∷ atoms.Comma ∷ atoms.Value (Some (pos b)) ∷ atoms.Close ∷
      [])
  two_parts x b ws at inner few lie =
      let first = at + 1 in
      let middle = first + length (decimal x) in
      let second = middle + 1 in
      let end = second + length (decimal b) in
      record {
        place = end + 1;
        lie = lie.2.2.2.2.2;
        parts_are =
            mark_atom v (record { first = at; end = first; kind = kinds.Open })
            (tokens_for first (number x ∷ comma ∷ number b ∷ closing ∷ ws)) refl
            ∙ ap (λ (r : List Atom). atoms.Open ∷ r) (number_parts x (comma ∷ number b ∷ closing ∷ ws)
            first inner lie.2 refl
            ∙ ap (λ (r : List Atom). atoms.Value (Some (pos x)) ∷ r)
            (mark_atom v (record { first = middle; end = second; kind = kinds.Comma }) (tokens_for second
            (number b ∷ closing ∷ ws)) refl
            ∙ ap (λ (r : List Atom). atoms.Comma ∷ r) (number_parts b (closing ∷ ws) second few lie.2.2.2
            refl
            ∙ ap (λ (r : List Atom). atoms.Value (Some (pos b)) ∷ r)
            (mark_atom v (record { first = end; end = end + 1; kind = kinds.Close }) (tokens_for (end + 1)
            ws) refl))));
      }

  abbrev pub atoms_of : Operand → List Atom
  atoms_of (Number z) = atoms.Value (Some z) ∷ []
  atoms_of (Target z) = atoms.Value (Some (pos here +ℤ z)) ∷ []
  atoms_of (Indexed d x b) =
      atoms.Value (Some d) ∷ atoms.Open ∷ atoms.Value (Some (pos x)) ∷ atoms.Comma ∷ atoms.Value (Some (pos
      b)) ∷ atoms.Close ∷ []
  atoms_of (Based d b) = atoms.Value (Some d) ∷ atoms.Open ∷ atoms.Value (Some (pos b)) ∷ atoms.Close ∷ []
  atoms_of (Counted d c b) =
      atoms.Value (Some d) ∷ atoms.Open ∷ atoms.Value (Some (pos c)) ∷ atoms.Comma ∷ atoms.Value (Some (pos
      b)) ∷ atoms.Close ∷ []

  read_on : {us vs ws : List Word} {f g : List Atom} (at : ℕ) (r : AreRead at us vs f)
      → AreRead r.place vs ws g → AreRead at us ws (f ++ g)
  read_on {f = f} {g = g} at r s = record {
    place = s.place;
    lie = s.lie;
    parts_are = r.parts_are ∙ ap (λ (r : List Atom). f ++ r) s.parts_are ∙ sym (append_assoc f g _);
  }

  operand_parts : (o : Operand) (ws : List Word) (at : ℕ) → AreFew o → Lie line at (operand_then o ws)
      → EndWords ws
      → AreRead at (operand_then o ws) ws (atoms_of o)
  operand_parts (Number z) ws at few lie ends = signed_parts z ws at few lie ends
  operand_parts (Target z) ws at few lie ends = target_parts z ws at few lie ends
  operand_parts (Indexed d x b) ws at few lie ends =
      let r = signed_parts d (two_then x b ws) at few.0 lie refl in
      read_on at r (two_parts x b ws r.place few.1 few.2 r.lie)
  operand_parts (Based d b) ws at few lie ends =
      let r = signed_parts d (one_then b ws) at few.0 lie refl in
      read_on at r (one_parts b ws r.place few.1 r.lie)
  operand_parts (Counted d c b) ws at few lie ends =
      let r = signed_parts d (two_then c b ws) at few.0 lie refl in
      read_on at r (two_parts c b ws r.place few.1 few.2 r.lie)

  abbrev pub further_atoms : List Operand → List Atom
  further_atoms [] = []
  further_atoms (o ∷ os) = atoms.Comma ∷ (atoms_of o ++ further_atoms os)

  abbrev pub all_atoms : List Operand → List Atom
  all_atoms [] = []
  all_atoms (o ∷ os) = atoms_of o ++ further_atoms os

  further_ends : (os : List Operand) → EndWords (further os)
  further_ends [] = tt
  further_ends (o ∷ os) = refl

  further_parts : (os : List Operand) (at : ℕ) → AreAllFew os → Lie line at (further os)
      → parts at (further os) ≡ further_atoms os
  unfolding atoms_from
  further_parts [] at few lie = refl
  further_parts (o ∷ os) at few lie =
      let r = operand_parts o (further os) (at + 1) few.0 lie.2 (further_ends os) in
      mark_atom v (record { first = at; end = at + 1; kind = kinds.Comma }) (tokens_for (at + 1)
      (operand_then o (further os))) refl
      ∙ ap (λ (r : List Atom). atoms.Comma ∷ r) (r.parts_are
      ∙ ap (λ (r : List Atom). atoms_of o ++ r) (further_parts os r.place few.1 r.lie))

  pub all_parts : (os : List Operand) (at : ℕ) → AreAllFew os → Lie line at (words_of os)
      → parts at (words_of os) ≡ all_atoms os
  unfolding atoms_from
  all_parts [] at few lie = refl
  all_parts (o ∷ os) at few lie =
      let r = operand_parts o (further os) at few.0 lie (further_ends os) in
      r.parts_are ∙ ap (λ (r : List Atom). atoms_of o ++ r) (further_parts os r.place few.1 r.lie)
