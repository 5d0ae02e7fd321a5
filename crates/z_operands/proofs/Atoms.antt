-- The parts of tokens, and the operands of parts.
use Rattle.std.proofs.Common.{◌≡◌, ℕ, zero, suc, ◌+◌, ◌-◌, ◌<◌, ◌≤◌, ℤ, Bool, true, false, if◌then◌else◌}
use Rattle.std.proofs.Common.{◌==◌, List, [], ◌∷◌, ◌++◌, length, take, drop, get_or, slice_index, Option}
use Rattle.std.proofs.Common.{Some, None, option_map, refl, sym, ap, ◌∙◌, arith, append_assoc, append-nil}
use Rattle.std.proofs.Common.{length-drop, add-one}
use Rattle.std.proofs.lemmas.Grind.{common_steps}
use Rattle.std.proofs.lemmas.List.{drop_all}
use Rattle.z_text.specs.Expressions.{expression_size, expression_of, end_of, end_after, sum_of, term_value}
use Rattle.z_text.specs.Expressions.{value_of_kind, is_sign, add, signed, with_value, value_to}
use Rattle.z_text.specs.Line.{span}
use Rattle.z_text.specs.Labels.{value_in}
use Rattle.z_text.specs.declared.labels.Labels.{Labels}
use Rattle.z_text.specs.declared.token.Token.{Token}
use Rattle.z_text.specs.declared.token.TokenKind.{TokenKind}
use Rattle.z_text.specs.declared.token.TokenKind.TheVariants as tokens
use Rattle.z_operands.specs.Operands.{Valuation, atom_at, atom_for, atom_size, size_for, atoms_from, mark_of}
use Rattle.z_operands.specs.Operands.{operands_from, operands_of, piece_at, checked, goes_on_rightly}
use Rattle.z_operands.specs.Operands.{with_operand, size_of_piece}
use Rattle.z_operands.specs.Values.{value_in_line, value_there, sum_in, value_of_term}
use Rattle.z_operands.specs.declared.operand.Atom.{Atom}
use Rattle.z_operands.specs.declared.operand.Atom.TheVariants.{Value}
use Rattle.z_operands.specs.declared.operand.Operand.{Operand}
use Rattle.z_operands.specs.declared.operand.Piece.{Piece}
use Rattle.z_fields.proofs.Loops.{drop_here}
use Rattle.z_text.proofs.Pieces.{drop_twice}

-- ---- the parts of tokens

atoms_skip : (v : Valuation) (k : ℕ) (ts : List Token) → atoms_from v k ts ≡ atoms_from v 0 (drop k ts)
unfolding atoms_from
atoms_skip v zero ts = refl
atoms_skip v (suc k) [] = refl
atoms_skip v (suc k) (t ∷ ts) = atoms_skip v k ts

some_size : (n : ℕ) → 0 < size_for n
some_size n = grind (arith, common_steps)

-- Behind the first part stand the parts of what is left.
first_atom : (v : Valuation) (ts : List Token) (n : ℕ) → 0 < length ts → n ≡ atom_size ts →
    atoms_from v 0 ts ≡ atom_at v ts ∷ atoms_from v 0 (drop n ts)
unfolding atoms_from
first_atom v [] n h e = absurd (omega arith)
first_atom v (t ∷ ts) n h e =
    let s = some_size (expression_size (t ∷ ts)) in
    let d : n ≡ suc (atom_size (t ∷ ts) - 1) = omega arith in
    ap (λ atoms. atom_at v (t ∷ ts) ∷ atoms) (atoms_skip v (atom_size (t ∷ ts) - 1) ts
    ∙ ap (λ m. atoms_from v 0 (drop m (t ∷ ts))) (sym d))

pub atoms_pushed : (v : Valuation) (ts : List Token) (at end : ℕ) (old : List Atom) (a : Atom)
    (whole : List Atom) → at < length ts →
    a ≡ atom_at v (drop at ts) → end ≡ at + atom_size (drop at ts) →
    old ++ atoms_from v 0 (drop at ts) ≡ whole →
    (old ++ a ∷ []) ++ atoms_from v 0 (drop end ts) ≡ whole
atoms_pushed v ts at end old a whole h i e w =
    let some : 0 < length (drop at ts) = simp length-drop (omega arith) in
    append_assoc old (a ∷ []) (atoms_from v 0 (drop end ts))
    ∙ (ap (λ x. old ++ x ∷ atoms_from v 0 (drop end ts)) i
    ∙ (ap (λ m. old ++ atom_at v (drop at ts) ∷ atoms_from v 0 (drop m ts)) e
    ∙ (ap (λ d. old ++ atom_at v (drop at ts) ∷ atoms_from v 0 d)
    (sym (drop_twice (atom_size (drop at ts)) at ts))
    ∙ (ap (λ atoms. old ++ atoms) (sym (first_atom v (drop at ts) (atom_size (drop at ts)) some refl)) ∙ w))))

pub no_atoms : (v : Valuation) (ts : List Token) (at : ℕ) → length ts ≤ at → atoms_from v 0 (drop at ts) ≡ []
unfolding atoms_from
no_atoms v ts at h = ap (atoms_from v 0) (drop_all at ts h)

-- ---- values

kinds_same : (k : TokenKind) (text : List ℕ) (labels : Labels) (here : ℕ) →
    value_of_kind k text labels here ≡ value_of_term k text (value_in labels) here
kinds_same tokens.Number text labels here = refl
kinds_same tokens.Hex text labels here = refl
kinds_same tokens.Name text labels here = refl
kinds_same tokens.Star text labels here = refl
kinds_same _ text labels here = refl

term_is : (text : List ℕ) (labels : Labels) (here : ℕ) (t : Token) →
    term_value text labels here t ≡ value_of_term t.kind (span t.first t.end text) (value_in labels) here
unfolding term_value
term_is text labels here t = kinds_same t.kind (span t.first t.end text) labels here

if_same : {X : Type 0} (b : Bool) (x y u v : X) → x ≡ u → y ≡ v → (if b then x else y) ≡ (if b then u else v)
if_same true x y u v e f = e
if_same false x y u v e f = f

sums_same : (text : List ℕ) (labels : Labels) (here : ℕ) (negative : Bool) (ts : List Token) →
    sum_of text labels here negative ts ≡ sum_in text (value_in labels) here negative ts
unfolding sum_of sum_in
sums_same text labels here negative [] = refl
sums_same text labels here negative (t ∷ ts) =
    if_same (is_sign t.kind) _ _ _ _
    (sums_same text labels here (slice_index text t.first == 45) ts)
    (ap (λ v. add (signed negative v) (sum_of text labels here false ts)) (term_is text labels here t)
    ∙ ap (λ s. add (signed negative (value_of_term t.kind (span t.first t.end text) (value_in labels) here))
    s) (sums_same text labels here false ts))

there_is : (o : Option ℤ) (end : ℕ) → value_there (with_value o end) ≡ o
there_is None end = refl
there_is (Some v) end = refl

value_by : (text : List ℕ) (ts : List Token) (at n : ℕ) (labels : Labels) (here : ℕ) (b : Bool) →
    value_there (value_to text ts at labels here (if b then None else Some (at + n))) ≡
    (if b then None else value_in_line text (value_in labels) here (take n (drop at ts)))
value_by text ts at n labels here true = refl
value_by text ts at n labels here false =
    let size : at + n - at ≡ n = omega arith in
    there_is (sum_of text labels here false (take (at + n - at) (drop at ts))) (at + n)
    ∙ (ap (λ k. sum_of text labels here false (take k (drop at ts))) size
    ∙ sums_same text labels here false (take n (drop at ts)))

pub value_is : (text : List ℕ) (ts : List Token) (at : ℕ) (labels : Labels) (here : ℕ) →
    value_there (expression_of text ts at labels here)
    ≡ (if expression_size (drop at ts) == 0 then None else value_in_line text (value_in labels) here
    (take (expression_size (drop at ts)) (drop at ts)))
unfolding expression_of
value_is text ts at labels here = value_by text ts at (expression_size (drop at ts)) labels here
    (expression_size (drop at ts) == 0)

-- ---- the part at a place

size_none : (at n : ℕ) → end_after at n ≡ None → (n == 0) ≡ true
size_none at n e = by_case (n == 0) refl e
  where
    by_case : (b : Bool) → (n == 0) ≡ b → (if b then None else Some (at + n)) ≡ None → (n == 0) ≡ true
    by_case true e f = e
    by_case false e f = cc

size_some : (at n end : ℕ) → end_after at n ≡ Some end → ((n == 0) ≡ false) × (end ≡ at + n)
size_some at n end e = by_case (n == 0) refl e
  where
    by_case : (b : Bool) → (n == 0) ≡ b → (if b then None else Some (at + n)) ≡ Some end →
        ((n == 0) ≡ false) × (end ≡ at + n)
    by_case true e f = absurd cc
    by_case false e f = (e, cc)

atom_mark : (v : Valuation) (n : ℕ) (t : Token) (ts : List Token) → (n == 0) ≡ true →
    atom_for v n (t ∷ ts) ≡ mark_of t.kind
atom_mark v n t ts e = ap (λ b. if b then mark_of t.kind else Value (v (take n (t ∷ ts)))) e

atom_value : (v : Valuation) (n : ℕ) (t : Token) (ts : List Token) → (n == 0) ≡ false →
    atom_for v n (t ∷ ts) ≡ Value (v (take n (t ∷ ts)))
atom_value v n t ts e = ap (λ b. if b then mark_of t.kind else Value (v (take n (t ∷ ts)))) e

pub mark_here : (v : Valuation) (ts : List Token) (at : ℕ) (d : Token) → at < length ts →
    end_of ts at ≡ None → mark_of (get_or ts at d).kind ≡ atom_at v (drop at ts)
mark_here v ts at d h e =
    sym (ap (λ r. atom_for v (expression_size (drop at ts)) r) (drop_here ts at d h)
    ∙ atom_mark v (expression_size (drop at ts)) (get_or ts at d) (drop (at + 1) ts) (size_none at _ e))

pub mark_size : (ts : List Token) (at : ℕ) → end_of ts at ≡ None → at + 1 ≡ at + atom_size (drop at ts)
mark_size ts at e = ap (λ b. at + (if b then 1 else expression_size (drop at ts))) (sym (size_none at _ e))

pub value_here : (text : List ℕ) (ts : List Token) (at end : ℕ) (labels : Labels) (here : ℕ) (d : Token) →
    at < length ts → end_of ts at ≡ Some end →
    Value (value_there (expression_of text ts at labels here)) ≡ atom_at
    (value_in_line text (value_in labels) here) (drop at ts)
value_here text ts at end labels here d h e =
    let v : Valuation = value_in_line text (value_in labels) here in
    let n : ℕ = expression_size (drop at ts) in
    let s : (n == 0) ≡ false = (size_some at n end e).0 in
    let first : atom_at v (drop at ts) ≡ Value (v (take n (get_or ts at d ∷ drop (at + 1) ts))) =
    ap (λ r. atom_for v n r) (drop_here ts at d h) ∙ atom_value v n (get_or ts at d) (drop (at + 1) ts) s in
    ap Value (value_is text ts at labels here ∙ ap (λ b. if b then None else v (take n (drop at ts))) s)
    ∙ (ap (λ r. Value (v (take n r))) (drop_here ts at d h) ∙ sym first)

pub value_size : (ts : List Token) (at end : ℕ) → end_of ts at ≡ Some end → end ≡ at + atom_size (drop at ts)
value_size ts at end e =
    let s = size_some at (expression_size (drop at ts)) end e in
    s.1 ∙ ap (λ b. at + (if b then 1 else expression_size (drop at ts))) (sym s.0)

-- ---- operands

operands_skip : (k : ℕ) (rest : List Atom) → operands_from k rest ≡ operands_from 0 (drop k rest)
unfolding operands_from
operands_skip zero rest = refl
operands_skip (suc k) [] = refl
operands_skip (suc k) (a ∷ rest) = operands_skip k rest

first_operand : (s : List Atom) (p : Piece) → 0 < length s → piece_at s ≡ Some p →
    goes_on_rightly (drop p.size s) ≡ true →
    operands_from 0 s ≡ with_operand (Some p.operand) (operands_from 0 (drop (p.size + 1) s))
unfolding operands_from
first_operand [] p h e g = absurd (omega arith)
first_operand (a ∷ rest) p h e g =
    ap (λ o. with_operand (checked o (a ∷ rest)) (operands_from (size_of_piece o) rest)) e
    ∙ (ap (λ b. with_operand (if b then Some p.operand else None) (operands_from p.size rest)) g
    ∙ ap (λ os. with_operand (Some p.operand) os)
    (operands_skip p.size rest ∙ ap (λ k. operands_from 0 (drop k (a ∷ rest))) (sym (add-one p.size))))

push_with : (front : List Operand) (o : Operand) (rest : Option (List Operand)) →
    option_map (λ os. (front ++ o ∷ []) ++ os) rest ≡ option_map (λ os. front ++ os)
    (with_operand (Some o) rest)
push_with front o None = refl
push_with front o (Some os) = ap Some (append_assoc front (o ∷ []) os)

pub operands_pushed : (s : List Atom) (p : Piece) (front : List Operand) (whole : Option (List Operand)) →
    0 < length s → piece_at s ≡ Some p → goes_on_rightly (drop p.size s) ≡ true →
    option_map (λ os. front ++ os) (operands_from 0 s) ≡ whole →
    option_map (λ os. (front ++ p.operand ∷ []) ++ os) (operands_from 0 (drop (p.size + 1) s)) ≡ whole
operands_pushed s p front whole h e g w =
    push_with front p.operand (operands_from 0 (drop (p.size + 1) s))
    ∙ (ap (option_map (λ os. front ++ os)) (sym (first_operand s p h e g)) ∙ w)

none_with : (o : Option (List Operand)) → with_operand None o ≡ None
none_with None = refl
none_with (Some os) = refl

pub no_operand : (s : List Atom) (front : List Operand) (whole : Option (List Operand)) → 0 < length s →
    piece_at s ≡ None →
    option_map (λ os. front ++ os) (operands_from 0 s) ≡ whole → None ≡ whole
unfolding operands_from
no_operand [] front whole h e w = absurd (omega arith)
no_operand (a ∷ rest) front whole h e w =
    sym (ap (λ o. option_map (λ os. front ++ os)
    (with_operand (checked o (a ∷ rest)) (operands_from (size_of_piece o) rest))) e
    ∙ ap (option_map (λ os. front ++ os)) (none_with (operands_from 0 rest))) ∙ w

pub wrong_behind : (s : List Atom) (p : Piece) (front : List Operand) (whole : Option (List Operand)) →
    0 < length s → piece_at s ≡ Some p →
    goes_on_rightly (drop p.size s) ≡ false → option_map (λ os. front ++ os) (operands_from 0 s) ≡ whole →
    None ≡ whole
unfolding operands_from
wrong_behind [] p front whole h e g w = absurd (omega arith)
wrong_behind (a ∷ rest) p front whole h e g w =
    sym (ap (λ o. option_map (λ os. front ++ os)
    (with_operand (checked o (a ∷ rest)) (operands_from (size_of_piece o) rest))) e
    ∙ (ap (λ b. option_map (λ os. front ++ os)
    (with_operand (if b then Some p.operand else None) (operands_from p.size rest))) g
    ∙ ap (option_map (λ os. front ++ os)) (none_with (operands_from p.size rest)))) ∙ w

pub operands_end : (s : List Atom) (front : List Operand) (whole : Option (List Operand)) → length s ≤ 0 →
    option_map (λ os. front ++ os) (operands_from 0 s) ≡ whole → Some front ≡ whole
unfolding operands_from
operands_end [] front whole h w = ap Some (sym (append-nil front)) ∙ w
operands_end (a ∷ rest) front whole h w = absurd (omega arith)

pub no_operands : (v : Valuation) (ts : List Token) (n : ℕ) → length ts ≤ n →
    operands_of v (drop n ts) ≡ Some []
unfolding operands_of operands_from
no_operands v ts n h = ap (operands_from 0) (no_atoms v ts n h)
