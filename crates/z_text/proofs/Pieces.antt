-- The steps of a scan that cuts bytes into pieces from the first on.
use Rattle.std.proofs.Common.{◌≡◌, ℕ, zero, suc, ◌+◌, ◌-◌, ◌<◌, ◌≤◌, true, false, List, [], ◌∷◌, ◌++◌, length}
use Rattle.std.proofs.Common.{take, drop, Option, Some, append_assoc, append-nil, length-drop, length-append}
use Rattle.std.proofs.Common.{map, get_or, drop-drop, refl, sym, ap, ◌∙◌, subst, arith}
use Rattle.std.specs.Prelude.{All}
use Rattle.std.specs.List.{list_any}
use Rattle.z_text.specs.Line.{span}
use Rattle.z_text.specs.Tokens.{Piece, kind_at, size_at, size_for, pieces, piece_at, pieces_of, token_of}
use Rattle.z_text.specs.Tokens.{is_bad, is_bad_piece, LiesIn, IsShort}
use Rattle.z_text.specs.declared.token.Token.{Token}
use Rattle.std.proofs.lemmas.List.{length-take, drop-take}
use Rattle.std.proofs.lemmas.List.Elements.{All-append}
use Rattle.std.proofs.lemmas.Grind.{common_steps}
use Rattle.z_text.specs.declared.token.TokenKind.{TokenKind}
use Rattle.z_text.specs.declared.token.TokenKind.TheVariants.{Name, Number, Hex, Sign, Open, Close, Comma}
use Rattle.z_text.specs.declared.token.TokenKind.TheVariants.{Star}

skipped : (k at : ℕ) (bs : List ℕ) → pieces k at bs ≡ pieces 0 (at + k) (drop k bs)
unfolding pieces
skipped zero at bs = grind (arith, common_steps)
skipped (suc k) at [] = refl
skipped (suc k) at (b ∷ bs) = skipped k (at + 1) bs ∙ (let e : (at + 1) + k ≡ at + suc k =
    omega arith in ap (λ n. pieces 0 n (drop k bs)) e)

-- Behind the first piece stand the pieces of what is left.
first_piece : (at n : ℕ) (bs : List ℕ) → 0 < length bs → n ≡ size_at bs → 0 < n →
    pieces 0 at bs ≡ piece_at at bs ∷ pieces 0 (at + n) (drop n bs)
unfolding pieces
first_piece at n [] h e p = absurd (omega arith)
first_piece at n (b ∷ bs) h e p =
    ap (λ ps. piece_at at (b ∷ bs) ∷ ps)
    (skipped (size_at (b ∷ bs) - 1) (at + 1) bs
    ∙ (let a : at + 1 + (size_at (b ∷ bs) - 1) ≡ at + n = omega arith in
    let d : n ≡ suc (size_at (b ∷ bs) - 1) = omega arith in
    ap (λ m. pieces 0 m (drop (size_at (b ∷ bs) - 1) bs)) a ∙ (rw d refl)))

pub drop_twice : {X : Type 0} (n at : ℕ) (text : List X) → drop n (drop at text) ≡ drop (at + n) text
drop_twice n at text = grind (arith, drop-drop)

-- the same by places in the line, with the kind and the size as they were found
next_piece : (line : List ℕ) (at end n : ℕ) (o : Option TokenKind) → at < end → end ≤ length line →
    kind_at (span at end line) ≡ o → n ≡ size_for o (span at end line) → 0 < n → at + n ≤ end →
    pieces_of at end line ≡ record { first = at; size = n; kind = o } ∷ pieces_of (at + n) end line
next_piece line at end n o before within kind size some fits =
    let bs : List ℕ = span at end line in
    let long : 0 < length bs = simp (length-take, length-drop) (omega arith) in
    let is : n ≡ size_at bs = rw kind size in
    let rest : drop n bs ≡ span (at + n) end line =
    (let m : end - at ≡ n + (end - (at + n)) = omega arith in
    ap (λ k. drop n (take k (drop at line))) m ∙ (drop-take n (end - (at + n)) (drop at line) ∙
    ap (take (end - (at + n))) (drop_twice n at line))) in
    let piece : piece_at at bs ≡ record { first = at; size = n; kind = o } = rw (kind, ← size) refl in
    first_piece at n bs long is some ∙ (ap (λ p. p ∷ pieces 0 (at + n) (drop n bs)) piece ∙
    ap (λ bs. record { first = at; size = n; kind = o } ∷ pieces 0 (at + n) bs) rest)

-- What a scan has done between `first` and `at`.
pub record Scans (line : List ℕ) (old new : List Token) (first at end : ℕ) : Type 0 where
  pub inside : at ≤ end
  pub pushed : new ++ map token_of (pieces_of at end line) ≡ old ++ map token_of (pieces_of first end line)
  pub good : list_any is_bad (pieces_of at end line) ≡ list_any is_bad (pieces_of first end line)
  pub lie : All (LiesIn (length line)) new
  pub few : length new ≤ at

is_short : (k : TokenKind) (size : ℕ) → is_bad_piece (Some k) size ≡ false → IsShort k size
is_short Name size e = grind arith
is_short Number size e = tt
is_short Hex size e = tt
is_short Sign size e = tt
is_short Open size e = tt
is_short Close size e = tt
is_short Comma size e = tt
is_short Star size e = tt

pub All_one : {X : Type 0} → (P : X → Type 0) (x : X) → P x → All P (x ∷ [])
All_one P x p = λ k d h. let z : k ≡ 0 = omega arith in subst (λ m. P (get_or (x ∷ []) m d)) (sym z) p

pub scans_on : (line : List ℕ) (old new : List Token) (first at end n : ℕ) (k : TokenKind) →
    Scans line old new first at end → at < end → end ≤ length line → 0 < n → at + n ≤ end →
    kind_at (span at end line) ≡ Some k → n ≡ size_for (Some k) (span at end line) →
    is_bad_piece (Some k) n ≡ false →
    Scans line old (new ++ record { first = at; end = at + n; kind = k } ∷ []) first (at + n) end
scans_on line old new first at end n k s before within some fits kind size fine =
    let p : Piece = record { first = at; size = n; kind = Some k } in
    let t : Token = record { first = at; end = at + n; kind = k } in
    let rest : List Piece = pieces_of (at + n) end line in
    let e : pieces_of at end line ≡ p ∷ rest =
    next_piece line at end n (Some k) before within kind size some fits in
    let same : (at + n) - at ≡ n = omega arith in
    let short : IsShort k ((at + n) - at) = subst (λ m. IsShort k m) (sym same) (is_short k n fine) in
    let count : length (new ++ t ∷ []) ≡ length new + 1 = length-append new (t ∷ []) in
    record {
      inside = fits;
      pushed = append_assoc new _ (map token_of rest) ∙ (ap (λ ps. new ++ map token_of ps) (sym e) ∙
          s.pushed);
      good = (let h : list_any is_bad (p ∷ rest) ≡ list_any is_bad rest =
          rw fine refl in sym h) ∙ (ap (list_any is_bad) (sym e) ∙ s.good);
      lie = All-append (LiesIn (length line)) new (t ∷
          []) s.lie (All_one (LiesIn (length line)) t (omega arith, omega arith, short));
      few = omega (arith, count, s.few, some);
    }

pub found_bad : (line : List ℕ) (old new : List Token) (first at end n : ℕ) (o : Option TokenKind) →
    Scans line old new first at end → at < end → end ≤ length line → 0 < n → at + n ≤ end →
    kind_at (span at end line) ≡ o → n ≡ size_for o (span at end line) → is_bad_piece o n ≡ true →
    list_any is_bad (pieces_of first end line) ≡ true
found_bad line old new first at end n o s before within some fits kind size bad =
    let p : Piece = record { first = at; size = n; kind = o } in
    let rest : List Piece = pieces_of (at + n) end line in
    let e : pieces_of at end line ≡ p ∷ rest = next_piece line at end n o before within kind size some fits in
    let h : list_any is_bad (p ∷ rest) ≡ true = rw bad refl in sym s.good ∙ (ap (list_any is_bad) e ∙ h)

nothing : (at : ℕ) → pieces 0 at [] ≡ []
unfolding pieces
nothing at = refl

pub scanned : (line : List ℕ) (old new : List Token) (first at end : ℕ) → Scans line old new first at end →
    end ≤ at →
    (list_any is_bad (pieces_of first end line) ≡ false) × (new ≡ old ++
    map token_of (pieces_of first end line))
scanned line old new first at end s over =
    let z : end - at ≡ 0 = omega arith in
    let e : pieces_of at end line ≡ [] = ap (λ k. pieces 0 at (take k (drop at line))) z ∙ nothing at in (
      sym s.good ∙ ap (list_any is_bad) e,
      (sym (append-nil new) ∙ ap (λ ps. new ++ map token_of ps) (sym e)) ∙
          s.pushed,
    )
