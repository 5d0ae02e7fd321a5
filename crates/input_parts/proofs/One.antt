-- Each input is parted in one way.
use Rattle.std.proofs.Common.{◌≡◌, ◌≢◌, ℕ, ◌⊎◌, List, [], ◌∷◌, ◌++◌, refl, sym, ap, ap₂, subst, ◌∙◌, inl}
use Rattle.std.proofs.Common.{inr}
use Rattle.std.proofs.lemmas.List.Elements.{All-nil, All-cons}
use Rattle.input_parts.specs.Lines.{lines_of, ended, joined}
use Rattle.input_parts.specs.Parts.{AreUnmarked, HasPieces, IsParted, Pieces}
use Rattle.input_parts.proofs.Lists.{not_among, same_cut, same_or_not}

abbrev pieces : List ℕ → List ℕ → List ℕ → Pieces
pieces listing marked behind = record { listing = listing; marked = marked; behind = behind }

-- pieces that are the same one by one
same_pieces : (p q : Pieces) → p.listing ≡ q.listing → p.marked ≡ q.marked → p.behind ≡ q.behind → p ≡ q
same_pieces p q one two three =
    ap₂ (λ (l m : List ℕ). pieces l m p.behind) one two ∙ ap (pieces q.listing q.marked) three

module _ (mark : List ℕ) where
  abbrev IsOther : List ℕ → Type 0
  IsOther line = line ≢ mark

  is_mark : ¬ IsOther mark
  is_mark other = other refl

  pub one_way : (input : List ℕ) (p q : Pieces) → IsParted mark input p → IsParted mark input q → p ≡ q
  one_way input p q (inl a) (inl b) =
      same_pieces p q (a.listing_is ∙ sym b.listing_is) (a.marked_is ∙ sym b.marked_is)
      (a.behind_is ∙ sym b.behind_is)
  one_way input p q (inl a) (inr b) =
      absurd (not_among IsOther b.before mark b.after (subst (AreUnmarked mark) b.lines a.unmarked) refl)
  one_way input p q (inr a) (inl b) =
      absurd (not_among IsOther a.before mark a.after (subst (AreUnmarked mark) a.lines b.unmarked) refl)
  one_way input p q (inr a) (inr b) =
      let s = same_cut IsOther a.before b.before mark mark a.after b.after a.first b.first is_mark is_mark
      (sym a.lines ∙ b.lines) in
      same_pieces p q (a.listing_is ∙ ap ended s.before ∙ sym b.listing_is)
      (a.marked_is ∙ ap (λ (ls : List (List ℕ)). joined (mark ∷ ls)) s.behind ∙ sym b.marked_is)
      (a.behind_is ∙ ap joined s.behind ∙ sym b.behind_is)

  record Marked (lines : List (List ℕ)) : Type 0 where
    pub before : List (List ℕ)
    pub after : List (List ℕ)
    pub is : lines ≡ before ++ mark ∷ after
    pub first : AreUnmarked mark before

  look_more : (l : List ℕ) (ls : List (List ℕ)) → (l ≡ mark) ⊎ (¬ (l ≡ mark))
      → AreUnmarked mark ls ⊎ Marked ls → AreUnmarked mark (l ∷ ls) ⊎ Marked (l ∷ ls)
  look_more l ls (inl is) rest = inr record {
    before = [];
    after = ls;
    is = ap (λ (x : List ℕ). x ∷ ls) is;
    first = All-nil IsOther;
  }
  look_more l ls (inr other) (inl none) = inl (All-cons IsOther l ls other none)
  look_more l ls (inr other) (inr m) = inr record {
    before = l ∷ m.before;
    after = m.after;
    is = ap (λ (xs : List (List ℕ)). l ∷ xs) m.is;
    first = All-cons IsOther l m.before other m.first;
  }

  look : (lines : List (List ℕ)) → AreUnmarked mark lines ⊎ Marked lines
  look [] = inl (All-nil IsOther)
  look (l ∷ ls) = look_more l ls (same_or_not l mark) (look ls)

  by : (input : List ℕ) → AreUnmarked mark (lines_of input) ⊎ Marked (lines_of input) → HasPieces mark input
  by input (inl none) = record {
    pieces = record { listing = input; marked = []; behind = [] };
    parted = inl record { unmarked = none; listing_is = refl; marked_is = refl; behind_is = refl };
  }
  by input (inr m) = record {
    pieces = record { listing = ended m.before; marked = joined (mark ∷ m.after); behind = joined m.after };
    parted = inr record {
      before = m.before;
      after = m.after;
      lines = m.is;
      first = m.first;
      listing_is = refl;
      marked_is = refl;
      behind_is = refl;
    };
  }

  pub some_way : (input : List ℕ) → HasPieces mark input
  some_way input = by input (look (lines_of input))
