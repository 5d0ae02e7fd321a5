-- An input is parted at its first line that is the mark.
use Rattle.std.proofs.Common.{◌≡◌, ◌≢◌, ℕ, ◌+◌, List, [], ◌∷◌, ◌++◌, length, take, drop, refl, sym, ap, subst, ◌∙◌}
use Rattle.std.proofs.Common.{inl, inr, Bool, true, false, Decides, eqb}
use Rattle.std.proofs.lemmas.Bool.{false≢true}
use Rattle.std.proofs.lemmas.Bool.Decides.{Decides-eqb}
use Rattle.std.proofs.lemmas.Slice.Eq.{slice_eq-Decides}
use lib.Pointwise.{pointwise}
use Rattle.std.proofs.lemmas.List.Elements.{All-nil, All-push}
use Rattle.std.proofs.lemmas.List.Splits.{join_with_byte-slice_split}
use Rattle.tx_journal.specs.Numbers.{Lacks}
use Rattle.input_parts.specs.Lines.{lines_of, joined}
use Rattle.input_parts.specs.Parts.{AreUnmarked, IsParted, Pieces}
use Rattle.input_parts.proofs.Passing.{Passed, nothing_passed, passed_more, at_line, at_last, front_is, one_line}
use Rattle.input_parts.proofs.Passing.{last_line}

-- texts that are found to be the same are, and others are not
module _ (mark line : List ℕ) (r : Bool) (is : r ≡ pointwise eqb line mark) where
  tells : Decides r (line ≡ mark)
  tells = slice_eq-Decides Decides-eqb line mark r is

  pub same_text : r ≡ true → line ≡ mark
  same_text found = tells.0 found

  pub other_text : r ≡ false → line ≢ mark
  other_text found same = false≢true (sym found ∙ tells.1 same)

-- none of the lines before a place is the mark
pub record Unmarked (mark input : List ℕ) (from : ℕ) : Type 0 where
  pub before : List (List ℕ)
  pub passed : Passed input from before
  pub first : AreUnmarked mark before

pub nothing_marked : (mark input : List ℕ) → Unmarked mark input 0
nothing_marked mark input = record {
  before = [];
  passed = nothing_passed input;
  first = All-nil (λ (line : List ℕ). line ≢ mark);
}

-- a text is its lines, joined
text_of : (text : List ℕ) (lines : List (List ℕ)) → lines_of text ≡ lines → text ≡ joined lines
text_of text lines are = sym (join_with_byte-slice_split 10 text) ∙ ap joined are

abbrev pieces : List ℕ → List ℕ → List ℕ → Pieces
pieces listing marked behind = record { listing = listing; marked = marked; behind = behind }

module _ (mark input : List ℕ) (from : ℕ) (u : Unmarked mark input from) where
  module _ (line rest : List ℕ) (cut : drop from input ≡ line ++ 10 ∷ rest) (lacks : Lacks 10 line) where
    pub unmarked_more : line ≢ mark → Unmarked mark input (from + (length line + 1))
    unmarked_more other = record {
      before = u.before ++ line ∷ [];
      passed = passed_more input from u.before u.passed line rest cut lacks;
      first = All-push (λ (l : List ℕ). l ≢ mark) u.before line u.first other;
    }

    lines_here : line ≡ mark → lines_of (drop from input) ≡ mark ∷ lines_of rest
    lines_here is =
        ap lines_of cut ∙ one_line line rest lacks ∙ ap (λ (l : List ℕ). l ∷ lines_of rest) is

    pub marked : line ≡ mark → (there : List ℕ) → there ≡ drop from input
        → IsParted mark input (pieces (take from input) there rest)
    marked is there there_is = inr record {
      before = u.before;
      after = lines_of rest;
      lines = at_line input from u.before u.passed line rest cut lacks
          ∙ ap (λ (l : List ℕ). u.before ++ l ∷ lines_of rest) is;
      first = u.first;
      listing_is = front_is input from u.before u.passed;
      marked_is = there_is ∙ text_of (drop from input) (mark ∷ lines_of rest) (lines_here is);
      behind_is = sym (join_with_byte-slice_split 10 rest);
    }

  module _ (lacks : Lacks 10 (drop from input)) (none : List ℕ) (none_is : none ≡ []) where
    pub marked_last : drop from input ≡ mark → (there : List ℕ) → there ≡ drop from input
        → IsParted mark input (pieces (take from input) there none)
    marked_last is there there_is = inr record {
      before = u.before;
      after = [];
      lines = at_last input from u.before u.passed lacks ∙ ap (λ (l : List ℕ). u.before ++ l ∷ []) is;
      first = u.first;
      listing_is = front_is input from u.before u.passed;
      marked_is = there_is ∙ text_of (drop from input) (mark ∷ [])
          (last_line (drop from input) lacks ∙ ap (λ (l : List ℕ). l ∷ []) is);
      behind_is = none_is;
    }

    pub without_mark : drop from input ≢ mark → IsParted mark input (pieces input none none)
    without_mark other = inl record {
      unmarked = subst (AreUnmarked mark) (sym (at_last input from u.before u.passed lacks))
          (All-push (λ (l : List ℕ). l ≢ mark) u.before (drop from input) u.first other);
      listing_is = refl;
      marked_is = none_is;
      behind_is = none_is;
    }
