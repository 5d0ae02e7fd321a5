-- Needs of lines, one line after the other.
use Rattle.std.proofs.Common.{◌≡◌, ℕ, ◌+◌, ◌<◌, ◌≤◌, true, false, List, [], ◌∷◌, ◌++◌, length, map, take, drop}
use Rattle.std.proofs.Common.{get_or, Option, Some, None, refl, sym, ap, ◌∙◌, arith}
use Rattle.std.proofs.lemmas.List.{take_more, drop_more, drop_all, map-append}
use Rattle.z_regs.specs.declared.ranges.Range.{Range}
use Rattle.line_table.specs.declared.table.Mode.{Mode}
use Rattle.tx_lending.specs.Need.{Need}
use Rattle.tx_lending.specs.Needs.{needs_of}
use Rattle.tx_lending.specs.Asking.{is_there}
use Rattle.tx_marks.specs.Marks.{with_need, with_needs, first_missing}
use Rattle.tx_marks.proofs.MarksNeeded.{one_needed, there_first, missing_first}

-- where nothing is touched, no line is needed
pub none_touched : (ranges : List Range) → length ranges ≡ 0 → needs_of ranges ≡ []
unfolding needs_of
none_touched [] none = refl
none_touched (r ∷ rest) none = absurd (omega (arith, none))

-- no line is needed yet
pub none_added : (modes : ℕ → Option Mode) (line : ℕ) → modes line ≡ with_needs [] modes line
unfolding with_needs
none_added modes line = refl

module _ (f : ℕ → Need) (lines : List ℕ) (modes : ℕ → Option Mode) where
  -- one line more is there as it is needed
  pub line_added : (i : ℕ) (need : Need) (before after : ℕ → Option Mode) (line : ℕ) → i < length lines
      → need ≡ f (get_or lines i 0)
      → before line ≡ with_needs (map f (take i lines)) modes line
      → after line ≡ with_need need before line
      → after line ≡ with_needs (map f (take (i + 1) lines)) modes line
  line_added i need before after line lt this so_far one =
      one ∙ one_needed (map f (take i lines)) need modes before line so_far
      ∙ ap (λ needs. with_needs needs modes line)
      (ap (λ n. map f (take i lines) ++ n ∷ []) this
      ∙ sym (ap (map f) (take_more lines i 0 lt) ∙ map-append f (take i lines) (get_or lines i 0 ∷ [])))

  -- the lines from this one on
  from_here : (i : ℕ) (need : Need) → i < length lines → need ≡ f (get_or lines i 0)
      → map f (drop i lines) ≡ need ∷ map f (drop (i + 1) lines)
  from_here i need lt this =
      ap (map f) (drop_more lines i 0 lt) ∙ ap (λ n. n ∷ map f (drop (i + 1) lines)) (sym this)

  -- a line that is there is not the first that is missing
  pub line_there : (i : ℕ) (need : Need) → i < length lines → need ≡ f (get_or lines i 0)
      → is_there need.mode (modes need.line) ≡ true
      → first_missing (map f lines) modes ≡ first_missing (map f (drop i lines)) modes
      → first_missing (map f lines) modes ≡ first_missing (map f (drop (i + 1) lines)) modes
  line_there i need lt this there so_far =
      so_far ∙ ap (λ needs. first_missing needs modes) (from_here i need lt this)
      ∙ there_first need (map f (drop (i + 1) lines)) modes there

  -- a line that is not there is the first
  pub line_missing : (i : ℕ) (need : Need) → i < length lines → need ≡ f (get_or lines i 0)
      → is_there need.mode (modes need.line) ≡ false
      → first_missing (map f lines) modes ≡ first_missing (map f (drop i lines)) modes
      → first_missing (map f lines) modes ≡ Some need.line
  line_missing i need lt this missing so_far =
      so_far ∙ ap (λ needs. first_missing needs modes) (from_here i need lt this)
      ∙ missing_first need (map f (drop (i + 1) lines)) modes missing

  -- no line is missing
  pub none_missing : (n : ℕ) → length lines ≤ n
      → first_missing (map f lines) modes ≡ first_missing (map f (drop n lines)) modes
      → first_missing (map f lines) modes ≡ None
  unfolding first_missing
  none_missing n le so_far = so_far ∙ ap (λ l. first_missing (map f l) modes) (drop_all n lines le)
