-- Lines of a text that have been passed, one after the other.
use Rattle.std.proofs.Common.{◌≡◌, ℕ, ◌+◌, ◌-◌, ◌≤◌, false, List, [], ◌∷◌, ◌++◌, length, take, drop, refl, sym, ap}
use Rattle.std.proofs.Common.{◌∙◌, arith, eqb, slice_index, All, append_assoc, length-append}
use Rattle.std.proofs.lemmas.Bool.{ne_eqb}
use Rattle.std.proofs.lemmas.List.{append-nil, length-drop, take_all}
use Rattle.std.proofs.lemmas.List.Elements.{All-from_get_or}
use Rattle.std.proofs.lemmas.List.Splits.{slice_split_at, slice_split_none}
use Rattle.std.proofs.lemmas.Grind.{flat_map-append}
use Rattle.std.proofs.Math.Seq.{drop-append_seam, take-append_seam, drop-length}
use Rattle.tx_journal.specs.Numbers.{Lacks}
use Rattle.input_parts.specs.Lines.{lines_of, ended}

-- ---- one line

plain : (line : List ℕ) → Lacks 10 line → All (λ b. eqb b 10 ≡ false) line
plain line lacks =
    All-from_get_or (λ b. eqb b 10 ≡ false) line 0 (λ i within. ne_eqb (slice_index line i) 10 (lacks i within))

pub one_line : (line rest : List ℕ) → Lacks 10 line → lines_of (line ++ 10 ∷ rest) ≡ line ∷ lines_of rest
one_line line rest lacks = slice_split_at (λ b. eqb b 10) line 10 rest (plain line lacks) refl

pub last_line : (line : List ℕ) → Lacks 10 line → lines_of line ≡ line ∷ []
last_line line lacks = slice_split_none (λ b. eqb b 10) line (plain line lacks)

ended_more : (before : List (List ℕ)) (line : List ℕ)
    → ended (before ++ line ∷ []) ≡ ended before ++ (line ++ 10 ∷ [])
ended_more before line =
    flat_map-append (λ (l : List ℕ). l ++ 10 ∷ []) before (line ∷ [])
    ∙ ap (λ (l : List ℕ). ended before ++ l) (append-nil (line ++ 10 ∷ []))

-- what stands behind a place
pub rest_of : (text : List ℕ) (from : ℕ) → take (length text - from) (drop from text) ≡ drop from text
rest_of text from = take_all (length text - from) (drop from text) (omega (arith, length-drop from text))

-- behind the end nothing stands
pub none_behind : (text : List ℕ) → take (length text - length text) (drop (length text) text) ≡ []
none_behind text = rest_of text (length text) ∙ drop-length text

-- ---- lines that have been passed

-- these lines stand before a place, and the text goes on behind them
pub record Passed (text : List ℕ) (from : ℕ) (before : List (List ℕ)) : Type 0 where
  pub tail : List ℕ
  pub whole : text ≡ ended before ++ tail
  pub size : length (ended before) ≡ from
  pub lines : lines_of text ≡ before ++ lines_of tail
  pub within : from ≤ length text

pub nothing_passed : (text : List ℕ) → Passed text 0 []
nothing_passed text = record {
  tail = text;
  whole = refl;
  size = refl;
  lines = refl;
  within = omega arith;
}

module _ (text : List ℕ) (from : ℕ) (before : List (List ℕ)) (p : Passed text from before) where
  pub tail_is : drop from text ≡ p.tail
  tail_is =
      ap (λ n. drop n text) (sym p.size)
      ∙ ap (λ (t : List ℕ). drop (length (ended before)) t) p.whole ∙ drop-append_seam (ended before) p.tail

  pub front_is : take from text ≡ ended before
  front_is =
      ap (λ n. take n text) (sym p.size)
      ∙ ap (λ (t : List ℕ). take (length (ended before)) t) p.whole ∙ take-append_seam (ended before) p.tail

  -- the last line has no end
  pub at_last : Lacks 10 (drop from text) → lines_of text ≡ before ++ drop from text ∷ []
  at_last lacks =
      p.lines ∙ ap (λ (t : List ℕ). before ++ lines_of t) (sym tail_is)
      ∙ ap (λ (ls : List (List ℕ)). before ++ ls) (last_line (drop from text) lacks)

  module _ (line rest : List ℕ) (cut : drop from text ≡ line ++ 10 ∷ rest) (lacks : Lacks 10 line) where
    -- another one has
    pub at_line : lines_of text ≡ before ++ line ∷ lines_of rest
    at_line =
        p.lines ∙ ap (λ (t : List ℕ). before ++ lines_of t) (sym tail_is ∙ cut)
        ∙ ap (λ (ls : List (List ℕ)). before ++ ls) (one_line line rest lacks)

    grown : ended (before ++ line ∷ []) ++ rest ≡ ended before ++ (line ++ 10 ∷ rest)
    grown =
        ap (λ (t : List ℕ). t ++ rest) (ended_more before line)
        ∙ append_assoc (ended before) (line ++ 10 ∷ []) rest
        ∙ ap (λ (t : List ℕ). ended before ++ t) (append_assoc line (10 ∷ []) rest)

    longer : length (ended (before ++ line ∷ [])) ≡ from + (length line + 1)
    longer =
        let one = ap length (ended_more before line) in
        let two = length-append (ended before) (line ++ 10 ∷ []) in
        let three = length-append line (10 ∷ []) in
        omega (arith, one, two, three, p.size)

    pub still_within : from + (length line + 1) ≤ length text
    still_within =
        let one = ap length cut in
        let two = length-append line (10 ∷ rest) in
        let three = length-drop from text in
        omega (arith, one, two, three, p.within)

    pub passed_more : Passed text (from + (length line + 1)) (before ++ line ∷ [])
    passed_more = record {
      tail = rest;
      whole = p.whole ∙ ap (λ (t : List ℕ). ended before ++ t) (sym tail_is ∙ cut) ∙ sym grown;
      size = longer;
      lines = at_line ∙ sym (append_assoc before (line ∷ []) (lines_of rest));
      within = still_within;
    }
