-- Where the lines of a text stand in it.
use Rattle.std.proofs.Common.{◌≡◌, ℕ, ◌+◌, ◌-◌, ◌≤◌, Bool, true, false, List, [], ◌++◌, length, take, drop}
use Rattle.std.proofs.Common.{sym, ap, ◌∙◌, arith, append_assoc, append-nil, length-append, length-drop}
use Rattle.std.specs.Prelude.{if◌then◌else◌}
use Rattle.std.proofs.Math.Seq.{take-append_seam, drop-append_seam}
use Rattle.std.proofs.lemmas.List.{take-append-drop, drop-drop}
use Rattle.z_fields.specs.Pieces.{ends_with, shortened, without_return, without_end}
use Rattle.z_reading.specs.Kept.{IsThere}

-- the text begins with the part
abbrev IsFront : List ℕ → List ℕ → Type 0
IsFront part text = (rest : List ℕ) × (part ++ rest ≡ text)

taken : (n : ℕ) (l : List ℕ) → IsFront (take n l) l
taken n l = (drop n l, take-append-drop n l)

whole : (l : List ℕ) → IsFront l l
whole l = ([], append-nil l)

front_then : (a b c : List ℕ) → IsFront a b → IsFront b c → IsFront a c
front_then a b c f g = (f.0 ++ g.0, sym (append_assoc a f.0 g.0) ∙ (ap (λ x. x ++ g.0) f.1 ∙ g.1))

-- A text begins with what is left of it without its return, and without its end.
returned : (l : List ℕ) → IsFront (without_return l) l
returned l = by_end (ends_with 13 l)
  where
    by_end : (b : Bool) → IsFront (if b then shortened l else l) l
    by_end true = taken _ l
    by_end false = whole l

ended : (l : List ℕ) → IsFront (without_end l) l
ended l = by_end (ends_with 10 l)
  where
    by_end : (b : Bool) → IsFront (if b then without_return (shortened l) else l) l
    by_end true = front_then (without_return (shortened l)) (shortened l) l (returned (shortened l)) (taken _ l)
    by_end false = whole l

part_there : (text part more : List ℕ) (first : ℕ) → first ≤ length text → part ++ more ≡ drop first text →
    IsThere text first part
part_there text part more first size parts =
    let count : length part + length more ≡ length text - first =
    sym (length-append part more) ∙ (ap length parts ∙ length-drop first text) in
    let same : first + length part - first ≡ length part = omega arith in
    record {
      within = omega arith;
      is = ap (λ n. take n (drop first text)) same
          ∙ (ap (take (length part)) (sym parts) ∙ take-append_seam part more);
    }

module _ (text rest piece behind : List ℕ) (size : length rest ≤ length text)
    (place : drop (length text - length rest) text ≡ rest) (parts : piece ++ behind ≡ rest) where
  -- The first line of the rest stands where the rest begins.
  pub there : IsThere text (length text - length rest) (without_end piece)
  there =
      let front = front_then (without_end piece) piece rest (ended piece) (behind, parts) in
      part_there text (without_end piece) front.0 (length text - length rest) (omega arith)
      (front.1 ∙ sym place)

  count : length piece + length behind ≡ length rest
  count = sym (length-append piece behind) ∙ ap length parts

  -- What is behind it is no longer than the rest, and stands at the end of the text.
  pub shorter : length behind ≤ length text
  shorter = omega (arith, count)

  pub next : drop (length text - length behind) text ≡ behind
  next =
      let step : length text - length behind ≡ (length text - length rest) + length piece =
      omega (arith, count) in
      ap (λ n. drop n text) step
      ∙ (sym (drop-drop (length piece) (length text - length rest) text)
      ∙ (ap (drop (length piece)) (place ∙ sym parts) ∙ drop-append_seam piece behind))
