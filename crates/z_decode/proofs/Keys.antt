-- The rows stand in the order of their keys, so a binary search finds the row of a key.
use Rattle.std.proofs.Common.{◌≡◌, ℕ, ◌<◌, ◌≤◌, ◌/◌, zero, suc, true, refl, List, [], ◌∷◌, length}
use Rattle.std.proofs.Common.{get_or, nat_le, map, arith, sym, ap, ◌∙◌, inl, inr, Ok, Err}
use Rattle.std.specs.List.{list_all}
use Rattle.std.specs.List.Sorted.{IsBinarySearchResult}
use Rattle.std.specs.Ordering.{nat_cmp, ordering_index}
use Rattle.std.proofs.lemmas.Cmp.{ranked}
use Rattle.std.proofs.lemmas.Bool.Decides.{nat_tests}
use Rattle.std.proofs.lemmas.List.{get_or-map}
use Rattle.std.proofs.lemmas.List.Sorted.{IsNonDecreasingBy-from_default}
use Rattle.std.proofs.lemmas.Bool.{leb-true, cases_lt}
use Rattle.z_instr.specs.declared.table.TheConstants.{TABLE, ROWS}
use Rattle.z_instr.specs.declared.table.Line.{Line}
use Rattle.z_instr.specs.declared.table.Use.TheVariants.{Free}
use Rattle.z_instr.specs.declared.form.Form.TheVariants as forms
use Rattle.z_instr.specs.declared.kind.Kind.TheVariants.{Branch}
use Rattle.z_instr.specs.declared.kind.Branch.TheVariants.{ServiceCall}
use Rattle.z_instr.specs.declared.format.Place.{Place}
use Rattle.z_instr.specs.declared.format.Place.TheVariants.{First, FirstTwo, FirstHalf, Ends}
use Rattle.z_instr.specs.Table.{entry_at}
use Rattle.z_instr.specs.Lines.{entry_of}
use Rattle.z_instr.specs.Layout.{place, lead}
use Rattle.z_instr.specs.Facts.{is_same_place}
use Rattle.z_instr.specs.Places.{opcode_at, HasOpcode}
use Rattle.z_instr.specs.Reading.{AreBytes}
use Rattle.z_instr.proofs.Passing.{passes, and_left, and_right}
use Rattle.z_instr.proofs.TableFacts.{line_is, passes_row}
use Rattle.z_instr.proofs.Distinct.{leads}
use Rattle.z_decode.specs.Keys.{place_by, key_at, key_of, key_with, key_in, is_rising, has_telling_lead}

-- ---- what the computed tests say

rises : (xs : List ℕ) (i j : ℕ) → is_rising xs ≡ true → i ≤ j → j < length xs → get_or xs i 0 ≤ get_or xs j 0
rises [] i j h l k = absurd (omega arith)
rises (x ∷ xs) zero zero h l k = omega arith
rises (x ∷ xs) zero (suc j) h l k =
    leb-true _ _ (passes (nat_le x) xs j 0 (and_left (list_all (nat_le x) xs) (is_rising xs) h) (omega arith))
rises (x ∷ xs) (suc i) zero h l k = absurd (omega arith)
rises (x ∷ xs) (suc i) (suc j) h l k =
    rises xs i j (and_right (list_all (nat_le x) xs) (is_rising xs) h) (omega arith) (omega arith)

-- a line for places past the end
abbrev blank : Line
blank = record {
  letters = [];
  count = 0;
  opcode = 0;
  form = forms.RR;
  usage = Free;
  kind = Branch ServiceCall;
}

-- the key of a line of the code's table
abbrev key_of_line : Line → ℕ
key_of_line l = key_of (entry_of l)

keys_rise : is_rising (map key_of_line TABLE) ≡ true
keys_rise = refl

lines_rise : (x i j : ℕ) → i ≤ j → j < length TABLE →
    ordering_index (nat_cmp (key_of_line (get_or TABLE i blank)) x) ≤
    ordering_index (nat_cmp (key_of_line (get_or TABLE j blank)) x)
lines_rise x i j l h =
    let up : key_of_line (get_or TABLE i blank) ≤ key_of_line (get_or TABLE j blank) =
    rw (← get_or-map key_of_line TABLE i blank 0 (omega (arith, l, h)), ← get_or-map key_of_line TABLE j blank 0 h)
    (rises (map key_of_line TABLE) i j keys_rise l h) in
    grind (arith, nat_tests, up)

-- where a binary search finds a key, it is that of the row there
pub key_found : (x i : ℕ) → i < ROWS → IsBinarySearchResult (λ l. nat_cmp (key_of_line l) x) TABLE (Ok i) →
    key_of (entry_at i) ≡ x
key_found x i h found = sym (ap key_of (line_is i blank h)) ∙ ranked _ x _ (sym (found blank))

-- where it finds none, no row has it
pub no_row_key : (x i : ℕ) → IsBinarySearchResult (λ l. nat_cmp (key_of_line l) x) TABLE (Err i) →
    (n : ℕ) → n < ROWS → key_of (entry_at n) ≡ x → ⊥
no_row_key x i parted n h e =
    let is : key_of_line (get_or TABLE n blank) ≡ x = ap key_of (line_is n blank h) ∙ e in
    let sides = parted (IsNonDecreasingBy-from_default (λ l. ordering_index (nat_cmp (key_of_line l) x)) TABLE blank
    (lines_rise x)) in
    elim (cases_lt n i) [
      | inl b ↦ absurd (omega (arith, ranked _ x _ (sym (sides.0 n blank (omega (arith, b)) b)), is))
      | inr a ↦ absurd (omega (arith, ranked _ x _ (sym (sides.1 n blank a h)), is))
    ]

-- ---- keys and opcodes

same_place : (p q : Place) → is_same_place p q ≡ true → p ≡ q
same_place First First h = refl
same_place FirstTwo FirstTwo h = refl
same_place FirstHalf FirstHalf h = refl
same_place Ends Ends h = refl
same_place First FirstTwo h = cc
same_place First FirstHalf h = cc
same_place First Ends h = cc
same_place FirstTwo First h = cc
same_place FirstTwo FirstHalf h = cc
same_place FirstTwo Ends h = cc
same_place FirstHalf First h = cc
same_place FirstHalf FirstTwo h = cc
same_place FirstHalf Ends h = cc
same_place Ends First h = cc
same_place Ends FirstTwo h = cc
same_place Ends FirstHalf h = cc

told_place : (n : ℕ) → n < ROWS → place_by (lead (place (entry_at n).form) (entry_at n).opcode) ≡
    place (entry_at n).form
told_place n h = same_place _ _ (passes_row has_telling_lead refl n h)

key_of_opcode : (p : Place) (bytes : List ℕ) → AreBytes bytes →
    key_with p bytes ≡ key_at p (opcode_at p bytes)
key_of_opcode First bytes b = refl
key_of_opcode FirstTwo bytes b = refl
key_of_opcode FirstHalf bytes b = omega arith
key_of_opcode Ends bytes b = refl

lead_of_key : (p : Place) (opcode : ℕ) → key_at p opcode / 256 ≡ lead p opcode
lead_of_key First o = omega arith
lead_of_key FirstTwo o = refl
lead_of_key FirstHalf o = omega arith
lead_of_key Ends o = refl

one_opcode : (p : Place) (o r : ℕ) → key_at p o ≡ key_at p r → o ≡ r
one_opcode First o r e = omega arith
one_opcode FirstTwo o r e = e
one_opcode FirstHalf o r e = omega arith
one_opcode Ends o r e = e

pub opcode_to_key : (n : ℕ) (bytes : List ℕ) → n < ROWS → AreBytes bytes → HasOpcode (entry_at n) bytes →
    key_of (entry_at n) ≡ key_in bytes
opcode_to_key n bytes h b f =
    let p = place (entry_at n).form in
    let starts : lead p (entry_at n).opcode ≡ get_or bytes 0 0 = ap (lead p) (sym f) ∙ leads p bytes b in
    let told : place_by (get_or bytes 0 0) ≡ p = ap place_by (sym starts) ∙ told_place n h in
    sym (ap (λ q. key_with q bytes) told ∙ key_of_opcode p bytes b ∙ ap (key_at p) f)

pub key_to_opcode : (n : ℕ) (bytes : List ℕ) → n < ROWS → AreBytes bytes →
    key_of (entry_at n) ≡ key_in bytes → HasOpcode (entry_at n) bytes
key_to_opcode n bytes h b f =
    let p = place (entry_at n).form in
    let q = place_by (get_or bytes 0 0) in
    let starts : lead p (entry_at n).opcode ≡ get_or bytes 0 0 =
    sym (lead_of_key p (entry_at n).opcode) ∙ ap (λ k. k / 256) (f ∙ key_of_opcode q bytes b) ∙
    lead_of_key q (opcode_at q bytes) ∙ leads q bytes b in
    let told : q ≡ p = ap place_by (sym starts) ∙ told_place n h in
    one_opcode p (opcode_at p bytes) (entry_at n).opcode (sym (key_of_opcode p bytes b) ∙
    sym (ap (λ r. key_with r bytes) told) ∙ sym f)
