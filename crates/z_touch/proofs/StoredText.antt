-- What the test of protection says of bytes.
use Rattle.std.proofs.Common.{◌≡◌, ℕ, ◌+◌, ◌*◌, ◌/◌, ◌<◌, Bool, true, false, ◌&&◌, ◌||◌, nat_eq, ltb, lit<, List, [], ◌∷◌, Option, ◌↔◌, refl, ap, sym, ◌∙◌, arith}
use Rattle.std.specs.List.{list_any}
use Rattle.std.proofs.lemmas.Bool.Decides.{nat_tests}
use Rattle.std.proofs.lemmas.Bool.{ltb-true, or_right}
use Rattle.z_regs.specs.Prefix.{is_prefix, absolute_of}
use Rattle.z_regs.proofs.MovedBytes.{same_pages}
use Rattle.z_instr.specs.Operands.{Span, IsSmall, is_stored_into, pieces}
use Rattle.z_instr.specs.Access.{text_pages, absolute_page}
use Rattle.z_instr.proofs.Passing.{and_left, and_right}
use Rattle.z_instr.proofs.Pieces.{holds_byte, is_among_pieces}
use Rattle.z_touch.specs.Text.{HasStoredText, IsText}
use Rattle.z_touch.proofs.SmallRanges.{any-text_pages}

-- ---- a number of the list that passes a test

record Passing (t : ℕ → Bool) (xs : List ℕ) : Type 0 where
  number : ℕ
  there : list_any (nat_eq number) xs ≡ true
  passes : t number ≡ true

first_or_later : (t : ℕ → Bool) (x : ℕ) (xs : List ℕ) (b : Bool) → t x ≡ b → (b || list_any t xs) ≡ true →
    (list_any t xs ≡ true → Passing t xs) → Passing t (x ∷ xs)
first_or_later t x xs true e h later = record {
  number = x;
  there = ap (λ c. c || list_any (nat_eq x) xs) (let same : nat_eq x x ≡ true = grind (arith, nat_tests) in
      same);
  passes = e;
}
first_or_later t x xs false e h later =
    let found = later h in
    record { number = found.number; there = or_right _ _ found.there; passes = found.passes }

passing : (t : ℕ → Bool) (xs : List ℕ) → list_any t xs ≡ true → Passing t xs
passing t [] h = absurd (cc)
passing t (x ∷ xs) h = first_or_later t x xs (t x) refl h (passing t xs)

here_or_later : (t : ℕ → Bool) (x q : ℕ) (xs : List ℕ) (b : Bool) → nat_eq q x ≡ b →
    (b || list_any (nat_eq q) xs) ≡ true → t q ≡ true →
    (list_any (nat_eq q) xs ≡ true → list_any t xs ≡ true) →
    list_any t (x ∷ xs) ≡ true
here_or_later t x q xs true e h k later =
    let same : q ≡ x = grind (arith, nat_tests) in
    ap (λ c. c || list_any t xs) (ap t (sym same) ∙ k)
here_or_later t x q xs false e h k later = or_right _ _ (later h)

passed : (t : ℕ → Bool) (xs : List ℕ) (q : ℕ) → list_any (nat_eq q) xs ≡ true → t q ≡ true →
    list_any t xs ≡ true
passed t [] q h k = absurd (cc)
passed t (x ∷ xs) q h k = here_or_later t x q xs (nat_eq q x) refl h k (λ there. passed t xs q there k)

-- ---- bytes and their pages

-- the page of a byte's absolute address is that of its page
byte_page : (prefix : Option ℕ) (a : ℕ) → is_prefix prefix ≡ true →
    absolute_of prefix a / 4096 ≡ absolute_page prefix (a / 4096)
byte_page prefix a h = (same_pages prefix a (a / 4096 * 4096) h).1 (omega arith)

text_byte : (prefix : Option ℕ) (text : List ℕ) (a q : ℕ) → is_prefix prefix ≡ true → a / 4096 ≡ q →
    list_any (nat_eq q) (text_pages prefix text) ≡ true → IsText prefix text a
text_byte prefix text a q h e there =
    let b : (ltb q 256 && list_any (nat_eq (absolute_page prefix q)) text) ≡ true =
    sym (any-text_pages prefix text q) ∙ there in
    let low : q < 256 = ltb-true q 256 (and_left _ _ b) in (
      omega arith,
      ap (λ p. list_any (nat_eq p) text) (byte_page prefix a h ∙ ap (absolute_page prefix) e)
          ∙ and_right _ _ b,
    )

byte_text : (prefix : Option ℕ) (text : List ℕ) (a : ℕ) → is_prefix prefix ≡ true → IsText prefix text a →
    list_any (nat_eq (a / 4096)) (text_pages prefix text) ≡ true
byte_text prefix text a h is =
    let within = is.0 in
    let low : ltb (a / 4096) 256 ≡ true = grind (arith, nat_tests) in
    any-text_pages prefix text (a / 4096)
    ∙ (λ i. low i && (ap (λ p. list_any (nat_eq p) text) (sym (byte_page prefix a h)) ∙ is.1) i)

pub stored_text : (prefix : Option ℕ) (text : List ℕ) (s : Span) → is_prefix prefix ≡ true → IsSmall s →
    (is_stored_into (text_pages prefix text) s ≡ true) ↔ HasStoredText prefix text s
stored_text prefix text s h small = (
  λ refused.
      let found = passing _ (pieces 4096 s) (and_right s.store _ refused) in
      let held = holds_byte 4096 s found.number (lit< tt) small.some found.there in (
        and_left s.store _ refused,
        (held.0, held.1, text_byte prefix text (s.first + held.0) found.number h held.2 found.passes),
      ),
  λ reaches.
      let k = reaches.1.0 in
      let page = (s.first + k) / 4096 in
      let held = is_among_pieces 4096 s page (lit< tt) small.some (k, reaches.1.1, refl) in
      let any = passed _ (pieces 4096 s) page held (byte_text prefix text (s.first + k) h reaches.1.2) in
      λ i. reaches.0 i && any i,
)
