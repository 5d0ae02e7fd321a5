-- Names with the same key are the same.
use Rattle.std.proofs.Common.{◌≡◌, ◌≢◌, ℕ, zero, suc, ◌+◌, ◌<◌, ◌≤◌, ◌&&◌, Bool, true, false, List, [], ◌∷◌}
use Rattle.std.proofs.Common.{length, get_or, refl, sym, ap, ◌∙◌, arith, not, nat_lt, nat_le, ◌-◌}
use borrow.Author.Tests.{ltb-true, ltb-false, leb-true}
use Rattle.std.specs.Str.{bytes_eq}
use Rattle.std.specs.Cmp.{nat_cmp_is}
use Rattle.std.specs.Ordering.{nat_cmp, is_eq}
use Rattle.std.specs.declared.cmp.Ordering.TheVariants.{Equal}
use Rattle.std.proofs.lemmas.Map.Lookups.{exact_bytes, exact_pairs, exact_unsigned}
use Rattle.std.proofs.lemmas.Map.Text.{is_eq-slice_cmp}
use Rattle.std.proofs.lemmas.Slice.Eq.{bytes_eq-Decides}
use Rattle.z_text.proofs.Table.{is_equal}
use Rattle.std.specs.List.{list_all}
use Rattle.std.specs.Char.{is_ascii_uppercase}
use Rattle.std.specs.Int.{w64, from_be_bytes, to_be_bytes}
use Rattle.std.proofs.lemmas.Grind.{common_steps}
use Rattle.std.proofs.lemmas.Nat.{be_bytes_8}
use Rattle.z_text.specs.Labels.{word_at, key_of}
use Rattle.z_text.specs.Line.{is_name, is_letter_or_digit}
use Rattle.std.proofs.lemmas.Bool.{and_parts, false_from_ne_true}

letter_bounds : (b : ℕ) → is_letter_or_digit b ≡ true → (0 < b) × (b < 256)
letter_bounds b h = (grind (arith, common_steps), grind (arith, common_steps))

pub capital_is_letter : (b : ℕ) → is_ascii_uppercase b ≡ true → is_letter_or_digit b ≡ true
capital_is_letter b h = rw h refl

-- A name is letters and digits, and has at most sixteen.
name_is : (name : List ℕ) → is_name name ≡ true →
    (list_all is_letter_or_digit name ≡ true) × (length name ≤ 16)
name_is [] h = cc
name_is (b ∷ bs) h =
    let first : (is_ascii_uppercase b ≡ true)
    × ((nat_le (length bs) 15 && list_all is_letter_or_digit bs) ≡ true) = and_parts _ _ h in
    let rest : (nat_le (length bs) 15 ≡ true) × (list_all is_letter_or_digit bs ≡ true) =
    and_parts _ _ first.1 in
    let begins : is_letter_or_digit b ≡ true = capital_is_letter b first.0 in
    let few : length bs ≤ 15 = leb-true (length bs) 15 rest.0 in
    (rw (begins, rest.1) refl, omega arith)

byte_bound : (name : List ℕ) (i : ℕ) → list_all is_letter_or_digit name ≡ true → get_or name i 0 < 256
byte_bound [] i h = omega arith
byte_bound (b ∷ bs) zero h = (letter_bounds b (and_parts _ _ h).0).1
byte_bound (b ∷ bs) (suc i) h = byte_bound bs i (and_parts _ _ h).1

eight_bound : (a b c d e f g h : ℕ) → a < 256 → b < 256 → c < 256 → d < 256 → e < 256 → f < 256 → g < 256 →
    h < 256 → (i : ℕ) → get_or (a ∷ b ∷ c ∷ d ∷ e ∷ f ∷ g ∷ h ∷ []) i 0 < 256
eight_bound a b c d e f g h pa pb pc pd pe pf pg ph zero = pa
eight_bound a b c d e f g h pa pb pc pd pe pf pg ph (suc zero) = pb
eight_bound a b c d e f g h pa pb pc pd pe pf pg ph (suc (suc zero)) = pc
eight_bound a b c d e f g h pa pb pc pd pe pf pg ph (suc (suc (suc zero))) = pd
eight_bound a b c d e f g h pa pb pc pd pe pf pg ph (suc (suc (suc (suc zero)))) = pe
eight_bound a b c d e f g h pa pb pc pd pe pf pg ph (suc (suc (suc (suc (suc zero))))) = pf
eight_bound a b c d e f g h pa pb pc pd pe pf pg ph (suc (suc (suc (suc (suc (suc zero)))))) = pg
eight_bound a b c d e f g h pa pb pc pd pe pf pg ph (suc (suc (suc (suc (suc (suc (suc zero))))))) = ph
eight_bound a b c d e f g h pa pb pc pd pe pf pg ph (suc (suc (suc (suc (suc (suc (suc (suc i)))))))) =
    omega arith

abbrev eight_at : List ℕ → ℕ → List ℕ
eight_at name at = get_or name at 0 ∷ get_or name (at + 1) 0 ∷ get_or name (at + 2) 0 ∷
    get_or name (at + 3) 0 ∷ get_or name (at + 4) 0 ∷ get_or name (at + 5) 0 ∷ get_or name (at + 6) 0 ∷
    get_or name (at + 7) 0 ∷ []

-- The number gives its eight bytes back.
word_has : (name : List ℕ) (at : ℕ) → list_all is_letter_or_digit name ≡ true →
    to_be_bytes w64 (word_at name at) ≡ eight_at name at
unfolding word_at
word_has name at h =
    be_bytes_8 (eight_at name at) (from_be_bytes w64 (eight_at name at)) refl
    (eight_bound _ _ _ _ _ _ _ _ (byte_bound name at h) (byte_bound name (at + 1) h)
    (byte_bound name (at + 2) h) (byte_bound name (at + 3) h) (byte_bound name (at + 4) h)
    (byte_bound name (at + 5) h) (byte_bound name (at + 6) h) (byte_bound name (at + 7) h)) refl

same_eight : (a b : List ℕ) (at : ℕ) → list_all is_letter_or_digit a ≡ true →
    list_all is_letter_or_digit b ≡ true → word_at a at ≡ word_at b at → eight_at a at ≡ eight_at b at
same_eight a b at p q e = sym (word_has a at p) ∙ (ap (to_be_bytes w64) e ∙ word_has b at q)

behind_last : (name : List ℕ) (i : ℕ) → length name ≤ i → get_or name i 0 ≡ 0
behind_last [] i h = refl
behind_last (b ∷ bs) zero h = absurd (omega arith)
behind_last (b ∷ bs) (suc i) h = behind_last bs i (omega arith)

-- Names with the same byte at each place are the same.
same_bytes : (a b : List ℕ) → list_all is_letter_or_digit a ≡ true → list_all is_letter_or_digit b ≡ true →
    ((i : ℕ) → get_or a i 0 ≡ get_or b i 0) → a ≡ b
same_bytes [] [] p q h = refl
same_bytes [] (y ∷ ys) p q h =
    let some = (letter_bounds y (and_parts _ _ q).0).0 in
    let none : 0 ≡ y = h 0 in absurd (omega arith)
same_bytes (x ∷ xs) [] p q h =
    let some = (letter_bounds x (and_parts _ _ p).0).0 in
    let none : x ≡ 0 = h 0 in absurd (omega arith)
same_bytes (x ∷ xs) (y ∷ ys) p q h =
    let first : x ≡ y = h 0 in
    let rest : xs ≡ ys = same_bytes xs ys (and_parts (is_letter_or_digit x) _ p).1
    (and_parts (is_letter_or_digit y) _ q).1 (λ i. h (suc i)) in ap (λ z. z ∷ xs) first ∙ ap (λ zs. y ∷ zs) rest

-- The eight bytes of two names are the same at each place.
same_at : (a b : List ℕ) (at : ℕ) → eight_at a at ≡ eight_at b at →
    (i : ℕ) → i < 8 → get_or a (at + i) 0 ≡ get_or b (at + i) 0
same_at a b at e zero h = let z : at + 0 ≡ at = omega arith in
    ap (λ k. get_or a k 0) z ∙ (ap (λ l. get_or l 0 0) e ∙ sym (ap (λ k. get_or b k 0) z))
same_at a b at e (suc zero) h = ap (λ l. get_or l 1 0) e
same_at a b at e (suc (suc zero)) h = ap (λ l. get_or l 2 0) e
same_at a b at e (suc (suc (suc zero))) h = ap (λ l. get_or l 3 0) e
same_at a b at e (suc (suc (suc (suc zero)))) h = ap (λ l. get_or l 4 0) e
same_at a b at e (suc (suc (suc (suc (suc zero))))) h = ap (λ l. get_or l 5 0) e
same_at a b at e (suc (suc (suc (suc (suc (suc zero)))))) h = ap (λ l. get_or l 6 0) e
same_at a b at e (suc (suc (suc (suc (suc (suc (suc zero))))))) h = ap (λ l. get_or l 7 0) e
same_at a b at e (suc (suc (suc (suc (suc (suc (suc (suc i)))))))) h = absurd (omega arith)

by_place : (a b : List ℕ) → length a ≤ 16 → length b ≤ 16 → eight_at a 0 ≡ eight_at b 0 →
    eight_at a 8 ≡ eight_at b 8 → (i : ℕ) → (below : Bool) → nat_lt i 8 ≡ below → (within : Bool) →
    nat_lt i 16 ≡ within → get_or a i 0 ≡ get_or b i 0
by_place a b p q e f i true h within g =
    let z : 0 + i ≡ i = omega arith in
    let here = same_at a b 0 e i (ltb-true i 8 h) in
    ap (λ k. get_or a k 0) (sym z) ∙ (here ∙ ap (λ k. get_or b k 0) z)
by_place a b p q e f i false h true g =
    let from : 8 ≤ i = ltb-false i 8 h in
    let to : i < 16 = ltb-true i 16 g in
    let z : 8 + (i - 8) ≡ i = omega arith in
    let here = same_at a b 8 f (i - 8) (omega arith) in
    ap (λ k. get_or a k 0) (sym z) ∙ (here ∙ ap (λ k. get_or b k 0) z)
by_place a b p q e f i false h false g =
    let from : 16 ≤ i = ltb-false i 16 g in
    behind_last a i (omega arith) ∙ sym (behind_last b i (omega arith))

-- The number of eight bytes of a name is below 2 ^ 64.
word_small : (name : List ℕ) (at : ℕ) → list_all is_letter_or_digit name ≡ true →
    word_at name at < 18446744073709551616
unfolding word_at
word_small name at h =
    let a = byte_bound name at h in
    let b = byte_bound name (at + 1) h in
    let c = byte_bound name (at + 2) h in
    let d = byte_bound name (at + 3) h in
    let e = byte_bound name (at + 4) h in
    let f = byte_bound name (at + 5) h in
    let g = byte_bound name (at + 6) h in
    let i = byte_bound name (at + 7) h in
    omega arith

-- Names of the listing with the same key are the same.
pub same_name : (a b : List ℕ) → is_name a ≡ true → is_name b ≡ true → key_of a ≡ key_of b → a ≡ b
unfolding key_of
same_name a b p q e =
    let at_a = name_is a p in
    let at_b = name_is b q in
    let low_a = word_small a 8 at_a.0 in
    let low_b = word_small b 8 at_b.0 in
    let high : word_at a 0 ≡ word_at b 0 = omega arith in
    let low : word_at a 8 ≡ word_at b 8 = omega arith in
    let first : eight_at a 0 ≡ eight_at b 0 = same_eight a b 0 at_a.0 at_b.0 high in
    let last : eight_at a 8 ≡ eight_at b 8 = same_eight a b 8 at_a.0 at_b.0 low in
    same_bytes a b at_a.0 at_b.0 (λ i. by_place a b at_a.1 at_b.1 first last i (nat_lt i 8) refl
    (nat_lt i 16) refl)

-- Texts that are found to be the same are the same.
pub bytes_same : (a b : List ℕ) → bytes_eq a b ≡ true → a ≡ b
bytes_same a b h = exact_bytes a b (is_equal _ (is_eq-slice_cmp a b ∙ h))

-- A text is found to be the same as itself.
pub bytes_differ : (a b : List ℕ) → a ≢ b → bytes_eq a b ≡ false
bytes_differ a b differ = false_from_ne_true (bytes_eq a b) (λ e. differ ((bytes_eq-Decides a b).0 e))

pub bytes_of_itself : (a : List ℕ) → bytes_eq a a ≡ true
bytes_of_itself a = (bytes_eq-Decides a a).1 refl
