-- What the layouts of rows have, and what instructions have by their rows.
use Rattle.std.proofs.Common.{◌≡◌, ℕ, zero, suc, ◌+◌, ◌*◌, ◌/◌, ◌%◌, ◌^◌, ◌<◌, ◌≤◌, true, Bool, ◌&&◌, ◌||◌, nat_eq, nat_le}
use Rattle.std.proofs.Common.{List, [], ◌∷◌, length, take, drop, get_or, refl, sym, ap, ap₂, subst, ◌∙◌, arith}
use Rattle.std.proofs.Common.{FitsSigned, w64}
use Rattle.std.specs.List.{list_all}
use Rattle.std.specs.Prelude.{ℤ, pos, negsuc, ◌-◌}
use Rattle.std.proofs.Math.Seq.{drop-cons}
use Rattle.std.proofs.lemmas.Bool.{leb-true}
use Rattle.std.proofs.lemmas.Nat.{pow-add}
use Rattle.std.proofs.Math.Nat.{pow-suc, mod-eq_of_lt}
use Rattle.z_instr.specs.declared.instr.Instr.{Instr}
use Rattle.z_instr.specs.declared.layout.Digit.{Digit}
use Rattle.z_instr.specs.declared.table.TheConstants.{ROWS}
use Rattle.z_instr.specs.Table.{Entry, entry_at}
use Rattle.z_instr.specs.Layouts.{layout_of, width, digit, spelled, digits_from, number_in, taken}
use Rattle.z_instr.proofs.Wholes.{whole, taken_below}
use Rattle.z_instr.specs.Ranges.{is_within, bounds, limits_of}
use Rattle.z_instr.proofs.Passing.{and_left, and_right}
use Rattle.z_instr.proofs.TableFacts.{passes_row}
use Rattle.z_instr.proofs.Within.{instr_fits, numbers_of}
use Rattle.z_decode.specs.Code.{is_small, six, zeros_after, part}

pub small_at : (n : ℕ) → n < ROWS → list_all is_small (layout_of (entry_at n)) ≡ true
small_at = passes_row (λ e. list_all is_small (layout_of e)) refl

-- ---- immediates

abbrev is_wide : Entry → Bool
is_wide e = nat_le (limits_of e).imm.below 2147483648 && nat_le (limits_of e).imm.above 4294967296

within_more : (z : ℤ) (l h m n : ℕ) → l ≤ m → h ≤ n → is_within (bounds l h) z ≡ true → is_within (bounds m n) z ≡ true
within_more (pos k) l h m n a b e = grind arith
within_more (negsuc k) l h m n a b e = grind arith

pub wide_immediate : (i : Instr) → is_within (bounds 2147483648 4294967296) i.imm ≡ true
wide_immediate i =
    let e = entry_at i.op.number in
    let w = passes_row is_wide refl i.op.number i.op.known in
    within_more i.imm (limits_of e).imm.below (limits_of e).imm.above 2147483648 4294967296
    (leb-true _ _ (and_left _ _ w)) (leb-true _ _ (and_right _ _ w)) (numbers_of (limits_of e) i (instr_fits i)).imm_in

-- ---- powers of sixteen

pub sixteen : (k : ℕ) → 16 ^ k ≡ 2 ^ (4 * k)
sixteen zero = refl
sixteen (suc k) =
    pow-suc 16 k ∙ ap (λ n. n * 16) (sixteen k) ∙ sym (pow-add 2 (4 * k) 4) ∙ ap (λ n. 2 ^ n) (later k)
  where
    later : (k : ℕ) → 4 * k + 4 ≡ 4 * suc k
    later k = omega arith

-- a half of a byte in the place of a digit
pub half_small : (h k : ℕ) → h < 16 → k < 8 → h * 16 ^ k < 4294967296
half_small h zero a b = omega arith
half_small h (suc zero) a b = omega arith
half_small h (suc (suc zero)) a b = omega arith
half_small h (suc (suc (suc zero))) a b = omega arith
half_small h (suc (suc (suc (suc zero)))) a b = omega arith
half_small h (suc (suc (suc (suc (suc zero))))) a b = omega arith
half_small h (suc (suc (suc (suc (suc (suc zero)))))) a b = omega arith
half_small h (suc (suc (suc (suc (suc (suc (suc zero))))))) a b = omega arith
half_small h (suc (suc (suc (suc (suc (suc (suc (suc k)))))))) a b = absurd (omega arith)

pub half_is : (h k : ℕ) → h < 16 → k < 8 → h * 2 ^ (4 * k) % 18446744073709551616 ≡ h * 16 ^ k
half_is h k a b =
    let small = half_small h k a b in
    ap (λ n. h * n % 18446744073709551616) (sym (sixteen k)) ∙ mod-eq_of_lt (omega arith)

-- ---- six bytes

pub six_is : {a b c d e f : ℕ} (s : List ℕ) → a ≡ get_or s 0 0 → b ≡ get_or s 1 0 → c ≡ get_or s 2 0 →
    d ≡ get_or s 3 0 → e ≡ get_or s 4 0 → f ≡ get_or s 5 0 → (a ∷ b ∷ c ∷ d ∷ e ∷ f ∷ []) ≡ six s
six_is s h0 h1 h2 h3 h4 h5 = cc

pub first_of_six : (s : List ℕ) (n : ℕ) → length s ≡ n → (nat_eq n 2 || (nat_eq n 4 || nat_eq n 6)) ≡ true →
    take n (six s) ≡ s
first_of_six s n e h = subst (λ m. take m (six s) ≡ s) e (own s (subst (λ m. (nat_eq m 2 || (nat_eq m 4 || nat_eq m 6)) ≡ true) (sym e) h))
  where
    own : (s : List ℕ) → (nat_eq (length s) 2 || (nat_eq (length s) 4 || nat_eq (length s) 6)) ≡ true → take (length s) (six s) ≡ s
    own [] h = absurd (cc)
    own (a ∷ []) h = absurd (cc)
    own (a ∷ b ∷ []) h = refl
    own (a ∷ b ∷ c ∷ []) h = absurd (cc)
    own (a ∷ b ∷ c ∷ d ∷ []) h = refl
    own (a ∷ b ∷ c ∷ d ∷ e ∷ []) h = absurd (cc)
    own (a ∷ b ∷ c ∷ d ∷ e ∷ f ∷ []) h = refl
    own (a ∷ b ∷ c ∷ d ∷ e ∷ f ∷ g ∷ rest) h = absurd (grind arith)

pub rest_of_six : (s : List ℕ) (n : ℕ) → length s ≡ n → (nat_eq n 2 || (nat_eq n 4 || nat_eq n 6)) ≡ true →
    drop n (six s) ≡ zeros_after n
rest_of_six s n e h = subst (λ m. drop m (six s) ≡ zeros_after m) e (own s (subst (λ m. (nat_eq m 2 || (nat_eq m 4 || nat_eq m 6)) ≡ true) (sym e) h))
  where
    own : (s : List ℕ) → (nat_eq (length s) 2 || (nat_eq (length s) 4 || nat_eq (length s) 6)) ≡ true → drop (length s) (six s) ≡ zeros_after (length s)
    own [] h = absurd (cc)
    own (a ∷ []) h = absurd (cc)
    own (a ∷ b ∷ []) h = refl
    own (a ∷ b ∷ c ∷ []) h = absurd (cc)
    own (a ∷ b ∷ c ∷ d ∷ []) h = refl
    own (a ∷ b ∷ c ∷ d ∷ e ∷ []) h = absurd (cc)
    own (a ∷ b ∷ c ∷ d ∷ e ∷ f ∷ []) h = refl
    own (a ∷ b ∷ c ∷ d ∷ e ∷ f ∷ g ∷ rest) h = absurd (grind arith)

-- ---- digits one by one

pub digit_is : (xs : List ℕ) (r q k : ℕ) → q ≡ r → get_or xs q 0 / 2 ^ (4 * k) % 16 ≡ get_or xs r 0 / 16 ^ k % 16
digit_is xs r q k e =
    ap (λ n. get_or xs n 0 / 2 ^ (4 * k) % 16) e ∙ ap (λ m. get_or xs r 0 / m % 16) (sym (sixteen k))

-- a byte in its place, and none behind the last one
pub byte_there : (ds : List Digit) (v : ℕ → ℕ) (k : ℕ) (d : Digit) → 2 * k + 1 < length ds →
    digit v (get_or ds (2 * k) d) * 16 + digit v (get_or ds (2 * k + 1) d) ≡ get_or (spelled ds v) k 0
byte_there [] v k d h = absurd (omega arith)
byte_there (a ∷ []) v k d h = absurd (omega arith)
byte_there (a ∷ (b ∷ ds)) v zero d h = refl
byte_there (a ∷ (b ∷ ds)) v (suc k) d h =
    let first : 2 * suc k ≡ suc (suc (2 * k)) = omega arith in
    let second : 2 * suc k + 1 ≡ suc (suc (2 * k + 1)) = omega arith in
    ap₂ (λ x y. digit v (get_or (a ∷ (b ∷ ds)) x d) * 16 + digit v (get_or (a ∷ (b ∷ ds)) y d)) first second
    ∙ byte_there ds v k d (omega arith)

pub none_behind : (ds : List Digit) (v : ℕ → ℕ) (k : ℕ) → length ds ≤ 2 * k + 1 → 0 ≡ get_or (spelled ds v) k 0
none_behind [] v k h = refl
none_behind (a ∷ []) v k h = refl
none_behind (a ∷ (b ∷ ds)) v zero h = absurd (omega arith)
none_behind (a ∷ (b ∷ ds)) v (suc k) h = none_behind ds v k (omega arith)

-- what so many bytes hold, and the next one
next_digits : (n k : ℕ) (bytes : List ℕ) → k < n →
    digits_from (n - k) k bytes ≡ get_or bytes k 0 / 16 ∷ (get_or bytes k 0 % 16 ∷ digits_from (n - (k + 1)) (k + 1) bytes)
next_digits n k bytes h =
    let one : n - k ≡ suc (n - (k + 1)) = omega arith in
    let next : suc k ≡ k + 1 = omega arith in
    ap (λ m. digits_from m k bytes) one
    ∙ ap (λ j. get_or bytes k 0 / 16 ∷ (get_or bytes k 0 % 16 ∷ digits_from (n - (k + 1)) j bytes)) next

two_dropped : (ds : List Digit) (k : ℕ) (d : Digit) → 2 * k + 1 < length ds →
    drop (2 * k) ds ≡ get_or ds (2 * k) d ∷ (get_or ds (2 * k + 1) d ∷ drop (2 * (k + 1)) ds)
two_dropped ds k d h =
    let next : suc (2 * k) ≡ 2 * k + 1 = omega arith in
    let after : suc (2 * k + 1) ≡ 2 * (k + 1) = omega arith in
    drop-cons ds (2 * k) d (omega arith)
    ∙ ap (λ j. get_or ds (2 * k) d ∷ drop j ds) next
    ∙ ap (λ l. get_or ds (2 * k) d ∷ l) (drop-cons ds (2 * k + 1) d h)
    ∙ ap (λ j. get_or ds (2 * k) d ∷ (get_or ds (2 * k + 1) d ∷ drop j ds)) after

pub one_place : (ds : List Digit) (bytes : List ℕ) (k n r whole : ℕ) (d : Digit) → 2 * k + 1 < length ds →
    k < length bytes →
    n + number_in (drop (2 * k) ds) (digits_from (length bytes - k) k bytes) r ≡ whole →
    n + (part (get_or ds (2 * k) d) (get_or bytes k 0 / 16) r + part (get_or ds (2 * k + 1) d) (get_or bytes k 0 % 16) r)
    + number_in (drop (2 * (k + 1)) ds) (digits_from (length bytes - (k + 1)) (k + 1) bytes) r ≡ whole
one_place ds bytes k n r whole d h l e =
    grouped n (part (get_or ds (2 * k) d) (get_or bytes k 0 / 16) r) (part (get_or ds (2 * k + 1) d) (get_or bytes k 0 % 16) r)
    (number_in (drop (2 * (k + 1)) ds) (digits_from (length bytes - (k + 1)) (k + 1) bytes) r)
    ∙ ap₂ (λ xs hs. n + number_in xs hs r) (sym (two_dropped ds k d h)) (sym (next_digits (length bytes) k bytes l)) ∙ e
  where
    grouped : (n a b c : ℕ) → n + (a + b) + c ≡ n + (a + (b + c))
    grouped n a b c = omega arith

pub wide_fits : (z : ℤ) → is_within (bounds 2147483648 4294967296) z ≡ true → FitsSigned w64 z
wide_fits (pos n) h = grind arith
wide_fits (negsuc n) h = grind arith

-- ---- what bytes hold by the layout of a row

pub row_below : (n : ℕ) (bytes : List ℕ) (r : ℕ) → n < ROWS → ((k : ℕ) → get_or bytes k 0 < 256) →
    taken (layout_of (entry_at n)) bytes r < 16 ^ width (layout_of (entry_at n)) r
row_below n bytes r h b = taken_below (layout_of (entry_at n)) bytes r (whole n h) b
