-- The layout of each row is whole, and gives its length, the place of its opcode and the limits of its fields.
use Rattle.std.proofs.Common.{◌≡◌, ℕ, zero, suc, ◌*◌, ◌/◌, ◌%◌, ◌^◌, ◌<◌, true, Bool, ◌&&◌, ◌||◌, not, nat_eq, nat_le}
use Rattle.std.proofs.Common.{List, [], ◌∷◌, length, get_or, refl, subst, arith}
use Rattle.std.specs.List.{list_all}
use Rattle.z_instr.specs.declared.form.Form.{Form}
use Rattle.z_instr.specs.declared.form.Form.TheVariants.{RR}
use Rattle.z_instr.specs.declared.layout.Digit.{Digit}
use Rattle.z_instr.specs.declared.table.TheConstants.{ROWS}
use Rattle.z_instr.specs.Table.{Entry, entry_at}
use Rattle.z_instr.specs.Layout.{place, room, form_length}
use Rattle.z_instr.specs.Layouts.{layout, layout_of, width, spelled, digits_from, taken, is_once, has_last, is_low, is_whole, has_signed_immediate, has_signed_displacement}
use Rattle.z_instr.specs.Places.{opcode_at}
use Rattle.z_instr.proofs.Digits.{taken_spelled, number_below, digits_of_bytes}
use Rattle.z_instr.proofs.Passing.{passes, and_left, and_right}
use Rattle.z_instr.proofs.TableFacts.{passes_row, at_row}

pub whole : (n : ℕ) → n < ROWS → is_whole (layout_of (entry_at n)) ≡ true
whole = passes_row (λ e. is_whole (layout_of e)) refl

-- the opcode has as many values as its place has room for
pub room_at : (n : ℕ) → n < ROWS → room (place (entry_at n).form) ≡ 16 ^ width (layout_of (entry_at n)) 0
room_at = at_row (λ e. room (place e.form)) (λ e. 16 ^ width (layout_of e) 0) refl

-- the digits are two a byte
pub length_at : (n : ℕ) → n < ROWS → length (layout_of (entry_at n)) ≡ 2 * form_length (entry_at n).form
length_at = at_row (λ e. length (layout_of e)) (λ e. 2 * form_length e.form) refl

-- a number with or without a sign has so many digits as rows have
abbrev pub is_known : Bool → ℕ → Bool
is_known signed n = nat_le n 8 && (not signed || (nat_eq n 2 || (nat_eq n 4 || (nat_eq n 5 || nat_eq n 8))))

abbrev are_known : Entry → Bool
are_known e =
    let n = width (layout_of e) in
    is_known (has_signed_displacement (n 6)) (n 6) &&
    (is_known (has_signed_displacement (n 8)) (n 8) && is_known (has_signed_immediate e) (n 9))

pub known_at : (n : ℕ) → n < ROWS → are_known (entry_at n) ≡ true
known_at = passes_row are_known refl

-- the length, for every form
pub length_spelled : (f : Form) (v : ℕ → ℕ) → length (spelled (layout f) v) ≡ form_length f
length_spelled RR v = refl
length_spelled _ v = refl

-- the opcode in its place is the one that the digits hold, for every form
pub place_holds : (f : Form) (bytes : List ℕ) → opcode_at (place f) bytes ≡ taken (layout f) bytes 0
place_holds RR bytes = omega arith
place_holds _ bytes = omega arith

-- ---- what a whole layout has

abbrev pub ranks : List ℕ
ranks = 0 ∷ 1 ∷ 2 ∷ 3 ∷ 4 ∷ 5 ∷ 6 ∷ 7 ∷ 8 ∷ 9 ∷ 10 ∷ 11 ∷ []

-- each rank stands in its own place
pub rank_own : (r : ℕ) → r < 12 → get_or ranks r 0 ≡ r
rank_own zero h = refl
rank_own (suc zero) h = refl
rank_own (suc (suc zero)) h = refl
rank_own (suc (suc (suc zero))) h = refl
rank_own (suc (suc (suc (suc zero)))) h = refl
rank_own (suc (suc (suc (suc (suc zero))))) h = refl
rank_own (suc (suc (suc (suc (suc (suc zero)))))) h = refl
rank_own (suc (suc (suc (suc (suc (suc (suc zero))))))) h = refl
rank_own (suc (suc (suc (suc (suc (suc (suc (suc zero)))))))) h = refl
rank_own (suc (suc (suc (suc (suc (suc (suc (suc (suc zero))))))))) h = refl
rank_own (suc (suc (suc (suc (suc (suc (suc (suc (suc (suc zero)))))))))) h = refl
rank_own (suc (suc (suc (suc (suc (suc (suc (suc (suc (suc (suc zero))))))))))) h = refl
rank_own (suc (suc (suc (suc (suc (suc (suc (suc (suc (suc (suc (suc n)))))))))))) h = absurd (omega arith)

even : (n : ℕ) → (nat_eq n 4 || (nat_eq n 8 || nat_eq n 12)) ≡ true → n ≡ n / 2 * 2
even n h = grind arith

-- the number of a field that is spelled
pub taken_whole : (ds : List Digit) (v : ℕ → ℕ) (r : ℕ) → is_whole ds ≡ true → r < 12 → get_or ranks r 0 ≡ r →
    taken ds (spelled ds v) r ≡ v r % 16 ^ width ds r
taken_whole ds v r h k same =
    let after_once = and_right (is_once ds) _ h in
    let after_low = and_right (list_all (is_low ds) ds) _ after_once in
    let full = and_left (list_all (λ q. has_last (width ds q) ds q) ranks) _ after_low in
    let has = passes (λ q. has_last (width ds q) ds q) ranks r 0 full k in
    let sized = and_right _ _ (and_right (list_all (λ q. has_last (width ds q) ds q) ranks) _ after_low) in
    taken_spelled ds v r (and_left (is_once ds) _ h) (and_left (list_all (is_low ds) ds) _ after_once)
    (subst (λ q. has_last (width ds q) ds q ≡ true) same has) (even (length ds) sized)

-- what bytes hold of a field is below the limit of its digits
pub taken_below : (ds : List Digit) (bytes : List ℕ) (r : ℕ) → is_whole ds ≡ true →
    ((k : ℕ) → get_or bytes k 0 < 256) → taken ds bytes r < 16 ^ width ds r
taken_below ds bytes r h b =
    number_below ds (digits_from (length ds / 2) 0 bytes) r (digits_of_bytes (length ds / 2) 0 bytes b)
    (and_left (is_once ds) _ h) (and_left (list_all (is_low ds) ds) _ (and_right (is_once ds) _ h))
