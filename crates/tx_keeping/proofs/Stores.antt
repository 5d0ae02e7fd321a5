-- Bytes that stores change lie in the lines of the ranges that are stored.
use Rattle.std.proofs.Common.{◌≡◌, ℕ, ◌/◌, ◌≤◌, Bool, true, false, eqb, List, [], ◌∷◌, ◌++◌, Option, Some}
use Rattle.std.proofs.Common.{refl, sym, ap, ◌∙◌, arith, length, take, append-nil}
use Rattle.std.specs.Prelude.{◌&&◌, if◌then◌else◌, ◌==◌}
use Rattle.std.specs.List.{list_any}
use Rattle.std.proofs.lemmas.Bool.{or_parts, or_from, eq-eqb, eqb-true}
use Rattle.std.proofs.lemmas.List.Folds.{list_any-append}
use Rattle.z_regs.specs.Prefix.{is_prefix}
use Rattle.z_regs.specs.Absolute.{absolute_range, absolute_ranges}
use Rattle.z_regs.specs.declared.ranges.Range.{Range}
use Rattle.tx_serial.specs.Overlay.{Overlay, Store, with_one}
use Rattle.tx_footprint.specs.Sizes.{line_size}
use Rattle.tx_footprint.specs.Places.{has_place, stores}
use Rattle.tx_serial.specs.Flat.{Storage, at_put, laid_over, operand_stores, stores_at, with_bytes_at}
use Rattle.tx_serial.proofs.StoredPlaces.{operands_there, AreSmall, goes_there}
use Rattle.tx_serial.proofs.StoredBytes.{stored_size}
use Rattle.tx_progress.specs.Progress.{laying}
use Rattle.tx_meaning.specs.Needs.{stored}

-- only bytes in some lines change
abbrev pub ChangesIn : (ℕ → Bool) → Storage → Storage → Type 0
ChangesIn lines storage after = (a : ℕ) → lines (a / line_size) ≡ false → after a ≡ storage a

-- a store to the line of an address
abbrev pub in_line : ℕ → ℕ → Bool
in_line line a = a / line_size == line

-- ---- stores elsewhere

put_elsewhere : {A : Type 0} (table : ℕ → A) (s : Store) (v : A) (a : ℕ) (b : Bool) → eqb a s.address ≡ b
    → in_line (a / line_size) s.address ≡ false → (if b then v else table a) ≡ table a
put_elsewhere table s v a true e off =
    let same : a ≡ s.address = eqb-true a s.address e in
    let here : in_line (a / line_size) s.address ≡ true =
    eq-eqb (s.address / line_size) (a / line_size) (ap (λ x. x / line_size) (sym same)) in
    absurd (let x : false ≡ true = sym off ∙ here in cc)
put_elsewhere table s v a false e off = refl

pub laid_elsewhere : (xs : List Store) (storage : Storage) (a : ℕ)
    → goes_there (in_line (a / line_size)) xs ≡ false → laid_over storage xs a ≡ storage a
unfolding laid_over
laid_elsewhere [] storage a off = refl
laid_elsewhere (s ∷ rest) storage a off =
    let parts = or_parts (in_line (a / line_size) s.address) (goes_there (in_line
    (a / line_size)) rest) off in
    laid_elsewhere rest (at_put storage s.address s.byte) a parts.1
    ∙ put_elsewhere storage s s.byte a (eqb a s.address) refl parts.0

pub laying_elsewhere : (xs : List Store) (overlay : Overlay) (a : ℕ)
    → goes_there (in_line (a / line_size)) xs ≡ false → laying overlay xs a ≡ overlay a
laying_elsewhere [] overlay a off = refl
laying_elsewhere (s ∷ rest) overlay a off =
    let parts = or_parts (in_line (a / line_size) s.address) (goes_there (in_line
    (a / line_size)) rest) off in
    laying_elsewhere rest (with_one overlay s.address s.byte) a parts.1
    ∙ put_elsewhere overlay s (Some s.byte) a (eqb a s.address) refl parts.0

-- ---- stores of operands

pub operands_elsewhere : (prefix : Option ℕ) (ranges : List Range) (bytes : List ℕ) (a : ℕ)
    → is_prefix prefix ≡ true → AreSmall ranges → stored_size ranges ≤ length bytes
    → stores (absolute_ranges prefix ranges) (a / line_size) ≡ false
    → goes_there (in_line (a / line_size)) (operand_stores prefix ranges bytes) ≡ false
unfolding has_place
operands_elsewhere prefix ranges bytes a ok small enough off =
    operands_there (in_line (a / line_size)) prefix ranges ok small bytes enough ∙ off

all_taken : (bytes : List ℕ) → take (length bytes) bytes ≡ bytes
all_taken [] = refl
all_taken (b ∷ bs) = ap (λ rest. b ∷ rest) (all_taken bs)

-- ---- bytes at a place

pub bytes_change : (prefix : Option ℕ) (first n : ℕ) (bytes : List ℕ) (storage : Storage)
    → is_prefix prefix ≡ true
    → length bytes ≡ n → n ≤ 8192
    → ChangesIn (stores (absolute_ranges prefix (stored first n ∷ []))) storage
    (with_bytes_at prefix first bytes storage)
bytes_change prefix first n bytes storage ok size small a off =
    let all : stores_at prefix first (take n bytes) ++ [] ≡ stores_at prefix first bytes =
    append-nil (stores_at prefix first (take n bytes))
    ∙ ap (λ k. stores_at prefix first (take k bytes)) (sym size)
    ∙ ap (stores_at prefix first) (all_taken bytes) in
    laid_elsewhere (stores_at prefix first bytes) storage a
    (ap (goes_there (in_line (a / line_size))) (sym all)
    ∙ operands_elsewhere prefix (stored first n ∷ []) bytes a ok (small, tt) (omega (arith, size)) off)

pub first_stores : (prefix : Option ℕ) (r : Range) (rest : List Range) (line : ℕ)
    → stores (absolute_ranges prefix (r ∷ rest)) line ≡ false
    → (stores (absolute_ranges prefix (r ∷ [])) line ≡ false) × (stores
    (absolute_ranges prefix rest) line ≡ false)
first_stores prefix r rest line off =
    let test = λ (r : Range). r.store && has_place line_size r line in
    let parts = or_parts (list_any test (absolute_range prefix r)) (stores (absolute_ranges prefix rest) line)
    (sym (list_any-append test (absolute_range prefix r) (absolute_ranges prefix rest)) ∙ off) in
    (list_any-append test (absolute_range prefix r) [] ∙ or_from _ false parts.0 refl, parts.1)
