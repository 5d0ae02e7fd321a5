-- How far immediates and displacements go.
use Rattle.std.proofs.Common.{◌≡◌, ℕ, ◌<◌, ◌≤◌, Bool, true, ◌&&◌, nat_le, List, [], ◌∷◌, arith, refl, ap₂}
use Rattle.std.specs.Prelude.{ℤ, pos, negsuc}
use Rattle.std.specs.List.{list_all}
use Rattle.std.proofs.lemmas.Bool.{lt-ltb, ltb-true, leb-true}
use Rattle.z_instr.specs.declared.form.Slot.{Slot}
use Rattle.z_instr.specs.declared.form.Slot.TheVariants.{Target, Counted}
use Rattle.z_instr.specs.declared.instr.Instr.{Instr}
use Rattle.z_instr.specs.declared.limits.Bounds.{Bounds}
use Rattle.z_instr.specs.declared.table.TheConstants.{ROWS}
use Rattle.z_instr.specs.Forms.{slots}
use Rattle.z_instr.specs.Table.{Entry, entry_at}
use Rattle.z_instr.specs.Ranges.{is_within, bounds, limits_of, long, byte, signed_full}
use Rattle.z_instr.proofs.Passing.{and_left, and_right}
use Rattle.z_instr.proofs.TableFacts.{passes_row}
use Rattle.z_instr.proofs.Within.{instr_fits, numbers_of}

-- ---- bounds inside bounds

abbrev is_inside : Bounds → Bounds → Bool
is_inside r q = nat_le r.below q.below && nat_le r.above q.above

wider : (r q : Bounds) (z : ℤ) → is_inside r q ≡ true → is_within r z ≡ true → is_within q z ≡ true
wider r q (pos n) inside h =
    let within : n < r.above = ltb-true n r.above h in
    let most : r.above ≤ q.above = leb-true r.above q.above (and_right (nat_le r.below q.below) _ inside) in
    lt-ltb n q.above (omega arith)
wider r q (negsuc n) inside h =
    let within : n < r.below = ltb-true n r.below h in
    let most : r.below ≤ q.below = leb-true r.below q.below (and_left _ (nat_le r.above q.above) inside) in
    lt-ltb n q.below (omega arith)

-- ---- the bounds of all rows

-- 32 bits, with a sign or without
abbrev pub close : Bounds
close = bounds 2147483648 4294967296

pub long_is_close : (z : ℤ) → is_within long z ≡ true → is_within close z ≡ true
long_is_close z h = wider long close z refl h

abbrev are_close : Entry → Bool
are_close e =
    let l = limits_of e in
    is_inside l.d long && (is_inside l.d2 long && is_inside l.imm close)

close_at : (n : ℕ) → n < ROWS → are_close (entry_at n) ≡ true
close_at = passes_row are_close refl

pub displacement_is_long : (i : Instr) → is_within long i.d ≡ true
displacement_is_long i =
    let l = limits_of (entry_at i.op.number) in
    wider l.d long i.d (and_left _ _ (close_at i.op.number i.op.known)) (numbers_of l i (instr_fits i)).d_in

pub second_is_long : (i : Instr) → is_within long i.d2 ≡ true
second_is_long i =
    let l = limits_of (entry_at i.op.number) in
    wider l.d2 long i.d2 (and_left _ _ (and_right _ _ (close_at i.op.number i.op.known)))
    (numbers_of l i (instr_fits i)).d2_in

pub immediate_is_close : (i : Instr) → is_within close i.imm ≡ true
immediate_is_close i =
    let l = limits_of (entry_at i.op.number) in
    wider l.imm close i.imm (and_right _ _ (and_right _ _ (close_at i.op.number i.op.known)))
    (numbers_of l i (instr_fits i)).imm_in

-- ---- the bounds of immediates that stand for an operand

-- a distance has a sign, and a length code is a byte
abbrev pub reach : Slot → Bounds
reach Target = signed_full
reach Counted = byte
reach _ = close

abbrev pub AreInReach : List Slot → ℤ → Type 0
AreInReach ss z = list_all (λ s. is_within (reach s) z) ss ≡ true

in_reach : (ss : List Slot) (r : Bounds) (z : ℤ) → list_all (λ s. is_inside r (reach s)) ss ≡ true
    → is_within r z ≡ true → AreInReach ss z
in_reach [] r z inside h = refl
in_reach (s ∷ ss) r z inside h =
    ap₂ ◌&&◌ (wider r (reach s) z (and_left _ _ inside) h) (in_reach ss r z (and_right _ _ inside) h)

pub immediate_in_reach : (i : Instr) → AreInReach (slots (entry_at i.op.number).form) i.imm
immediate_in_reach i =
    let e = entry_at i.op.number in
    in_reach (slots e.form) (limits_of e).imm i.imm
    (passes_row (λ e. list_all (λ s. is_inside (limits_of e).imm (reach s)) (slots e.form)) refl i.op.number
    i.op.known)
    (numbers_of (limits_of e) i (instr_fits i)).imm_in
