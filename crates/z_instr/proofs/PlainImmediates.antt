-- Immediates without a sign.
use Rattle.std.proofs.Common.{◌≡◌, ℕ, ◌<◌, ◌≤◌, nat_eq, nat_le, Bool, true, false, ◌||◌, not, refl, arith, sym}
use Rattle.std.specs.Prelude.{ℤ, pos, negsuc, ◌&&◌}
use Rattle.std.proofs.lemmas.Bool.{leb-true, eqb-true, lt-ltb, ltb-true, true≢false}
use Rattle.z_instr.specs.declared.instr.Instr.{Instr}
use Rattle.z_instr.specs.declared.table.TheConstants.{ROWS}
use Rattle.z_instr.specs.Table.{Entry, entry_at}
use Rattle.z_instr.specs.Ranges.{is_within, bounds, limits_of}
use Rattle.z_instr.specs.Facts.{has_fitting_immediate, has_two_lists, is_service, is_begin, is_plain_below}
use Rattle.z_instr.proofs.Passing.{and_left, and_right}
use Rattle.z_instr.proofs.TableFacts.{passes_row}
use Rattle.z_instr.proofs.Within.{instr_fits, numbers_of}

fitting_immediate : (n : ℕ) → n < ROWS → has_fitting_immediate (entry_at n) ≡ true
fitting_immediate = passes_row has_fitting_immediate refl

pub implied : (a b : Bool) → (not a || b) ≡ true → a ≡ true → b ≡ true
implied true b h e = h
implied false b h e = cc

plain : (k : ℕ) (e : Entry) (z : ℤ) → is_plain_below k e ≡ true → is_within (limits_of e).imm z ≡ true →
    is_within (bounds 0 k) z ≡ true
plain k e (pos n) h w =
    let above : (limits_of e).imm.above ≤ k =
    leb-true (limits_of e).imm.above k
    (and_right (nat_eq (limits_of e).imm.below 0) (nat_le (limits_of e).imm.above k) h) in
    let inside : n < (limits_of e).imm.above = ltb-true n (limits_of e).imm.above w in
    lt-ltb n k (omega arith)
plain k e (negsuc n) h w =
    let below : (limits_of e).imm.below ≡ 0 =
    eqb-true (limits_of e).imm.below 0
    (and_left (nat_eq (limits_of e).imm.below 0) (nat_le (limits_of e).imm.above k) h) in
    let inside : n < (limits_of e).imm.below = ltb-true n (limits_of e).imm.below w in
    absurd (omega arith)

immediate : (i : Instr) → is_within (limits_of (entry_at i.op.number)).imm i.imm ≡ true
immediate i = (numbers_of (limits_of (entry_at i.op.number)) i (instr_fits i)).imm_in

pub lists : (i : Instr) → has_two_lists (entry_at i.op.number).operands ≡ true →
    is_within (bounds 0 256) i.imm ≡ true
lists i h = plain 256 (entry_at i.op.number) i.imm
    (implied _ _ (and_left _ _ (fitting_immediate i.op.number i.op.known)) h) (immediate i)

pub services : (i : Instr) → is_service (entry_at i.op.number).demand ≡ true →
    is_within (bounds 0 256) i.imm ≡ true
services i h =
    plain 256 (entry_at i.op.number) i.imm
    (implied _ _ (and_left _ _ (and_right _ _ (fitting_immediate i.op.number i.op.known))) h)
    (immediate i)

pub begins : (i : Instr) → is_begin (entry_at i.op.number).demand ≡ true →
    is_within (bounds 0 65536) i.imm ≡ true
begins i h =
    plain 65536 (entry_at i.op.number) i.imm
    (implied _ _ (and_right _ _ (and_right _ _ (fitting_immediate i.op.number i.op.known))) h)
    (immediate i)

pub not_second : (a b : Bool) → not (a && b) ≡ true → a ≡ true → b ≡ false
not_second true true h e = absurd (true≢false (sym h))
not_second true false h e = refl
not_second false b h e = absurd (true≢false (sym e))
