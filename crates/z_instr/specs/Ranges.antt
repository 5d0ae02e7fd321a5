-- Which values the fields of an instruction may have: those of its format, and 0 where the format has no such
-- field.
use Rattle.std.specs.Prelude.{ℕ, ◌<◌, ◌/◌, ◌^◌, ℤ, pos, negsuc, Bool, ◌&&◌, nat_lt, cond}
use Rattle.z_instr.specs.declared.limits.Bounds.{Bounds}
use Rattle.z_instr.specs.declared.limits.Limits.{Limits}
use Rattle.z_instr.specs.declared.form.Form.{Form}
use Rattle.z_instr.specs.Table.{Entry}
use Rattle.z_instr.specs.Forms.{is_signed}
use Rattle.z_instr.specs.Layouts.{layout, width, has_signed_displacement}

-- from -below up to above, which is not among them
abbrev pub bounds : ℕ → ℕ → Bounds
bounds below above = record { below = below; above = above }

abbrev pub is_within : Bounds → ℤ → Bool
is_within r (pos n) = nat_lt n r.above
is_within r (negsuc n) = nat_lt n r.below

-- a displacement with a sign, of 20 bits
abbrev pub long : Bounds
long = bounds 524288 524288

-- a byte
abbrev pub byte : Bounds
byte = bounds 0 256

-- an immediate of 16 bits without a sign, and one of 32 bits with a sign
abbrev pub half : Bounds
half = bounds 0 65536

abbrev pub signed_full : Bounds
signed_full = bounds 2147483648 2147483648

abbrev pub limit : ℕ → ℕ → ℕ → ℕ → ℕ → Bounds → ℕ → Bounds → Bounds → ℕ → Limits
limit r1 r2 r3 x b d b2 d2 imm mask =
    record { r1 = r1; r2 = r2; r3 = r3; x = x; b = b; d = d; b2 = b2; d2 = d2; imm = imm; mask = mask }

-- as many numbers as so many digits hold, with a sign or without
abbrev pub bounds_by : Bool → ℕ → Bounds
bounds_by signed n = cond signed (bounds (16 ^ n / 2) (16 ^ n / 2)) (bounds 0 (16 ^ n))

-- all numbers that the digits of a form hold: how many values each field has from 0 up, 1 where it is 0 alone, and
-- the bounds of those that may have a sign
abbrev pub limits_in : Form → Limits
limits_in form =
    let n = width (layout form) in
    limit (16 ^ n 1) (16 ^ n 2) (16 ^ n 3) (16 ^ n 4) (16 ^ n 5)
    (bounds_by (has_signed_displacement (n 6)) (n 6)) (16 ^ n 7)
    (bounds_by (has_signed_displacement (n 8)) (n 8)) (bounds_by (is_signed form) (n 9)) (16 ^ n 10)

abbrev pub limits_of : Entry → Limits
limits_of e = limits_in e.form

-- the registers and the mask are among their values
abbrev pub are_registers_within : Limits → ℕ → ℕ → ℕ → ℕ → ℕ → ℕ → ℕ → Bool
are_registers_within l r1 r2 r3 x b b2 mask =
    nat_lt r1 l.r1 &&
    (nat_lt r2 l.r2 &&
    (nat_lt r3 l.r3 && (nat_lt x l.x && (nat_lt b l.b && (nat_lt b2 l.b2 && nat_lt mask l.mask)))))

-- the displacements and the immediate are among their values
abbrev pub are_numbers_within : Limits → ℤ → ℤ → ℤ → Bool
are_numbers_within l d d2 imm = is_within l.d d && (is_within l.d2 d2 && is_within l.imm imm)

-- each field is among its values
abbrev pub are_within : Limits → ℕ → ℕ → ℕ → ℕ → ℕ → ℤ → ℕ → ℤ → ℤ → ℕ → Bool
are_within l r1 r2 r3 x b d b2 d2 imm mask = are_registers_within l r1 r2 r3 x b b2 mask &&
    are_numbers_within l d d2 imm

-- registers and masks are below 16
pub record AreBelowSixteen (r1 r2 r3 x b b2 mask : ℕ) : Type 0 where
  pub r1_in : r1 < 16
  pub r2_in : r2 < 16
  pub r3_in : r3 < 16
  pub x_in : x < 16
  pub b_in : b < 16
  pub b2_in : b2 < 16
  pub mask_in : mask < 16
