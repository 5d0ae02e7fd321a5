-- What the I field of a begin asks for.
use Rattle.std.specs.Prelude.{ℕ, ◌/◌, ◌%◌, ◌^◌, Bool, ◌&&◌, not, cond, Option}
use Rattle.tx_control.specs.Halfword.{bit_of}
use Rattle.tx_control.specs.declared.begins.Begin.{Begin}

-- bits 0 to 7 are the mask, bit 12 is A, bit 13 is F, and bits 14 and 15 are the filtering control; in a
-- constrained begin F and that control are zero
abbrev pub asked_by : ℕ → Option ℕ → Bool → Begin
asked_by i2 block constrained = record {
  mask = i2 / 2 ^ 8;
  a = bit_of 12 i2;
  f = not constrained && bit_of 13 i2;
  pifc = cond constrained 0 (i2 % 2 ^ 2);
  block = block;
  constrained = constrained;
}
