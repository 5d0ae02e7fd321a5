-- The program status word of a CPU: sixteen bytes, as an interruption stores and loads them.
use Rattle.std.specs.Prelude.{ℕ, ◌+◌, ◌*◌, ◌^◌, ◌<◌, ◌/◌, ◌%◌, Bool, List, ◌∷◌, drop, get_or, cond}
use Rattle.std.specs.Str.{bytes_eq}
use Rattle.byteorder.specs.Endian.{big_number, big_bytes}
use Rattle.z_regs.specs.declared.image.RunState.{RunState}
use Rattle.z_regs.specs.declared.image.RunState.TheVariants.{Running, Halted}
use Rattle.z_regs.specs.Cpu.{Cpu}

-- byte 2 has the condition code in bits 2 and 3 and the program mask in bits 4 to 7; bytes 3 and 4 say that
-- addresses
-- have 64 bits; the address stands in the last eight bytes; all other bits are zero
unfoldable pub psw_of : Cpu → List ℕ
psw_of c =
    0 ∷ 0 ∷ (c.condition * 16 + c.mask) ∷ 0x01 ∷ 0x80 ∷ 0 ∷ 0 ∷ 0 ∷ big_bytes 8 c.address

-- a CPU whose fields have room there
pub record HasFields (c : Cpu) : Type 0 where
  pub condition : c.condition < 4
  pub mask : c.mask < 16
  pub address : c.address < 2 ^ 64

-- condition code, program mask and address from those fields
unfoldable pub with_fields : List ℕ → Cpu → Cpu
with_fields psw c = record c {
  condition = get_or psw 2 0 / 16 % 4;
  mask = get_or psw 2 0 % 16;
  address = big_number 8 (drop 8 psw);
}

abbrev pub running_where : Bool → RunState
running_where runs = cond runs Running Halted

-- a CPU that loads a program status word: it runs where that is its own from then on, and else halts, since
-- some other
-- bit asks for what no CPU does here
unfoldable pub loaded : List ℕ → Cpu → Cpu
loaded psw c = let new = with_fields psw c in record new { state = running_where (bytes_eq (psw_of new) psw) }
