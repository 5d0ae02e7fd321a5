-- How many bytes instructions store.
use Rattle.std.proofs.Common.{◌≡◌, ℕ, zero, suc, ◌+◌, ◌-◌, ◌*◌, ◌%◌, length, sym, arith, length-append, List, refl}
use Rattle.std.proofs.Math.Nat.{zero-mul}
use Rattle.byteorder.specs.Numbers.{length-bytes_high_first}
use Rattle.z_arith.specs.declared.Width.{Width}
use Rattle.z_instr.specs.Operands.{bytes_of}
use Rattle.z_regs.specs.Cpu.{Cpu}
use Rattle.z_effect.specs.Registers.{register}
use Rattle.z_effect.specs.StorageEffect.{stored, items, results, mixed}
use Rattle.z_instr.specs.Kinds.{item}
use Rattle.std.specs.Prelude.{get_or, if◌then◌else◌, nat_lt}
use Rattle.std.proofs.lemmas.List.{length_push}
use Rattle.z_instr.specs.declared.kind.Combination.{Combination}

pub length-items : (k : ℕ) (w : Width) (r : ℕ) (c : Cpu) → length (items k w r c) ≡ k * bytes_of (item w)
unfolding items
length-items zero w r c = sym (zero-mul (bytes_of (item w)))
length-items (suc k) w r c =
    grind (
      arith,
      length-append (items k w r c) (stored (item w) (register c ((r + k) % 16))),
      length-items k w r c,
      length-bytes_high_first (bytes_of (item w)) (register c ((r + k) % 16)),
    )

pub length-results : (k : ℕ) (m : Combination) (ahead : ℕ) (a b : List ℕ) → length (results k m ahead a b) ≡ k
unfolding results
length-results zero m ahead a b = refl
length-results (suc k) m ahead a b =
    let before = results k m ahead a b in
    omega (
      arith,
      length_push before (mixed m (get_or a k 0)
          (if nat_lt k ahead then get_or b k 0 else get_or before (k - ahead) 0)),
      length-results k m ahead a b,
    )
