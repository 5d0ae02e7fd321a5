-- The items of several registers, one after the other.
use Rattle.std.proofs.Common.{◌≡◌, ℕ, zero, ◌<◌, ◌≤◌, ◌+◌, ◌-◌, ◌*◌, ◌%◌, List, length, take, drop, refl}
use Rattle.std.proofs.Common.{sym, ap, ◌∙◌, arith}
use Rattle.std.proofs.lemmas.List.{drop-take, drop-drop, take_all, take_at}
use Rattle.std.proofs.Math.Numerals.{add-one}
use Rattle.byteorder.specs.Endian.{big_from}
use Rattle.byteorder.specs.Numbers.{big_from-take, length-bytes_high_first}
use Rattle.z_arith.specs.declared.Width.{Width}
use Rattle.z_arith.specs.declared.Width.TheVariants.{Word, Double}
use Rattle.z_instr.specs.declared.operand.Size.{Size}
use Rattle.z_instr.specs.Operands.{bytes_of}
use Rattle.z_regs.specs.Cpu.{Cpu}
use Rattle.z_effect.specs.Registers.{register, with_register}
use Rattle.z_effect.specs.StorageEffect.{number, stored, items, with_items}
use Rattle.z_instr.specs.Kinds.{item}
use Rattle.z_effect.specs.After.{range_at, written}
use Rattle.z_effect.proofs.Stored.{length-written}
use Rattle.z_regs.proofs.Writes.{written_none, written_then}
use Rattle.z_effect.proofs.Lengths.{length-items}

-- ---- stored

-- an item that is stored leaves storage as large as it was
pub length-stored : (s : List ℕ) (address : ℕ) (size : Size) (value : ℕ) →
    address + bytes_of size ≤ length s → length (written s address (stored size value)) ≡ length s
length-stored s address size value h =
    length-written s address (stored size value) (omega (
      arith,
      length-bytes_high_first (bytes_of size) value,
    ))

-- as many bytes as the registers have
pub whole_items : (k : ℕ) (w : Width) (r : ℕ) (c : Cpu) → take (k * bytes_of (item w)) (items k w r c) ≡
    items k w r c
whole_items k w r c = take_all (k * bytes_of (item w)) (items k w r c) (omega (arith, length-items k w r c))

pub none_stored : (w : Width) (r : ℕ) (s : List ℕ) (address : ℕ) (c : Cpu) →
    s ≡ written s address (items zero w r c)
unfolding items
none_stored w r s address c = written_none s address

-- bytes that are written at the beginning stand there
pub first_written : (n : ℕ) (s bytes : List ℕ) → length bytes ≡ n → take n (written s 0 bytes) ≡ bytes
first_written n s bytes e = take_at bytes (drop (0 + length bytes) s) n e

-- a step of the loop that stores registers
pub store_step : (k : ℕ) (w : Width) (r : ℕ) (s now new : List ℕ) (address : ℕ) (c : Cpu) →
    address ≤ length s → now ≡ written s address (items k w r c)
    → new ≡ written now (address + k * bytes_of (item w)) (stored (item w) (register c ((r + k) % 16))) →
    new ≡ written s address (items (k + 1) w r c)
unfolding items
store_step k w r s now new address c h e f =
    let next = stored (item w) (register c ((r + k) % 16)) in
    f
    ∙ ap (λ t. written t (address + k * bytes_of (item w)) next) e
    ∙ ap (λ n. written (written s address (items k w r c)) (address + n) next) (sym (length-items k w r c))
    ∙ written_then s address (items k w r c) next h
    ∙ ap (λ j. written s address (items j w r c)) (sym (add-one k))

-- ---- loaded

-- the number behind others in a range is the number at its place in storage
number_behind : (s : List ℕ) (address b before m : ℕ) → b ≤ m →
    big_from 0 b (drop before (range_at s address (before + m))) ≡
    big_from 0 b (range_at s (address + before) b)
number_behind s address b before m h =
    ap (big_from 0 b) (drop-take before m (drop address s) ∙ ap (take m) (drop-drop before address s))
    ∙ big_from-take 0 b m (drop (address + before) s) (omega arith)
    ∙ sym (big_from-take 0 b b (drop (address + before) s) (omega arith))

others : (w : Width) (k count : ℕ) → k < count →
    count * bytes_of (item w) ≡ k * bytes_of (item w) + (count - k) * bytes_of (item w)
others Word k count h = omega arith
others Double k count h = omega arith

one_at_least : (w : Width) (k count : ℕ) → k < count → bytes_of (item w) ≤ (count - k) * bytes_of (item w)
one_at_least Word k count h = omega arith
one_at_least Double k count h = omega arith

pub none_loaded : (w : Width) (r : ℕ) (bytes : List ℕ) (c : Cpu) → c ≡ with_items zero w r bytes c
unfolding with_items
none_loaded w r bytes c = refl

-- a step of the loop that loads registers
pub load_step : (k : ℕ) (w : Width) (r count : ℕ) (s : List ℕ) (address : ℕ) (c now new : Cpu) (value : ℕ) →
    k < count
    → now ≡ with_items k w r (range_at s address (count * bytes_of (item w))) c
    → value ≡ number (item w) (range_at s (address + k * bytes_of (item w)) (bytes_of (item w)))
    → new ≡ with_register w ((r + k) % 16) value now →
    new ≡ with_items (k + 1) w r (range_at s address (count * bytes_of (item w))) c
unfolding with_items
load_step k w r count s address c now new value h e f g =
    let b = bytes_of (item w) in
    let bytes = range_at s address (count * b) in
    let same : number (item w) (drop (k * b) bytes) ≡ number (item w) (range_at s (address + k * b) b) =
    ap (λ n. number (item w) (drop (k * b) (range_at s address n))) (others w k count h)
    ∙ number_behind s address b (k * b) ((count - k) * b) (one_at_least w k count h) in
    g
    ∙ ap (λ v. with_register w ((r + k) % 16) v now) (f ∙ sym same)
    ∙ ap (with_register w ((r + k) % 16) (number (item w) (drop (k * b) bytes))) e
    ∙ ap (λ j. with_items j w r bytes c) (sym (add-one k))
