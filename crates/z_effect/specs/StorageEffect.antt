-- What an instruction of n bytes does to a CPU and to the bytes that it touches.
use Rattle.std.specs.Prelude.{ℕ, zero, suc, ◌-◌, ◌+◌, ◌*◌, ◌%◌, ◌&&◌, nat_eq, nat_lt, if◌then◌else◌, List, [], ◌∷◌, ◌++◌, take, drop, get_or}
use Rattle.std.specs.List.{list_all}
use Rattle.byteorder.specs.Endian.{big_number, big_bytes}
use Rattle.z_arith.specs.declared.Width.{Width}
use Rattle.z_arith.specs.Whole.{bits, modulo}
use Rattle.z_arith.specs.Sum.{add_of}
use Rattle.z_arith.specs.Comparison.{test_under_mask_of, compare_logical_of}
use Rattle.z_instr.specs.declared.instr.Instr.{Instr}
use Rattle.z_instr.specs.declared.operand.Size.{Size}
use Rattle.z_instr.specs.declared.operand.Size.TheVariants.{Byte, Doubleword}
use Rattle.z_instr.specs.Operands.{bytes_of, first_address, second_address, selects, registers_between, length_of}
use Rattle.z_regs.specs.Cpu.{Cpu}
use Rattle.z_instr.specs.declared.kind.Storage.{Storage}
use Rattle.z_instr.specs.declared.kind.Storage.TheVariants.{Compute, Compare, CompareImmediate, TestUnderMask, InsertByte, Store, StoreImmediate, ByteLogic, AddImmediate, LoadMany, StoreMany, CompareAndSwap, LoadAnd, LoadSelected, StoreSelected, ByteByByte, CompareBytes}
use Rattle.z_instr.specs.declared.kind.Combination.{Combination}
use Rattle.z_instr.specs.declared.kind.Combination.TheVariants.{Move, Logic}
use Rattle.z_instr.specs.declared.kind.Part.{Part}
use Rattle.z_effect.specs.Registers.{register, operand_in, put_low, with_general, with_register, with_condition, advanced}
use Rattle.z_effect.specs.Operations.{combined, compared, extended, logic_of, zero_code}
use Rattle.z_instr.specs.Kinds.{item, size_of}
use Rattle.z_effect.specs.GeneralEffect.{answered}
use Rattle.z_effect.specs.Outcome.{Outcome, Did, done, ended}

-- ---- numbers in storage, the leftmost byte first

abbrev pub number : Size → List ℕ → ℕ
number size bytes = big_number (bytes_of size) bytes

-- the rightmost bytes of a number
abbrev pub stored : Size → ℕ → List ℕ
stored size n = big_bytes (bytes_of size) n

abbrev pub piece : Width → Part → List ℕ → ℕ
piece w p bytes = extended w p (number (size_of p) bytes)

-- ---- several registers

-- the items of k registers from r on, 0 after 15
unfoldable pub items : ℕ → Width → ℕ → Cpu → List ℕ
items zero w r c = []
items (suc k) w r c = items k w r c ++ stored (item w) (register c ((r + k) % 16))

-- items into k registers from r on, 0 after 15
unfoldable pub with_items : ℕ → Width → ℕ → List ℕ → Cpu → Cpu
with_items zero w r bytes c = c
with_items (suc k) w r bytes c =
    with_register w ((r + k) % 16) (number (item w) (drop (k * bytes_of (item w)) bytes))
    (with_items k w r bytes c)

-- ---- bytes of two operands

abbrev pub mixed : Combination → ℕ → ℕ → ℕ
mixed Move a b = b
mixed (Logic l) a b = logic_of l a b

-- How far the first operand begins behind the second, both having n bytes: so far behind it a byte of the
-- second is one that
-- was already stored. n where no byte is.
abbrev pub lead : ℕ → ℕ → ℕ → ℕ
lead n first second = if nat_lt second first && nat_lt (first - second) n then first - second else n

-- the first k results from the left; from the lead on, the second operand's bytes are results
unfoldable pub results : ℕ → Combination → ℕ → List ℕ → List ℕ → List ℕ
results zero m ahead a b = []
results (suc k) m ahead a b =
    let before = results k m ahead a b in
    before ++ mixed m (get_or a k 0)
    (if nat_lt k ahead then get_or b k 0 else get_or before (k - ahead) 0) ∷ []

abbrev pub with_code_of : Combination → List ℕ → Cpu → Cpu
with_code_of Move bytes c = c
with_code_of (Logic l) bytes c = with_condition (if list_all (λ b. nat_eq b 0) bytes then 0 else 1) c

-- the first bytes from the left that differ decide
unfoldable pub order_of_bytes : List ℕ → List ℕ → ℕ
order_of_bytes [] b = 0
order_of_bytes (x ∷ a) [] = 0
order_of_bytes (x ∷ a) (y ∷ b) = if nat_eq x y then order_of_bytes a b else compare_logical_of x y

-- ---- instructions

unfoldable pub storage_effect : Storage → ℕ → Instr → Cpu → List ℕ → Outcome
storage_effect (Compute o w p) n i c bytes =
    answered n w (combined o w c.condition (operand_in w c i.r1) (piece w p bytes)) i c
storage_effect (Compare o w p) n i c bytes =
    done (advanced n (with_condition (compared o w (operand_in w c i.r1) (piece w p bytes)) c))
storage_effect (CompareImmediate o w p) n i c bytes =
    done (advanced n (with_condition (compared o w (piece w p bytes) (modulo (bits w) i.imm)) c))
storage_effect TestUnderMask n i c bytes =
    done (advanced n (with_condition (test_under_mask_of (number Byte bytes) (modulo 8 i.imm)) c))
storage_effect InsertByte n i c bytes =
    done (advanced n (with_general i.r1 (put_low 8 (register c i.r1) (number Byte bytes)) c))
storage_effect (Store s) n i c bytes = Did (advanced n c) (stored s (register c i.r1))
storage_effect (StoreImmediate s) n i c bytes = Did (advanced n c) (stored s (modulo 64 i.imm))
storage_effect (ByteLogic l) n i c bytes =
    let value = logic_of l (number Byte bytes) (modulo 8 i.imm) in
    Did (advanced n (with_condition (zero_code value) c)) (stored Byte value)
storage_effect (AddImmediate w) n i c bytes =
    let a = add_of w (number (item w) bytes) (modulo (bits w) i.imm) in
    ended a.overflow (advanced n (with_condition a.condition c)) (stored (item w) a.value)
storage_effect (LoadMany w) n i c bytes =
    done (advanced n (with_items (registers_between i.r1 i.r3) w i.r1 bytes c))
storage_effect (StoreMany w) n i c bytes = Did (advanced n c) (items (registers_between i.r1 i.r3) w i.r1 c)
storage_effect (CompareAndSwap w) n i c bytes =
    if nat_eq (operand_in w c i.r1) (number (item w) bytes)
    then Did (advanced n (with_condition 0 c)) (stored (item w) (register c i.r3))
    else Did (advanced n (with_condition 1 (with_register w i.r1 (number (item w) bytes) c))) bytes
storage_effect (LoadAnd o w) n i c bytes =
    let old = number (item w) bytes in
    let a = combined o w c.condition old (operand_in w c i.r3) in
    ended a.overflow (advanced n (with_condition a.condition (with_register w i.r1 old c)))
    (stored (item w) a.value)
storage_effect LoadSelected n i c bytes =
    done (advanced n
    (if selects i.mask c.condition then with_general i.r1 (number Doubleword bytes) c else c))
storage_effect StoreSelected n i c bytes =
    Did (advanced n c) (if selects i.mask c.condition then stored Doubleword (register c i.r1) else [])
storage_effect (ByteByByte m) n i c bytes =
    let count = length_of i in
    let ahead = lead count (first_address i c.general) (second_address i c.general) in
    let made = results count m ahead (take count bytes) (drop count bytes) in
    Did (advanced n (with_code_of m made c)) made
storage_effect CompareBytes n i c bytes =
    let count = length_of i in
    done (advanced n (with_condition (order_of_bytes (take count bytes) (drop count bytes)) c))
