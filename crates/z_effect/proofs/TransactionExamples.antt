-- Worked values of the seven transaction instructions, from their bytes, and of interruptions outside
-- transactions.
use Rattle.std.proofs.Common.{◌≡◌, ℕ, ◌+◌, ◌*◌, List, [], ◌∷◌, true, false, set, refl}
use Rattle.std.specs.Prelude.{Option, Some, None}
use Rattle.tx_control.specs.declared.begins.Begin.{Begin}
use Rattle.tx_control.specs.declared.exceptions.Exception.{Exception}
use Rattle.z_instr.specs.declared.instr.Instr.{Instr}
use Rattle.z_instr.specs.Computing.{reading_of, row_number}
use Rattle.z_instr.specs.Table.{entry_at, table}
use Rattle.z_regs.specs.declared.image.RunState.TheVariants.{Interrupted}
use Rattle.z_regs.specs.Cpu.{Cpu, started}
use Rattle.z_instr.specs.Table.{kind_at}
use Rattle.z_effect.specs.Registers.{with_general, with_condition}
use Rattle.z_effect.specs.Outcome.{Outcome, Did, Overflowed, Divides, Aborts}
use Rattle.z_effect.specs.One.{one}
use Rattle.z_effect.specs.TransactionEffect.{transaction_effect, delay_of}
use Rattle.z_effect.specs.Beginning.{begin_of}
use Rattle.z_effect.specs.Interrupted.{interrupted_by, cpu_outside}

abbrev with_instruction : {X : Type 0} → (Instr → X) → Option Instr → Option X
with_instruction f None = None
with_instruction f (Some i) = Some (f i)

abbrev done_at : ℕ → Cpu → List ℕ → Option Outcome
done_at depth c bytes = with_instruction (λ i. one i c depth []) (reading_of bytes)

-- a CPU at 4000 in hexadecimal, with condition code 3 and a value in register 1
abbrev with_first : ℕ → Cpu
with_first value = with_condition 3 (with_general 1 value (started 0x4000))

abbrev moved : ℕ → Cpu → Cpu
moved n c = record c { address = 0x4000 + n }

-- TBEGIN 0,X'FF00'
begins : done_at 0 (with_first 7) (0xE5 ∷ 0x60 ∷ 0 ∷ 0 ∷ 0xFF ∷ 0 ∷ []) ≡
    Some (Did (with_condition 0 (moved 6 (with_first 7))) [])
unfolding reading_of row_number entry_at table kind_at transaction_effect
begins = refl

-- TEND outside a transaction, and at depth 1
ends_nothing : done_at 0 (with_first 7) (0xB2 ∷ 0xF8 ∷ 0 ∷ 0 ∷ []) ≡
    Some (Did (with_condition 2 (moved 4 (with_first 7))) [])
unfolding reading_of row_number entry_at table kind_at transaction_effect
ends_nothing = refl

ends : done_at 1 (with_first 7) (0xB2 ∷ 0xF8 ∷ 0 ∷ 0 ∷ []) ≡
    Some (Did (with_condition 0 (moved 4 (with_first 7))) [])
unfolding reading_of row_number entry_at table kind_at transaction_effect
ends = refl

-- TABORT 257
aborts : done_at 1 (with_first 7) (0xB2 ∷ 0xFC ∷ 1 ∷ 1 ∷ []) ≡ Some (Aborts 257)
unfolding reading_of row_number entry_at table kind_at transaction_effect
aborts = refl

-- ETND 1 at depth 16 leaves the left half
depth : done_at 16 (with_first 0xAAAAAAAA00000007) (0xB2 ∷ 0xEC ∷ 0 ∷ 0x10 ∷ []) ≡
    Some (Did (moved 4 (with_first 0xAAAAAAAA00000010)) [])
unfolding reading_of row_number entry_at table kind_at transaction_effect
depth = refl

-- NTSTG 1,X'9000'
lasts : done_at 1 (with_first 0x0102030405060708) (0xE3 ∷ 0x10 ∷ 0 ∷ 0 ∷ 9 ∷ 0x25 ∷ []) ≡
    Some (Did (moved 6 (with_first 0x0102030405060708)) (1 ∷ 2 ∷ 3 ∷ 4 ∷ 5 ∷ 6 ∷ 7 ∷ 8 ∷ []))
unfolding reading_of row_number entry_at table kind_at transaction_effect
lasts = refl

-- PPA 1,0,1
assists : done_at 0 (with_first 3) (0xB2 ∷ 0xE8 ∷ 0x10 ∷ 0x10 ∷ []) ≡ Some (Did (moved 4 (with_first 3)) [])
unfolding reading_of row_number entry_at table kind_at transaction_effect
assists = refl

-- ---- delays of PPA, by the word of register 1 and by the mask

abbrev delay : ℕ → ℕ → Option ℕ
delay m3 value =
    with_instruction (λ i. delay_of i (with_first value)) (reading_of (0xB2 ∷ 0xE8 ∷ (m3 * 16) ∷ 0x10 ∷ []))

none_for_0 : delay 1 0xAAAAAAAA00000000 ≡ Some 0
unfolding reading_of row_number entry_at table delay_of
none_for_0 = refl

two_for_1 : delay 1 1 ≡ Some 2
unfolding reading_of row_number entry_at table delay_of
two_for_1 = refl

most_for_6 : delay 1 6 ≡ Some 64
unfolding reading_of row_number entry_at table delay_of
most_for_6 = refl

no_more_for_7 : delay 1 7 ≡ Some 64
unfolding reading_of row_number entry_at table delay_of
no_more_for_7 = refl

-- the whole word counts
most_for_256 : delay 1 256 ≡ Some 64
unfolding reading_of row_number entry_at table delay_of
most_for_256 = refl

none_for_another_assist : delay 2 3 ≡ Some 0
unfolding reading_of row_number entry_at table delay_of
none_for_another_assist = refl

-- ---- levels that are opened

abbrev level : List ℕ → Option Begin
level bytes = with_instruction (λ i. begin_of i (set (started 0).general 5 0x9000)) (reading_of bytes)

-- TBEGIN 8(5),X'800A': a block, changes of access registers, and filtering control 2
with_block : level (0xE5 ∷ 0x60 ∷ 0x50 ∷ 8 ∷ 0x80 ∷ 0x0A ∷ []) ≡
    Some (record { mask = 0x80; a = true; f = false; pifc = 2; block = Some 0x9008; constrained = false })
unfolding reading_of row_number entry_at table
with_block = refl

-- TBEGIN 8,X'0004': a base register 0 names no block
without_block : level (0xE5 ∷ 0x60 ∷ 0 ∷ 8 ∷ 0 ∷ 4 ∷ []) ≡
    Some (record { mask = 0; a = false; f = true; pifc = 0; block = None; constrained = false })
unfolding reading_of row_number entry_at table
without_block = refl

-- TBEGINC 0,X'FF0F': neither floating point nor filtering
constrained : level (0xE5 ∷ 0x61 ∷ 0 ∷ 0 ∷ 0xFF ∷ 0x0F ∷ []) ≡
    Some (record { mask = 0xFF; a = true; f = false; pifc = 0; block = None; constrained = true })
unfolding reading_of row_number entry_at table
constrained = refl

-- ---- interruptions outside transactions

abbrev raised : ℕ → ℕ → Exception
raised code length = record { code = code; fetch = false; length = length }

refused : interrupted_by (raised 6 6) (with_first 7) ≡
    record (moved 6 (with_first 7)) { state = Interrupted 6 }
refused = refl

unfetched : interrupted_by (raised 5 0) (with_first 7) ≡ record (with_first 7) { state = Interrupted 5 }
unfetched = refl

divided : cpu_outside 2 (with_first 7) Divides ≡ record (moved 2 (with_first 7)) { state = Interrupted 9 }
divided = refl

-- an overflow has moved on already
overflowed : cpu_outside 4 (with_first 7) (Overflowed (moved 4 (with_first 8)) []) ≡
    record (moved 4 (with_first 8)) { state = Interrupted 8 }
overflowed = refl
