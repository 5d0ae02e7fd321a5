-- Worked values of entries on small flat states: programs at 4000 in hexadecimal, in text page 4. The
-- expected values are those of an independent model of the machine.
use Rattle.std.proofs.Common.{◌≡◌, refl, ℕ, ◌+◌, ◌-◌, Bool, true, false, List, [], ◌∷◌, ◌++◌}
use Rattle.std.proofs.Common.{length, get_or, Option, Some, None}
use Rattle.std.specs.Prelude.{◌&&◌, nat_lt, nat_le, if◌then◌else◌, is_some, take, drop, map, slice_range}
use Rattle.std.specs.List.{range_with_len}
use Rattle.store_cache.specs.Counts.{count_below}
use Rattle.z_arith.specs.Sum.{add_of}
use Rattle.z_arith.specs.Quotient.{divide_word_of}
use Rattle.z_regs.specs.Cpu.{Cpu, started}
use Rattle.z_regs.specs.Psw.{psw_of, with_fields, loaded}
use Rattle.z_regs.specs.Absolute.{absolute_range}
use Rattle.z_regs.specs.declared.image.RunState.{RunState}
use Rattle.z_regs.specs.declared.image.RunState.TheVariants.{Running, Halted, Interrupted}
use Rattle.z_instr.specs.Table.{entry_at, table}
use Rattle.z_instr.specs.Computing.{reading_of, row_number}
use Rattle.z_instr.specs.Access.{accessible_pages, text_pages, unfetched}
use Rattle.z_instr.specs.Operands.{spans_in, unspecified_in, inaccessible_in}
use Rattle.z_instr.specs.Table.{kind_at}
use Rattle.z_effect.specs.Operations.{combined}
use Rattle.z_effect.specs.GeneralEffect.{general_effect}
use Rattle.z_effect.specs.BranchEffect.{branch_effect}
use Rattle.z_effect.specs.StorageEffect.{storage_effect}
use Rattle.z_effect.specs.TransactionEffect.{transaction_effect}
use Rattle.tx_control.specs.declared.exceptions.Exception.{Exception}
use Rattle.tx_control.specs.declared.causes.Why.TheVariants.{External, Program, FetchConflict}
use Rattle.tx_control.specs.declared.causes.Why.TheVariants.{StoreConflict, Restricted, Filtered, Starved}
use Rattle.tx_control.specs.declared.causes.Why.TheVariants.{Tabort}
use Rattle.tx_constraint.specs.Octowords.{with_octowords}
use Rattle.tx_constraint.specs.Constraints.{text_breach, operand_breach}
use Rattle.tx_footprint.specs.Places.{has_place}
use Rattle.tx_abort.specs.Block.{block, fields, register_fields}
use Rattle.tx_abort.specs.Registers.{restored}
use Rattle.tx_journal.specs.declared.entries.Entry.{Entry}
use Rattle.tx_journal.specs.declared.entries.Entry.TheVariants.{Step, Commit, Abort, Tdb, Interrupt}
use Rattle.tx_serial.specs.Flat.{Storage, FlatState, Pending, laid_over, with_pending, with_storage}
use Rattle.tx_serial.specs.Flat.{with_waiting}
use Rattle.tx_serial.specs.Fate.{fate, cause_in}
use Rattle.tx_serial.specs.Run.{run, more}
use Rattle.tx_serial.specs.Ending.{ending, fits}
use Rattle.tx_serial.specs.Remains.{remains}
use Rattle.tx_serial.specs.Apply.{apply}
use Rattle.tx_serial.specs.History.{no_cpu, replay_from}

-- ---- states

-- bytes at an address, over storage
abbrev pub placed : ℕ → List ℕ → Storage → Storage
placed first bytes storage a =
    if nat_le first a && nat_lt a (first + length bytes) then get_or bytes (a - first) 0 else storage a

-- one CPU, at its program
abbrev pub on : Cpu → List ℕ → FlatState
on c program = record {
  storage = placed 0x4000 program (λ a. 0);
  text = 4 ∷ [];
  cpus = λ i. if nat_lt i 1 then c else no_cpu;
  pending = λ i. None;
  waiting = λ i. None;
}

abbrev pub plain : Cpu
plain = started 0x4000

abbrev pub with_registers : List ℕ → Cpu → Cpu
with_registers values c = record c { general = values ++ drop (length values) c.general }

abbrev pub after : FlatState → List Entry → Option FlatState
after f history = replay_from history (Some f)

abbrev pub exception : ℕ → ℕ → Exception
exception code length = record { code = code; fetch = false; length = length }

-- ---- what is seen of a state

-- the first registers, the address, the condition code and the state of CPU 0
abbrev pub cpu_seen : ℕ → Option FlatState → List ℕ × ℕ × ℕ × RunState
cpu_seen n None = ([], 0, 0, Halted)
cpu_seen n (Some f) = let c = f.cpus 0 in (take n c.general, c.address, c.condition, c.state)

abbrev pub both : {A B : Type 0} → A → B → A × B
both a b = (a, b)

-- bytes of storage
abbrev bytes_at : ℕ → ℕ → Option FlatState → List ℕ
bytes_at a n None = []
bytes_at a n (Some f) = map f.storage (range_with_len a n)

-- bytes of the pending block of CPU 0
abbrev pub pending_bytes : ℕ → ℕ → Option Pending → List ℕ
pending_bytes a n None = []
pending_bytes a n (Some b) = b.address ∷ slice_range b.bytes a (a + n)

abbrev pub pending_at : ℕ → ℕ → Option FlatState → List ℕ
pending_at a n None = []
pending_at a n (Some f) = pending_bytes a n (f.pending 0)

-- an interruption waits for CPU 0
abbrev waits : Option FlatState → Bool
waits None = false
waits (Some f) = is_some (f.waiting 0)

abbrev pub fitting : FlatState → List Entry → Bool
fitting f history = is_some (after f history)

-- ---- one instruction outside transactions

-- LGHI 1,5
abbrev load : List ℕ
load =
    0xA7 ∷ 0x19 ∷ 0x00 ∷ 0x05 ∷ []

one_step : cpu_seen 2 (after (on plain load) (Step 0 ∷ [])) ≡ (0 ∷ 5 ∷ [], 0x4004, 0, Running)
unfolding apply replay_from run more fate cause_in ending fits remains laid_over reading_of row_number
    entry_at table accessible_pages text_pages unfetched spans_in unspecified_in inaccessible_in kind_at
    combined general_effect branch_effect storage_effect transaction_effect absolute_range
    has_place count_below text_breach operand_breach with_octowords add_of divide_word_of block fields
    register_fields restored psw_of with_fields loaded
one_step = refl

-- SVC 0
abbrev service : List ℕ
service =
    0x0A ∷ 0x00 ∷ []

halting : cpu_seen 0 (after (on plain service) (Step 0 ∷ [])) ≡ ([], 0x4002, 0, Halted)
unfolding apply replay_from run more fate cause_in ending fits remains laid_over reading_of row_number
    entry_at table accessible_pages text_pages unfetched spans_in unspecified_in inaccessible_in kind_at
    combined general_effect branch_effect storage_effect transaction_effect absolute_range
    has_place count_below text_breach operand_breach with_octowords add_of divide_word_of block fields
    register_fields restored psw_of with_fields loaded
halting = refl

-- LG 1,0: no storage there
abbrev far_load : List ℕ
far_load =
    0xE3 ∷ 0x10 ∷ 0x00 ∷ 0x00 ∷ 0x00 ∷ 0x04 ∷ []

addressing_exception : cpu_seen 0 (after (on plain far_load) (Step 0 ∷ [])) ≡ ([], 0x4006, 0, Interrupted 5)
unfolding apply replay_from run more fate cause_in ending fits remains laid_over reading_of row_number
    entry_at table accessible_pages text_pages unfetched spans_in unspecified_in inaccessible_in kind_at
    combined general_effect branch_effect storage_effect transaction_effect absolute_range
    has_place count_below text_breach operand_breach with_octowords add_of divide_word_of block fields
    register_fields restored psw_of with_fields loaded
addressing_exception = refl

-- ST 1,0(2), where register 2 has 4100: a text page
abbrev text_store : List ℕ
text_store =
    0x50 ∷ 0x10 ∷ 0x20 ∷ 0x00 ∷ []

protection_exception : cpu_seen 0 (after (on (with_registers (0 ∷ 0 ∷ 0x4100
    ∷ []) plain) text_store) (Step 0 ∷ [])) ≡ ([], 0x4004, 0, Interrupted 4)
unfolding apply replay_from run more fate cause_in ending fits remains laid_over reading_of row_number
    entry_at table accessible_pages text_pages unfetched spans_in unspecified_in inaccessible_in kind_at
    combined general_effect branch_effect storage_effect transaction_effect absolute_range
    has_place count_below text_breach operand_breach with_octowords add_of divide_word_of block fields
    register_fields restored psw_of with_fields loaded
protection_exception = refl

-- DR 2,4, where register 4 is 0
abbrev dividing : List ℕ
dividing =
    0x1D ∷ 0x24 ∷ []

divide_exception : cpu_seen 0 (after (on plain dividing) (Step 0 ∷ [])) ≡ ([], 0x4002, 0, Interrupted 9)
unfolding apply replay_from run more fate cause_in ending fits remains laid_over reading_of row_number
    entry_at table accessible_pages text_pages unfetched spans_in unspecified_in inaccessible_in kind_at
    combined general_effect branch_effect storage_effect transaction_effect absolute_range
    has_place count_below text_breach operand_breach with_octowords add_of divide_word_of block fields
    register_fields restored psw_of with_fields loaded
divide_exception = refl

-- zeros read as no instruction
no_instruction : cpu_seen 0 (after (on plain []) (Step 0 ∷ [])) ≡ ([], 0x4002, 0, Interrupted 1)
unfolding apply replay_from run more fate cause_in ending fits remains laid_over reading_of row_number
    entry_at table accessible_pages text_pages unfetched spans_in unspecified_in inaccessible_in kind_at
    combined general_effect branch_effect storage_effect transaction_effect absolute_range
    has_place count_below text_breach operand_breach with_octowords add_of divide_word_of block fields
    register_fields restored psw_of with_fields loaded
no_instruction = refl

odd_address : cpu_seen 0 (after (on (started 0x4001) load) (Step 0 ∷ [])) ≡ ([], 0x4001, 0, Interrupted 6)
unfolding apply replay_from run more fate cause_in ending fits remains laid_over reading_of row_number
    entry_at table accessible_pages text_pages unfetched spans_in unspecified_in inaccessible_in kind_at
    combined general_effect branch_effect storage_effect transaction_effect absolute_range
    has_place count_below text_breach operand_breach with_octowords add_of divide_word_of block fields
    register_fields restored psw_of with_fields loaded
odd_address = refl

outside_text : cpu_seen 0 (after (on (started 0x5000) load) (Step 0 ∷ [])) ≡ ([], 0x5000, 0, Interrupted 4)
unfolding apply replay_from run more fate cause_in ending fits remains laid_over reading_of row_number
    entry_at table accessible_pages text_pages unfetched spans_in unspecified_in inaccessible_in kind_at
    combined general_effect branch_effect storage_effect transaction_effect absolute_range
    has_place count_below text_breach operand_breach with_octowords add_of divide_word_of block fields
    register_fields restored psw_of with_fields loaded
outside_text = refl

-- the second half of the instruction is outside text
into_the_next_page : cpu_seen 0 (after (with_storage (placed 0x4ffe load (λ a. 0)) (on (started 0x4ffe)
    [])) (Step 0 ∷ [])) ≡ ([], 0x4ffe, 0, Interrupted 4)
unfolding apply replay_from run more fate cause_in ending fits remains laid_over reading_of row_number
    entry_at table accessible_pages text_pages unfetched spans_in unspecified_in inaccessible_in kind_at
    combined general_effect branch_effect storage_effect transaction_effect absolute_range
    has_place count_below text_breach operand_breach with_octowords add_of divide_word_of block fields
    register_fields restored psw_of with_fields loaded
into_the_next_page = refl

-- TEND
abbrev lone_end : List ℕ
lone_end =
    0xB2 ∷ 0xF8 ∷ 0x00 ∷ 0x00 ∷ []

end_outside : cpu_seen 0 (after (on plain lone_end) (Step 0 ∷ [])) ≡ ([], 0x4004, 2, Running)
unfolding apply replay_from run more fate cause_in ending fits remains laid_over reading_of row_number
    entry_at table accessible_pages text_pages unfetched spans_in unspecified_in inaccessible_in kind_at
    combined general_effect branch_effect storage_effect transaction_effect absolute_range
    has_place count_below text_breach operand_breach with_octowords add_of divide_word_of block fields
    register_fields restored psw_of with_fields loaded
end_outside = refl

-- TABORT 257
abbrev lone_abort : List ℕ
lone_abort =
    0xB2 ∷ 0xFC ∷ 0x01 ∷ 0x01 ∷ []

abort_outside : cpu_seen 0 (after (on plain lone_abort) (Step 0 ∷ [])) ≡ ([], 0x4004, 0, Interrupted 0x13)
unfolding apply replay_from run more fate cause_in ending fits remains laid_over reading_of row_number
    entry_at table accessible_pages text_pages unfetched spans_in unspecified_in inaccessible_in kind_at
    combined general_effect branch_effect storage_effect transaction_effect absolute_range
    has_place count_below text_breach operand_breach with_octowords add_of divide_word_of block fields
    register_fields restored psw_of with_fields loaded
abort_outside = refl

-- ---- a transaction that commits

-- LGHI 3,2; TBEGIN 0,X'FF00'; STG 3,X'9000'; TEND; SVC 0
abbrev storing : List ℕ
storing =
    0xA7 ∷ 0x39 ∷ 0x00 ∷ 0x02 ∷
    0xE5 ∷ 0x60 ∷ 0x00 ∷ 0x00 ∷ 0xFF ∷ 0x00 ∷
    0xE3 ∷ 0x30 ∷ 0x00 ∷ 0x00 ∷ 0x09 ∷ 0x24 ∷
    0xB2 ∷ 0xF8 ∷ 0x00 ∷ 0x00 ∷
    0x0A ∷ 0x00 ∷ []

abbrev stored : Option FlatState
stored = after (on plain storing) (Step 0 ∷ Commit 0 3 ∷ Step 0 ∷ [])

commit_of_three : both (cpu_seen 4 stored) (bytes_at 0x9000 8 stored)
    ≡ both (0 ∷ 0 ∷ 0 ∷ 2 ∷ [], 0x4016, 0, Halted) (0 ∷ 0 ∷ 0 ∷ 0 ∷ 0 ∷ 0 ∷ 0 ∷ 2 ∷ [])
unfolding apply replay_from run more fate cause_in ending fits remains laid_over reading_of row_number
    entry_at table accessible_pages text_pages unfetched spans_in unspecified_in inaccessible_in kind_at
    combined general_effect branch_effect storage_effect transaction_effect absolute_range
    has_place count_below text_breach operand_breach with_octowords add_of divide_word_of block fields
    register_fields restored psw_of with_fields loaded
commit_of_three = refl

-- ---- an abort by TABORT

-- LGHI 1,1; LGHI 2,2; LGFI 5,X'9000'; TBEGIN 0(5),X'8000'; JNZ OUT; LGHI 1,11; LGHI 2,12; TABORT 257; OUT
-- SVC 0
abbrev aborting : List ℕ
aborting =
    0xA7 ∷ 0x19 ∷ 0x00 ∷ 0x01 ∷
    0xA7 ∷ 0x29 ∷ 0x00 ∷ 0x02 ∷
    0xC0 ∷ 0x51 ∷ 0x00 ∷ 0x00 ∷ 0x90 ∷ 0x00 ∷
    0xE5 ∷ 0x60 ∷ 0x50 ∷ 0x00 ∷ 0x80 ∷ 0x00 ∷
    0xA7 ∷ 0x74 ∷ 0x00 ∷ 0x08 ∷
    0xA7 ∷ 0x19 ∷ 0x00 ∷ 0x0B ∷
    0xA7 ∷ 0x29 ∷ 0x00 ∷ 0x0C ∷
    0xB2 ∷ 0xFC ∷ 0x01 ∷ 0x01 ∷
    0x0A ∷ 0x00 ∷ []

abbrev three_steps : List Entry
three_steps = Step 0 ∷ Step 0 ∷ Step 0 ∷ []

abbrev aborted : Option FlatState
aborted = after (on plain aborting) (three_steps ++ Abort 0 4 (Tabort 257) ∷ [])

-- the mask saves registers 0 and 1 alone
registers_after_tabort : cpu_seen 3 aborted ≡ (0 ∷ 1 ∷ 12 ∷ [], 0x4014, 3, Running)
unfolding apply replay_from run more fate cause_in ending fits remains laid_over reading_of row_number
    entry_at table accessible_pages text_pages unfetched spans_in unspecified_in inaccessible_in kind_at
    combined general_effect branch_effect storage_effect transaction_effect absolute_range
    has_place count_below text_breach operand_breach with_octowords add_of divide_word_of block fields
    register_fields restored psw_of with_fields loaded
registers_after_tabort = refl

-- from its beginning on, and registers 0 to 2 as they were at the abort
block_after_tabort : both (pending_at 0 40 aborted) (pending_at 128 24 aborted)
    ≡ both (0x9000 ∷ 0x01 ∷ 0x00 ∷ 0x00 ∷ 0x00 ∷ 0x00 ∷ 0x00 ∷ 0x00 ∷ 0x01 ∷ 0x00 ∷ 0x00 ∷ 0x00 ∷ 0x00
    ∷ 0x00 ∷ 0x00 ∷ 0x01 ∷ 0x01 ∷ 0x00 ∷ 0x00 ∷ 0x00 ∷ 0x00 ∷ 0x00 ∷ 0x00 ∷ 0x00 ∷ 0x00 ∷ 0x00 ∷ 0x00
    ∷ 0x00 ∷ 0x00 ∷ 0x00 ∷ 0x00 ∷ 0x40 ∷ 0x20 ∷ 0x00 ∷ 0x00 ∷ 0x00 ∷ 0x00 ∷ 0x00 ∷ 0x00 ∷ 0x00 ∷ 0x00 ∷ [])
    (0x9000 ∷ 0x00 ∷ 0x00 ∷ 0x00 ∷ 0x00 ∷ 0x00 ∷ 0x00 ∷ 0x00 ∷ 0x00 ∷ 0x00 ∷ 0x00 ∷ 0x00 ∷ 0x00 ∷ 0x00
    ∷ 0x00 ∷ 0x00 ∷ 0x0B ∷ 0x00 ∷ 0x00 ∷ 0x00 ∷ 0x00 ∷ 0x00 ∷ 0x00 ∷ 0x00 ∷ 0x0C ∷ [])
unfolding apply replay_from run more fate cause_in ending fits remains laid_over reading_of row_number
    entry_at table accessible_pages text_pages unfetched spans_in unspecified_in inaccessible_in kind_at
    combined general_effect branch_effect storage_effect transaction_effect absolute_range
    has_place count_below text_breach operand_breach with_octowords add_of divide_word_of block fields
    register_fields restored psw_of with_fields loaded
block_after_tabort = refl

abbrev told : Option FlatState
told = after (on plain aborting) (three_steps ++ Abort 0 4 (Tabort 257) ∷ Tdb 0 ∷ Step 0 ∷ Step 0 ∷ [])

block_is_stored : both (cpu_seen 3 told) (both (pending_at 0 40 told) (bytes_at 0x9000 32 told))
    ≡ both (0 ∷ 1 ∷ 12 ∷ [], 0x4026, 3, Halted) (both []
    (0x01 ∷ 0x00 ∷ 0x00 ∷ 0x00 ∷ 0x00 ∷ 0x00 ∷ 0x00 ∷ 0x01 ∷ 0x00 ∷ 0x00 ∷ 0x00 ∷ 0x00 ∷ 0x00 ∷ 0x00
    ∷ 0x01 ∷ 0x01 ∷ 0x00 ∷ 0x00 ∷ 0x00 ∷ 0x00 ∷ 0x00 ∷ 0x00 ∷ 0x00 ∷ 0x00 ∷ 0x00 ∷ 0x00 ∷ 0x00 ∷ 0x00
    ∷ 0x00 ∷ 0x00 ∷ 0x40 ∷ 0x20 ∷ []))
unfolding apply replay_from run more fate cause_in ending fits remains laid_over reading_of row_number
    entry_at table accessible_pages text_pages unfetched spans_in unspecified_in inaccessible_in kind_at
    combined general_effect branch_effect storage_effect transaction_effect absolute_range
    has_place count_below text_breach operand_breach with_octowords add_of divide_word_of block fields
    register_fields restored psw_of with_fields loaded
block_is_stored = refl

-- ---- exceptions in a transaction: TABORT 255, by the filtering control

-- the same with the control 2 and TABORT 255
abbrev filtering : List ℕ
filtering =
    0xA7 ∷ 0x19 ∷ 0x00 ∷ 0x01 ∷
    0xA7 ∷ 0x29 ∷ 0x00 ∷ 0x02 ∷
    0xC0 ∷ 0x51 ∷ 0x00 ∷ 0x00 ∷ 0x90 ∷ 0x00 ∷
    0xE5 ∷ 0x60 ∷ 0x50 ∷ 0x00 ∷ 0x80 ∷ 0x02 ∷
    0xA7 ∷ 0x74 ∷ 0x00 ∷ 0x08 ∷
    0xA7 ∷ 0x19 ∷ 0x00 ∷ 0x0B ∷
    0xA7 ∷ 0x29 ∷ 0x00 ∷ 0x0C ∷
    0xB2 ∷ 0xFC ∷ 0x00 ∷ 0xFF ∷
    0x0A ∷ 0x00 ∷ []

-- the same with the control 1 and TABORT 255
abbrev unfiltering : List ℕ
unfiltering =
    0xA7 ∷ 0x19 ∷ 0x00 ∷ 0x01 ∷
    0xA7 ∷ 0x29 ∷ 0x00 ∷ 0x02 ∷
    0xC0 ∷ 0x51 ∷ 0x00 ∷ 0x00 ∷ 0x90 ∷ 0x00 ∷
    0xE5 ∷ 0x60 ∷ 0x50 ∷ 0x00 ∷ 0x80 ∷ 0x01 ∷
    0xA7 ∷ 0x74 ∷ 0x00 ∷ 0x08 ∷
    0xA7 ∷ 0x19 ∷ 0x00 ∷ 0x0B ∷
    0xA7 ∷ 0x29 ∷ 0x00 ∷ 0x0C ∷
    0xB2 ∷ 0xFC ∷ 0x00 ∷ 0xFF ∷
    0x0A ∷ 0x00 ∷ []

abbrev filtered : Option FlatState
filtered = after (on plain filtering) (three_steps ++ Abort 0 4 (Filtered (exception 6 4)) ∷ [])

filtered_exception : both (cpu_seen 3 filtered) (both (pending_at 8 8 filtered) (pending_at 37 3 filtered))
    ≡ both (0 ∷ 1 ∷ 12 ∷ [], 0x4014, 3, Running)
    (both (0x9000 ∷ 0 ∷ 0 ∷ 0 ∷ 0 ∷ 0 ∷ 0 ∷ 0 ∷ 12 ∷ []) (0x9000 ∷ 4 ∷ 0 ∷ 6 ∷ []))
unfolding apply replay_from run more fate cause_in ending fits remains laid_over reading_of row_number
    entry_at table accessible_pages text_pages unfetched spans_in unspecified_in inaccessible_in kind_at
    combined general_effect branch_effect storage_effect transaction_effect absolute_range
    has_place count_below text_breach operand_breach with_octowords add_of divide_word_of block fields
    register_fields restored psw_of with_fields loaded
filtered_exception = refl

abbrev unfiltered : Option FlatState
unfiltered = after (on plain unfiltering) (three_steps ++ Abort 0 4 (Program (exception 6 4)) ∷ [])

unfiltered_exception : both (cpu_seen 3 unfiltered) (both (pending_at 8 8 unfiltered) (waits unfiltered))
    ≡ both (0 ∷ 1 ∷ 12 ∷ [], 0x4014, 3, Interrupted 0x206)
    (both (0x9000 ∷ 0 ∷ 0 ∷ 0 ∷ 0 ∷ 0 ∷ 0 ∷ 0 ∷ 4 ∷ []) false)
unfolding apply replay_from run more fate cause_in ending fits remains laid_over reading_of row_number
    entry_at table accessible_pages text_pages unfetched spans_in unspecified_in inaccessible_in kind_at
    combined general_effect branch_effect storage_effect transaction_effect absolute_range
    has_place count_below text_breach operand_breach with_octowords add_of divide_word_of block fields
    register_fields restored psw_of with_fields loaded
unfiltered_exception = refl

-- TBEGIN 0,X'0001'; AGR 1,2: a fixed-point overflow, filtered
abbrev overflowing : List ℕ
overflowing =
    0xE5 ∷ 0x60 ∷ 0x00 ∷ 0x00 ∷ 0x00 ∷ 0x01 ∷
    0xB9 ∷ 0x08 ∷ 0x00 ∷ 0x12 ∷ []

abbrev pub full : Cpu
full = record (with_registers (0 ∷ 0x7fffffffffffffff ∷ 1 ∷ []) plain) { mask = 8 }

overflow_has_completed : cpu_seen 3 (after (on full overflowing) (Abort 0 2 (Filtered (exception 8 4)) ∷ []))
    ≡ (0 ∷ 0x8000000000000000 ∷ 1 ∷ [], 0x4006, 3, Running)
unfolding apply replay_from run more fate cause_in ending fits remains laid_over reading_of row_number
    entry_at table accessible_pages text_pages unfetched spans_in unspecified_in inaccessible_in kind_at
    combined general_effect branch_effect storage_effect transaction_effect absolute_range
    has_place count_below text_breach operand_breach with_octowords add_of divide_word_of block fields
    register_fields restored psw_of with_fields loaded
overflow_has_completed = refl

-- TBEGIN 0,0; SVC 0
abbrev serving : List ℕ
serving =
    0xE5 ∷ 0x60 ∷ 0x00 ∷ 0x00 ∷ 0x00 ∷ 0x00 ∷
    0x0A ∷ 0x00 ∷ []

restricted_instruction : cpu_seen 0 (after (on plain serving) (Abort 0 1 Restricted ∷ []))
    ≡ ([], 0x4006, 3, Running)
unfolding apply replay_from run more fate cause_in ending fits remains laid_over reading_of row_number
    entry_at table accessible_pages text_pages unfetched spans_in unspecified_in inaccessible_in kind_at
    combined general_effect branch_effect storage_effect transaction_effect absolute_range
    has_place count_below text_breach operand_breach with_octowords add_of divide_word_of block fields
    register_fields restored psw_of with_fields loaded
restricted_instruction = refl

-- ---- NTSTG at an abort

-- TBEGIN 0,X'FF00'; JNZ OUT; NTSTG 1,X'9000'; STG 2,X'9000'; TABORT 256; OUT SVC 0
abbrev lasting : List ℕ
lasting =
    0xE5 ∷ 0x60 ∷ 0x00 ∷ 0x00 ∷ 0xFF ∷ 0x00 ∷
    0xA7 ∷ 0x74 ∷ 0x00 ∷ 0x0A ∷
    0xE3 ∷ 0x10 ∷ 0x00 ∷ 0x00 ∷ 0x09 ∷ 0x25 ∷
    0xE3 ∷ 0x20 ∷ 0x00 ∷ 0x00 ∷ 0x09 ∷ 0x24 ∷
    0xB2 ∷ 0xFC ∷ 0x01 ∷ 0x00 ∷
    0x0A ∷ 0x00 ∷ []

abbrev three_and_four : Cpu
three_and_four = with_registers (0 ∷ 3 ∷ 4 ∷ []) plain

abbrev lasted : Option FlatState
lasted = after (on three_and_four lasting) (Abort 0 4 (Tabort 256) ∷ [])

its_last_value_stays : both (cpu_seen 3 lasted) (bytes_at 0x9000 8 lasted)
    ≡ both (0 ∷ 3 ∷ 4 ∷ [], 0x4006, 2, Running) (0 ∷ 0 ∷ 0 ∷ 0 ∷ 0 ∷ 0 ∷ 0 ∷ 3 ∷ [])
unfolding apply replay_from run more fate cause_in ending fits remains laid_over reading_of row_number
    entry_at table accessible_pages text_pages unfetched spans_in unspecified_in inaccessible_in kind_at
    combined general_effect branch_effect storage_effect transaction_effect absolute_range
    has_place count_below text_breach operand_breach with_octowords add_of divide_word_of block fields
    register_fields restored psw_of with_fields loaded
its_last_value_stays = refl

-- ---- a constrained transaction that breaks a constraint

-- TBEGINC 0,X'FF00'; LG 1,X'4800': an operand in a page of its own
abbrev own_page : List ℕ
own_page =
    0xE5 ∷ 0x61 ∷ 0x00 ∷ 0x00 ∷ 0xFF ∷ 0x00 ∷
    0xE3 ∷ 0x10 ∷ 0x08 ∷ 0x00 ∷ 0x04 ∷ 0x04 ∷ []

breach : cpu_seen 0 (after (on plain own_page) (Abort 0 1 (Program (exception 0x18 6)) ∷ []))
    ≡ ([], 0x4000, 3, Interrupted 0x218)
unfolding apply replay_from run more fate cause_in ending fits remains laid_over reading_of row_number
    entry_at table accessible_pages text_pages unfetched spans_in unspecified_in inaccessible_in kind_at
    combined general_effect branch_effect storage_effect transaction_effect absolute_range
    has_place count_below text_breach operand_breach with_octowords add_of divide_word_of block fields
    register_fields restored psw_of with_fields loaded
breach = refl

-- ---- a CPU with the prefix A000

abbrev prefixed : Cpu
prefixed = record plain { prefix = Some 0xa000 }

-- the new program status word, for the address 5000
abbrev with_new_psw : FlatState → FlatState
with_new_psw f = with_storage (placed 0xa1d0 (0 ∷ 0 ∷ 0 ∷ 1 ∷ 0x80 ∷ 0 ∷ 0 ∷ 0 ∷ 0 ∷ 0 ∷ 0 ∷ 0 ∷ 0 ∷ 0
    ∷ 0x50 ∷ 0 ∷ []) f.storage) f

-- STG 1,X'1FFC': its bytes lie apart
abbrev spanning : List ℕ
spanning =
    0xE3 ∷ 0x10 ∷ 0x0F ∷ 0xFC ∷ 0x01 ∷ 0x24 ∷ []

abbrev apart : Option FlatState
apart = after (on (with_registers (0 ∷ 0x0102030405060708 ∷ []) prefixed) spanning) (Step 0 ∷ [])

bytes_apart : both (bytes_at 0xbffc 5 apart) (bytes_at 0x2000 5 apart)
    ≡ both (1 ∷ 2 ∷ 3 ∷ 4 ∷ 0 ∷ []) (5 ∷ 6 ∷ 7 ∷ 8 ∷ 0 ∷ [])
unfolding apply replay_from run more fate cause_in ending fits remains laid_over reading_of row_number
    entry_at table accessible_pages text_pages unfetched spans_in unspecified_in inaccessible_in kind_at
    combined general_effect branch_effect storage_effect transaction_effect absolute_range
    has_place count_below text_breach operand_breach with_octowords add_of divide_word_of block fields
    register_fields restored psw_of with_fields loaded
bytes_apart = refl

abbrev taken : Option FlatState
taken = after (with_new_psw (on prefixed dividing)) (Step 0 ∷ Interrupt 0 ∷ [])

interruption_is_taken : both (both (cpu_seen 0 taken) (waits taken)) (both (bytes_at 0xa08c 4 taken)
    (bytes_at 0xa150 16 taken))
    ≡ both (both ([], 0x5000, 0, Running) false) (both (0 ∷ 2 ∷ 0 ∷ 9 ∷ [])
    (0x00 ∷ 0x00 ∷ 0x00 ∷ 0x01 ∷ 0x80 ∷ 0x00 ∷ 0x00 ∷ 0x00 ∷ 0x00 ∷ 0x00 ∷ 0x00 ∷ 0x00 ∷ 0x00 ∷ 0x00
    ∷ 0x40 ∷ 0x02 ∷ []))
unfolding apply replay_from run more fate cause_in ending fits remains laid_over reading_of row_number
    entry_at table accessible_pages text_pages unfetched spans_in unspecified_in inaccessible_in kind_at
    combined general_effect branch_effect storage_effect transaction_effect absolute_range
    has_place count_below text_breach operand_breach with_octowords add_of divide_word_of block fields
    register_fields restored psw_of with_fields loaded
interruption_is_taken = refl

abbrev taken_after_abort : Option FlatState
taken_after_abort = after (with_new_psw (on prefixed own_page)) (Abort 0 1 (Program (exception 0x18 6))
    ∷ Interrupt 0 ∷ [])

interruption_after_an_abort : both (both (cpu_seen 0 taken_after_abort) (bytes_at 0xa08c 4 taken_after_abort))
    (both (bytes_at 0xa150 16 taken_after_abort) (bytes_at 0xb800 40 taken_after_abort))
    ≡ both (both ([], 0x5000, 0, Running) (0x00 ∷ 0x06 ∷ 0x02 ∷ 0x18 ∷ []))
    (both (0x00 ∷ 0x00 ∷ 0x30 ∷ 0x01 ∷ 0x80 ∷ 0x00 ∷ 0x00 ∷ 0x00 ∷ 0x00 ∷ 0x00 ∷ 0x00 ∷ 0x00 ∷ 0x00
    ∷ 0x00 ∷ 0x40 ∷ 0x00 ∷ [])
    (0x01 ∷ 0x40 ∷ 0x00 ∷ 0x00 ∷ 0x00 ∷ 0x00 ∷ 0x00 ∷ 0x01 ∷ 0x00 ∷ 0x00 ∷ 0x00 ∷ 0x00 ∷ 0x00 ∷ 0x00
    ∷ 0x00 ∷ 0x04 ∷ 0x00 ∷ 0x00 ∷ 0x00 ∷ 0x00 ∷ 0x00 ∷ 0x00 ∷ 0x00 ∷ 0x00 ∷ 0x00 ∷ 0x00 ∷ 0x00 ∷ 0x00
    ∷ 0x00 ∷ 0x00 ∷ 0x40 ∷ 0x06 ∷ 0x00 ∷ 0x00 ∷ 0x00 ∷ 0x00 ∷ 0x00 ∷ 0x06 ∷ 0x00 ∷ 0x18 ∷ []))
unfolding apply replay_from run more fate cause_in ending fits remains laid_over reading_of row_number
    entry_at table accessible_pages text_pages unfetched spans_in unspecified_in inaccessible_in kind_at
    combined general_effect branch_effect storage_effect transaction_effect absolute_range
    has_place count_below text_breach operand_breach with_octowords add_of divide_word_of block fields
    register_fields restored psw_of with_fields loaded
interruption_after_an_abort = refl

-- ---- entries that do not fit

abbrev stepped : List Entry → List Entry
stepped rest = Step 0 ∷ rest

-- a begin that goes is no step
begin_as_a_step : fitting (on plain storing) (stepped (Step 0 ∷ [])) ≡ false
unfolding apply replay_from run more fate cause_in ending fits remains laid_over reading_of row_number
    entry_at table accessible_pages text_pages unfetched spans_in unspecified_in inaccessible_in kind_at
    combined general_effect branch_effect storage_effect transaction_effect absolute_range
    has_place count_below text_breach operand_breach with_octowords add_of divide_word_of block fields
    register_fields restored psw_of with_fields loaded
begin_as_a_step = refl

-- not yet committed
too_early : fitting (on plain storing) (stepped (Commit 0 2 ∷ [])) ≡ false
unfolding apply replay_from run more fate cause_in ending fits remains laid_over reading_of row_number
    entry_at table accessible_pages text_pages unfetched spans_in unspecified_in inaccessible_in kind_at
    combined general_effect branch_effect storage_effect transaction_effect absolute_range
    has_place count_below text_breach operand_breach with_octowords add_of divide_word_of block fields
    register_fields restored psw_of with_fields loaded
too_early = refl

-- an instruction too many
too_late : fitting (on plain storing) (stepped (Commit 0 4 ∷ [])) ≡ false
unfolding apply replay_from run more fate cause_in ending fits remains laid_over reading_of row_number
    entry_at table accessible_pages text_pages unfetched spans_in unspecified_in inaccessible_in kind_at
    combined general_effect branch_effect storage_effect transaction_effect absolute_range
    has_place count_below text_breach operand_breach with_octowords add_of divide_word_of block fields
    register_fields restored psw_of with_fields loaded
too_late = refl

-- the first is no begin
no_begin : fitting (on plain storing) (Commit 0 1 ∷ []) ≡ false
unfolding apply replay_from run more fate cause_in ending fits remains laid_over reading_of row_number
    entry_at table accessible_pages text_pages unfetched spans_in unspecified_in inaccessible_in kind_at
    combined general_effect branch_effect storage_effect transaction_effect absolute_range
    has_place count_below text_breach operand_breach with_octowords add_of divide_word_of block fields
    register_fields restored psw_of with_fields loaded
no_begin = refl

-- no such CPU
no_cpu_there : fitting (on plain storing) (Step 1 ∷ []) ≡ false
unfolding apply replay_from run more fate cause_in ending fits remains laid_over reading_of row_number
    entry_at table accessible_pages text_pages unfetched spans_in unspecified_in inaccessible_in kind_at
    combined general_effect branch_effect storage_effect transaction_effect absolute_range
    has_place count_below text_breach operand_breach with_octowords add_of divide_word_of block fields
    register_fields restored psw_of with_fields loaded
no_cpu_there = refl

-- no block
no_block : fitting (on plain storing) (Tdb 0 ∷ []) ≡ false
unfolding apply replay_from run more fate cause_in ending fits remains laid_over reading_of row_number
    entry_at table accessible_pages text_pages unfetched spans_in unspecified_in inaccessible_in kind_at
    combined general_effect branch_effect storage_effect transaction_effect absolute_range
    has_place count_below text_breach operand_breach with_octowords add_of divide_word_of block fields
    register_fields restored psw_of with_fields loaded
no_block = refl

-- no interruption
no_interruption : fitting (on plain storing) (Interrupt 0 ∷ []) ≡ false
unfolding apply replay_from run more fate cause_in ending fits remains laid_over reading_of row_number
    entry_at table accessible_pages text_pages unfetched spans_in unspecified_in inaccessible_in kind_at
    combined general_effect branch_effect storage_effect transaction_effect absolute_range
    has_place count_below text_breach operand_breach with_octowords add_of divide_word_of block fields
    register_fields restored psw_of with_fields loaded
no_interruption = refl

-- no attempt
no_attempt : fitting (on plain storing) (stepped (Abort 0 0 External ∷ [])) ≡ false
unfolding apply replay_from run more fate cause_in ending fits remains laid_over reading_of row_number
    entry_at table accessible_pages text_pages unfetched spans_in unspecified_in inaccessible_in kind_at
    combined general_effect branch_effect storage_effect transaction_effect absolute_range
    has_place count_below text_breach operand_breach with_octowords add_of divide_word_of block fields
    register_fields restored psw_of with_fields loaded
no_attempt = refl

-- it is committed
after_the_commit : fitting (on plain storing) (stepped (Abort 0 3 External ∷ [])) ≡ false
unfolding apply replay_from run more fate cause_in ending fits remains laid_over reading_of row_number
    entry_at table accessible_pages text_pages unfetched spans_in unspecified_in inaccessible_in kind_at
    combined general_effect branch_effect storage_effect transaction_effect absolute_range
    has_place count_below text_breach operand_breach with_octowords add_of divide_word_of block fields
    register_fields restored psw_of with_fields loaded
after_the_commit = refl

-- the line is stored
fetch_of_a_stored_line : fitting (on plain storing) (stepped (Abort 0 2 (FetchConflict 0x90) ∷ [])) ≡ false
unfolding apply replay_from run more fate cause_in ending fits remains laid_over reading_of row_number
    entry_at table accessible_pages text_pages unfetched spans_in unspecified_in inaccessible_in kind_at
    combined general_effect branch_effect storage_effect transaction_effect absolute_range
    has_place count_below text_breach operand_breach with_octowords add_of divide_word_of block fields
    register_fields restored psw_of with_fields loaded
fetch_of_a_stored_line = refl

-- the line is not touched
untouched_line : fitting (on plain storing) (stepped (Abort 0 2 (StoreConflict 0x91) ∷ [])) ≡ false
unfolding apply replay_from run more fate cause_in ending fits remains laid_over reading_of row_number
    entry_at table accessible_pages text_pages unfetched spans_in unspecified_in inaccessible_in kind_at
    combined general_effect branch_effect storage_effect transaction_effect absolute_range
    has_place count_below text_breach operand_breach with_octowords add_of divide_word_of block fields
    register_fields restored psw_of with_fields loaded
untouched_line = refl

-- not yet stored
not_yet_stored : fitting (on plain storing) (stepped (Abort 0 1 (StoreConflict 0x90) ∷ [])) ≡ false
unfolding apply replay_from run more fate cause_in ending fits remains laid_over reading_of row_number
    entry_at table accessible_pages text_pages unfetched spans_in unspecified_in inaccessible_in kind_at
    combined general_effect branch_effect storage_effect transaction_effect absolute_range
    has_place count_below text_breach operand_breach with_octowords add_of divide_word_of block fields
    register_fields restored psw_of with_fields loaded
not_yet_stored = refl

-- not constrained
starved_unconstrained : fitting (on plain storing) (stepped (Abort 0 1 Starved ∷ [])) ≡ false
unfolding apply replay_from run more fate cause_in ending fits remains laid_over reading_of row_number
    entry_at table accessible_pages text_pages unfetched spans_in unspecified_in inaccessible_in kind_at
    combined general_effect branch_effect storage_effect transaction_effect absolute_range
    has_place count_below text_breach operand_breach with_octowords add_of divide_word_of block fields
    register_fields restored psw_of with_fields loaded
starved_unconstrained = refl

-- the next instruction goes
not_refused : fitting (on plain storing) (stepped (Abort 0 1 Restricted ∷ [])) ≡ false
unfolding apply replay_from run more fate cause_in ending fits remains laid_over reading_of row_number
    entry_at table accessible_pages text_pages unfetched spans_in unspecified_in inaccessible_in kind_at
    combined general_effect branch_effect storage_effect transaction_effect absolute_range
    has_place count_below text_breach operand_breach with_octowords add_of divide_word_of block fields
    register_fields restored psw_of with_fields loaded
not_refused = refl

-- another cause
other_cause : fitting (on plain serving) (Abort 0 1 (Tabort 257) ∷ []) ≡ false
unfolding apply replay_from run more fate cause_in ending fits remains laid_over reading_of row_number
    entry_at table accessible_pages text_pages unfetched spans_in unspecified_in inaccessible_in kind_at
    combined general_effect branch_effect storage_effect transaction_effect absolute_range
    has_place count_below text_breach operand_breach with_octowords add_of divide_word_of block fields
    register_fields restored psw_of with_fields loaded
other_cause = refl

-- a count one too low
count_too_low : fitting (on three_and_four lasting) (Abort 0 3 (Tabort 256) ∷ []) ≡ false
unfolding apply replay_from run more fate cause_in ending fits remains laid_over reading_of row_number
    entry_at table accessible_pages text_pages unfetched spans_in unspecified_in inaccessible_in kind_at
    combined general_effect branch_effect storage_effect transaction_effect absolute_range
    has_place count_below text_breach operand_breach with_octowords add_of divide_word_of block fields
    register_fields restored psw_of with_fields loaded
count_too_low = refl

-- it has ended by its overflow
overflow_from_outside : fitting (on full overflowing) (Abort 0 2 External ∷ []) ≡ false
unfolding apply replay_from run more fate cause_in ending fits remains laid_over reading_of row_number
    entry_at table accessible_pages text_pages unfetched spans_in unspecified_in inaccessible_in kind_at
    combined general_effect branch_effect storage_effect transaction_effect absolute_range
    has_place count_below text_breach operand_breach with_octowords add_of divide_word_of block fields
    register_fields restored psw_of with_fields loaded
overflow_from_outside = refl

-- the instruction counts
overflow_not_counted : fitting (on full overflowing) (Abort 0 1 (Filtered (exception 8 4)) ∷ []) ≡ false
unfolding apply replay_from run more fate cause_in ending fits remains laid_over reading_of row_number
    entry_at table accessible_pages text_pages unfetched spans_in unspecified_in inaccessible_in kind_at
    combined general_effect branch_effect storage_effect transaction_effect absolute_range
    has_place count_below text_breach operand_breach with_octowords add_of divide_word_of block fields
    register_fields restored psw_of with_fields loaded
overflow_not_counted = refl

-- it is filtered
filtered_as_program : fitting (on plain filtering) (three_steps ++ Abort 0 4 (Program (exception 6 4))
    ∷ []) ≡ false
unfolding apply replay_from run more fate cause_in ending fits remains laid_over reading_of row_number
    entry_at table accessible_pages text_pages unfetched spans_in unspecified_in inaccessible_in kind_at
    combined general_effect branch_effect storage_effect transaction_effect absolute_range
    has_place count_below text_breach operand_breach with_octowords add_of divide_word_of block fields
    register_fields restored psw_of with_fields loaded
filtered_as_program = refl

-- a block is pending
step_while_pending : fitting (on plain filtering) (three_steps ++ Abort 0 4 (Filtered (exception 6 4))
    ∷ Step 0 ∷ []) ≡ false
unfolding apply replay_from run more fate cause_in ending fits remains laid_over reading_of row_number
    entry_at table accessible_pages text_pages unfetched spans_in unspecified_in inaccessible_in kind_at
    combined general_effect branch_effect storage_effect transaction_effect absolute_range
    has_place count_below text_breach operand_breach with_octowords add_of divide_word_of block fields
    register_fields restored psw_of with_fields loaded
step_while_pending = refl

-- it is interrupted
step_while_interrupted : fitting (with_new_psw (on prefixed dividing)) (Step 0 ∷ Step 0 ∷ []) ≡ false
unfolding apply replay_from run more fate cause_in ending fits remains laid_over reading_of row_number
    entry_at table accessible_pages text_pages unfetched spans_in unspecified_in inaccessible_in kind_at
    combined general_effect branch_effect storage_effect transaction_effect absolute_range
    has_place count_below text_breach operand_breach with_octowords add_of divide_word_of block fields
    register_fields restored psw_of with_fields loaded
step_while_interrupted = refl

-- a block is pending
interruption_while_pending : fitting (with_pending 0 (Some record { address = 0x9000; bytes = [] })
    (with_waiting 0 (Some record { length = 2; block = None }) (on prefixed dividing))) (Interrupt 0
    ∷ []) ≡ false
unfolding apply replay_from run more fate cause_in ending fits remains laid_over reading_of row_number
    entry_at table accessible_pages text_pages unfetched spans_in unspecified_in inaccessible_in kind_at
    combined general_effect branch_effect storage_effect transaction_effect absolute_range
    has_place count_below text_breach operand_breach with_octowords add_of divide_word_of block fields
    register_fields restored psw_of with_fields loaded
interruption_while_pending = refl

-- ---- entries from outside that fit

external_at_any_time : fitting (on plain storing) (stepped (Abort 0 1 External ∷ [])) ≡ true
unfolding apply replay_from run more fate cause_in ending fits remains laid_over reading_of row_number
    entry_at table accessible_pages text_pages unfetched spans_in unspecified_in inaccessible_in kind_at
    combined general_effect branch_effect storage_effect transaction_effect absolute_range
    has_place count_below text_breach operand_breach with_octowords add_of divide_word_of block fields
    register_fields restored psw_of with_fields loaded
external_at_any_time = refl

store_conflict : fitting (on plain storing) (stepped (Abort 0 2 (StoreConflict 0x90) ∷ [])) ≡ true
unfolding apply replay_from run more fate cause_in ending fits remains laid_over reading_of row_number
    entry_at table accessible_pages text_pages unfetched spans_in unspecified_in inaccessible_in kind_at
    combined general_effect branch_effect storage_effect transaction_effect absolute_range
    has_place count_below text_breach operand_breach with_octowords add_of divide_word_of block fields
    register_fields restored psw_of with_fields loaded
store_conflict = refl

-- TBEGINC 0,X'FF00'; LG 1,X'9000'; TEND
abbrev fetching : List ℕ
fetching =
    0xE5 ∷ 0x61 ∷ 0x00 ∷ 0x00 ∷ 0xFF ∷ 0x00 ∷
    0xE3 ∷ 0x10 ∷ 0x00 ∷ 0x00 ∷ 0x09 ∷ 0x04 ∷
    0xB2 ∷ 0xF8 ∷ 0x00 ∷ 0x00 ∷ []

fetch_conflict : fitting (on plain fetching) (Abort 0 2 (FetchConflict 0x90) ∷ []) ≡ true
unfolding apply replay_from run more fate cause_in ending fits remains laid_over reading_of row_number
    entry_at table accessible_pages text_pages unfetched spans_in unspecified_in inaccessible_in kind_at
    combined general_effect branch_effect storage_effect transaction_effect absolute_range
    has_place count_below text_breach operand_breach with_octowords add_of divide_word_of block fields
    register_fields restored psw_of with_fields loaded
fetch_conflict = refl

starved : fitting (on plain fetching) (Abort 0 1 Starved ∷ []) ≡ true
unfolding apply replay_from run more fate cause_in ending fits remains laid_over reading_of row_number
    entry_at table accessible_pages text_pages unfetched spans_in unspecified_in inaccessible_in kind_at
    combined general_effect branch_effect storage_effect transaction_effect absolute_range
    has_place count_below text_breach operand_breach with_octowords add_of divide_word_of block fields
    register_fields restored psw_of with_fields loaded
starved = refl

-- TEND asks for no line
starved_without_operands : fitting (on plain fetching) (Abort 0 2 Starved ∷ []) ≡ false
unfolding apply replay_from run more fate cause_in ending fits remains laid_over reading_of row_number
    entry_at table accessible_pages text_pages unfetched spans_in unspecified_in inaccessible_in kind_at
    combined general_effect branch_effect storage_effect transaction_effect absolute_range
    has_place count_below text_breach operand_breach with_octowords add_of divide_word_of block fields
    register_fields restored psw_of with_fields loaded
starved_without_operands = refl

-- ---- one transaction inside another

-- TBEGIN 0,X'FF00'; TBEGIN 0,0; ETND 3; TEND; TEND
abbrev nested : List ℕ
nested =
    0xE5 ∷ 0x60 ∷ 0x00 ∷ 0x00 ∷ 0xFF ∷ 0x00 ∷
    0xE5 ∷ 0x60 ∷ 0x00 ∷ 0x00 ∷ 0x00 ∷ 0x00 ∷
    0xB2 ∷ 0xEC ∷ 0x00 ∷ 0x30 ∷
    0xB2 ∷ 0xF8 ∷ 0x00 ∷ 0x00 ∷
    0xB2 ∷ 0xF8 ∷ 0x00 ∷ 0x00 ∷ []

depth_of_two : cpu_seen 4 (after (on plain nested) (Commit 0 5 ∷ []))
    ≡ (0 ∷ 0 ∷ 0 ∷ 2 ∷ [], 0x4018, 0, Running)
unfolding apply replay_from run more fate cause_in ending fits remains laid_over reading_of row_number
    entry_at table accessible_pages text_pages unfetched spans_in unspecified_in inaccessible_in kind_at
    combined general_effect branch_effect storage_effect transaction_effect absolute_range
    has_place count_below text_breach operand_breach with_octowords add_of divide_word_of block fields
    register_fields restored psw_of with_fields loaded
depth_of_two = refl

-- the inner end does not commit
inner_end : fitting (on plain nested) (Commit 0 4 ∷ []) ≡ false
unfolding apply replay_from run more fate cause_in ending fits remains laid_over reading_of row_number
    entry_at table accessible_pages text_pages unfetched spans_in unspecified_in inaccessible_in kind_at
    combined general_effect branch_effect storage_effect transaction_effect absolute_range
    has_place count_below text_breach operand_breach with_octowords add_of divide_word_of block fields
    register_fields restored psw_of with_fields loaded
inner_end = refl
