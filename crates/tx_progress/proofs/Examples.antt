-- Worked values: programs at 4000 in hexadecimal, in text page 4, turn by turn on what is kept of one CPU.
-- The expected values are those of an independent model of the machine.
use Rattle.std.proofs.Common.{◌≡◌, refl, ℕ, zero, suc, ◌+◌, ◌-◌, true, false, List, [], ◌∷◌, ◌++◌}
use Rattle.std.proofs.Common.{length, get_or, Option, Some, None}
use Rattle.std.specs.Prelude.{◌&&◌, nat_lt, nat_le, if◌then◌else◌, is_some, take, drop, map, slice_range}
use Rattle.std.specs.List.{range_with_len}
use Rattle.bit_set.specs.Counts.{count_below}
use Rattle.z_arith.specs.Sum.{add_of}
use Rattle.z_arith.specs.Quotient.{divide_word_of}
use Rattle.z_regs.specs.Cpu.{Cpu, started}
use Rattle.z_regs.specs.Psw.{psw_of, with_fields, loaded}
use Rattle.z_regs.specs.Absolute.{absolute_range}
use Rattle.z_regs.specs.declared.image.RunState.{RunState}
use Rattle.z_regs.specs.declared.image.RunState.TheVariants.{Running, Halted, Interrupted}
use Rattle.z_instr.specs.Table.{entry_at, table}
use Rattle.z_instr.specs.Computing.{reading_of, row_number}
use Rattle.z_instr.specs.Access.{accessible_pages, text_pages, unfetched}
use Rattle.z_instr.specs.Operands.{spans_in, unspecified_in, inaccessible_in}
use Rattle.z_instr.specs.Table.{kind_at}
use Rattle.z_effect.specs.Operations.{combined}
use Rattle.z_effect.specs.GeneralEffect.{general_effect}
use Rattle.z_effect.specs.BranchEffect.{branch_effect}
use Rattle.z_effect.specs.StorageEffect.{storage_effect}
use Rattle.z_effect.specs.TransactionEffect.{transaction_effect}
use Rattle.tx_control.specs.declared.exceptions.Exception.{Exception}
use Rattle.tx_control.specs.declared.causes.Why.TheVariants.{Program, Filtered, Tabort}
use Rattle.tx_constraint.specs.Octowords.{with_octowords}
use Rattle.tx_constraint.specs.Kept.{Kept, next_text_breach, next_operand_breach}
use Rattle.tx_footprint.specs.Places.{has_place}
use Rattle.tx_abort.specs.Block.{block, fields, register_fields}
use Rattle.tx_abort.specs.Registers.{restored}
use Rattle.tx_serial.specs.Fate.{Fate, Goes, Ends, Stops, cause_in}
use Rattle.tx_serial.specs.Flat.{Storage, Pending, laid_over}
use Rattle.tx_progress.specs.Doing.{Executed, executed, stopped, ended}
use Rattle.tx_progress.specs.Local.{Beside, settled, aborted, block_stored, interruption_taken}
use Rattle.tx_progress.specs.Trial.{fate_by_progress}
use Rattle.tx_progress.specs.declared.done.Done.{Done}
use Rattle.tx_progress.specs.declared.done.Done.TheVariants as done

-- ---- turns

-- bytes at an address, over storage
abbrev placed : ℕ → List ℕ → Storage → Storage
placed first bytes storage a =
    if nat_le first a && nat_lt a (first + length bytes) then get_or bytes (a - first) 0 else storage a

abbrev on : Cpu → List ℕ → Beside
on c program = record { local = settled c; storage = placed 0x4000 program (λ a. 0) }

abbrev plain : Cpu
plain = started 0x4000

abbrev with_registers : List ℕ → Cpu → Cpu
with_registers values c = record c { general = values ++ drop (length values) c.general }

abbrev by_fate : Fate → Beside → Executed
by_fate (Goes i ranges) b = executed i ranges b
by_fate (Ends why) b = ended b why
by_fate (Stops e) b = record {
  after = record b { local = stopped e b.local };
  told = done.Interrupted e.code;
}

abbrev turn : Beside → Executed
turn b = by_fate (fate_by_progress (4 ∷ []) b.storage b.local.attempt) b

-- the last of some turns, which come after the first of all
abbrev turns : ℕ → Beside → Executed
turns zero b = turn b
turns (suc n) b = turns n (turn b).after

abbrev exception : ℕ → ℕ → Exception
exception code length = record { code = code; fetch = false; length = length }

-- ---- what is seen

abbrev both : {A B : Type 0} → A → B → A × B
both a b = (a, b)

-- the first registers, the address, the condition code and the state
abbrev seen : ℕ → Cpu → List ℕ × ℕ × ℕ × RunState
seen n c = (take n c.general, c.address, c.condition, c.state)

abbrev bytes_at : ℕ → ℕ → Beside → List ℕ
bytes_at a n b = map b.storage (range_with_len a n)

abbrev block_of : ℕ → ℕ → Option Pending → List ℕ
block_of a n None = []
block_of a n (Some b) = b.address ∷ slice_range b.bytes a (a + n)

-- what is left by an abort, where the instruction has told of a cause
abbrev left_by : Done → ℕ → Beside → Beside
left_by (done.Ended why) at b = aborted why at b
left_by done.Stepped at b = b
left_by (done.Paused count) at b = b
left_by done.Began at b = b
left_by (done.Committed n) at b = b
left_by (done.Interrupted code) at b = b

abbrev left : ℕ → Executed → Beside
left at e = left_by e.told at e.after

-- ---- a transaction that commits

-- LGHI 3,2; TBEGIN 0,X'FF00'; STG 3,X'9000'; TEND; SVC 0
abbrev storing : List ℕ
storing =
    0xA7 ∷ 0x39 ∷ 0x00 ∷ 0x02 ∷ 0xE5 ∷ 0x60 ∷ 0x00 ∷ 0x00 ∷ 0xFF ∷ 0x00 ∷ 0xE3 ∷ 0x30 ∷
    0x00 ∷ 0x00 ∷ 0x09 ∷ 0x24 ∷ 0xB2 ∷ 0xF8 ∷ 0x00 ∷ 0x00 ∷ 0x0A ∷ 0x00 ∷ []

begun : both (turns 1 (on plain storing)).told
    (let q = (turns 1 (on plain storing)).after.local.attempt in both (both q.count (length q.nest))
    q.resumes_at)
    ≡ both done.Began (both (both 1 1) 0x400A)
unfolding executed stopped aborted interruption_taken block_stored fate_by_progress cause_in laid_over
    reading_of
    row_number entry_at table accessible_pages text_pages unfetched spans_in unspecified_in inaccessible_in
    kind_at combined general_effect branch_effect storage_effect transaction_effect absolute_range
    has_place count_below next_text_breach next_operand_breach with_octowords add_of divide_word_of block
    fields register_fields restored psw_of with_fields loaded
begun = refl

stored : both (turns 2 (on plain storing)).told (both (bytes_at 0x9000 8 (turns 2 (on plain storing)).after)
    (let q = (turns 2 (on plain storing)).after.local.attempt in
    both (both (q.overlay 0x9007) (q.overlay 0x9008)) (both (q.lasting 0x9007) (q.footprint.stored 0x90))))
    ≡ both done.Stepped (both (0 ∷ 0 ∷ 0 ∷ 0 ∷ 0 ∷ 0 ∷ 0 ∷ 0 ∷ [])
    (both (both (Some 2) None) (both None true)))
unfolding executed stopped aborted interruption_taken block_stored fate_by_progress cause_in laid_over
    reading_of
    row_number entry_at table accessible_pages text_pages unfetched spans_in unspecified_in inaccessible_in
    kind_at combined general_effect branch_effect storage_effect transaction_effect absolute_range
    has_place count_below next_text_breach next_operand_breach with_octowords add_of divide_word_of block
    fields register_fields restored psw_of with_fields loaded
stored = refl

committed : both (turns 3 (on plain storing)).told (both (bytes_at 0x9000 8 (turns 3 (on plain
    storing)).after)
    (seen 4 (turns 4 (on plain storing)).after.local.cpu))
    ≡ both (done.Committed 3) (both (0 ∷ 0 ∷ 0 ∷ 0 ∷ 0 ∷ 0 ∷ 0 ∷ 2 ∷ []) (
      0 ∷ 0 ∷ 0 ∷ 2 ∷ [],
      0x4016,
      0,
      Halted,
    ))
unfolding executed stopped aborted interruption_taken block_stored fate_by_progress cause_in laid_over
    reading_of
    row_number entry_at table accessible_pages text_pages unfetched spans_in unspecified_in inaccessible_in
    kind_at combined general_effect branch_effect storage_effect transaction_effect absolute_range
    has_place count_below next_text_breach next_operand_breach with_octowords add_of divide_word_of block
    fields register_fields restored psw_of with_fields loaded
committed = refl

-- ---- an abort by TABORT

-- LGHI 1,1; LGHI 2,2; LGFI 5,X'9000'; TBEGIN 0(5),X'8000'; JNZ OUT; LGHI 1,11; LGHI 2,12; TABORT 257; OUT
-- SVC 0
abbrev aborting : List ℕ
aborting =
    0xA7 ∷ 0x19 ∷ 0x00 ∷ 0x01 ∷ 0xA7 ∷ 0x29 ∷ 0x00 ∷ 0x02 ∷ 0xC0 ∷ 0x51 ∷ 0x00 ∷ 0x00 ∷
    0x90 ∷ 0x00 ∷ 0xE5 ∷ 0x60 ∷ 0x50 ∷ 0x00 ∷ 0x80 ∷ 0x00 ∷ 0xA7 ∷ 0x74 ∷ 0x00 ∷ 0x08 ∷
    0xA7 ∷ 0x19 ∷ 0x00 ∷ 0x0B ∷ 0xA7 ∷ 0x29 ∷ 0x00 ∷ 0x0C ∷ 0xB2 ∷ 0xFC ∷ 0x01 ∷ 0x01 ∷
    0x0A ∷ 0x00 ∷ []

abort_is_told : both (turns 7 (on plain aborting)).told (turns 7 (on plain
    aborting)).after.local.attempt.cpu.address
    ≡ both (done.Ended (Tabort 257)) 0x4020
unfolding executed stopped aborted interruption_taken block_stored fate_by_progress cause_in laid_over
    reading_of
    row_number entry_at table accessible_pages text_pages unfetched spans_in unspecified_in inaccessible_in
    kind_at combined general_effect branch_effect storage_effect transaction_effect absolute_range
    has_place count_below next_text_breach next_operand_breach with_octowords add_of divide_word_of block
    fields register_fields restored psw_of with_fields loaded
abort_is_told = refl

left_by_abort : (let b = left 0x4020 (turns 7 (on plain aborting)) in
    both (seen 3 b.local.cpu) (both (both (block_of 0 2 b.local.pending) (block_of 24 8 b.local.pending))
    b.local.attempt.count))
    ≡ both (0 ∷ 1 ∷ 12 ∷ [], 0x4014, 3, Running) (both (both (0x9000 ∷ 1 ∷ 0 ∷ [])
    (0x9000 ∷ 0 ∷ 0 ∷ 0 ∷ 0 ∷ 0 ∷ 0 ∷ 0x40 ∷ 0x20 ∷ [])) 0)
unfolding executed stopped aborted interruption_taken block_stored fate_by_progress cause_in laid_over
    reading_of
    row_number entry_at table accessible_pages text_pages unfetched spans_in unspecified_in inaccessible_in
    kind_at combined general_effect branch_effect storage_effect transaction_effect absolute_range
    has_place count_below next_text_breach next_operand_breach with_octowords add_of divide_word_of block
    fields register_fields restored psw_of with_fields loaded
left_by_abort = refl

its_block : (let b = block_stored (left 0x4020 (turns 7 (on plain aborting))) in
    both (is_some b.local.pending) (bytes_at 0x9000 16 b))
    ≡ both false (1 ∷ 0 ∷ 0 ∷ 0 ∷ 0 ∷ 0 ∷ 0 ∷ 1 ∷ 0 ∷ 0 ∷ 0 ∷ 0 ∷ 0 ∷ 0 ∷ 1 ∷ 1 ∷ [])
unfolding executed stopped aborted interruption_taken block_stored fate_by_progress cause_in laid_over
    reading_of
    row_number entry_at table accessible_pages text_pages unfetched spans_in unspecified_in inaccessible_in
    kind_at combined general_effect branch_effect storage_effect transaction_effect absolute_range
    has_place count_below next_text_breach next_operand_breach with_octowords add_of divide_word_of block
    fields register_fields restored psw_of with_fields loaded
its_block = refl

-- ---- NTSTG at an abort

-- TBEGIN 0,X'FF00'; JNZ OUT; NTSTG 1,X'9000'; STG 2,X'9000'; TABORT 256; OUT SVC 0
abbrev lasting : List ℕ
lasting =
    0xE5 ∷ 0x60 ∷ 0x00 ∷ 0x00 ∷ 0xFF ∷ 0x00 ∷ 0xA7 ∷ 0x74 ∷ 0x00 ∷ 0x0A ∷ 0xE3 ∷ 0x10 ∷
    0x00 ∷ 0x00 ∷ 0x09 ∷ 0x25 ∷ 0xE3 ∷ 0x20 ∷ 0x00 ∷ 0x00 ∷ 0x09 ∷ 0x24 ∷ 0xB2 ∷ 0xFC ∷
    0x01 ∷ 0x00 ∷ 0x0A ∷ 0x00 ∷ []

abbrev three_and_four : Cpu
three_and_four = with_registers (0 ∷ 3 ∷ 4 ∷ []) plain

its_last_value_stays : (let e = turns 4 (on three_and_four lasting) in
    both e.told (both (both (e.after.local.attempt.overlay 0x9007) (e.after.local.attempt.lasting 0x9007))
    (both (seen 3 (left 0x401A e).local.cpu) (bytes_at 0x9000 8 (left 0x401A e)))))
    ≡ both (done.Ended (Tabort 256)) (both (both (Some 4) (Some 3))
    (both (0 ∷ 3 ∷ 4 ∷ [], 0x4006, 2, Running) (0 ∷ 0 ∷ 0 ∷ 0 ∷ 0 ∷ 0 ∷ 0 ∷ 3 ∷ [])))
unfolding executed stopped aborted interruption_taken block_stored fate_by_progress cause_in laid_over
    reading_of
    row_number entry_at table accessible_pages text_pages unfetched spans_in unspecified_in inaccessible_in
    kind_at combined general_effect branch_effect storage_effect transaction_effect absolute_range
    has_place count_below next_text_breach next_operand_breach with_octowords add_of divide_word_of block
    fields register_fields restored psw_of with_fields loaded
its_last_value_stays = refl

-- ---- a constrained transaction that breaks a constraint

-- TBEGINC 0,X'FF00'; LG 1,X'4800': an operand in a page of its own
abbrev own_page : List ℕ
own_page =
    0xE5 ∷ 0x61 ∷ 0x00 ∷ 0x00 ∷ 0xFF ∷ 0x00 ∷ 0xE3 ∷ 0x10 ∷ 0x08 ∷ 0x00 ∷ 0x04 ∷ 0x04 ∷ []

abbrev nothing_yet : Kept
nothing_yet = record { begin = 0x4000; count = 0; octowords = [] }

constrained : (let q = (turns 0 (on plain own_page)).after.local.attempt in both q.constraint q.resumes_at)
    ≡ both (Some nothing_yet) 0x4000
unfolding executed stopped aborted interruption_taken block_stored fate_by_progress cause_in laid_over
    reading_of
    row_number entry_at table accessible_pages text_pages unfetched spans_in unspecified_in inaccessible_in
    kind_at combined general_effect branch_effect storage_effect transaction_effect absolute_range
    has_place count_below next_text_breach next_operand_breach with_octowords add_of divide_word_of block
    fields register_fields restored psw_of with_fields loaded
constrained = refl

breach : (let e = turns 1 (on plain own_page) in both e.told (seen 0 (left 0x4006 e).local.cpu))
    ≡ both (done.Ended (Program (exception 0x18 6))) ([], 0x4000, 3, Interrupted 0x218)
unfolding executed stopped aborted interruption_taken block_stored fate_by_progress cause_in laid_over
    reading_of
    row_number entry_at table accessible_pages text_pages unfetched spans_in unspecified_in inaccessible_in
    kind_at combined general_effect branch_effect storage_effect transaction_effect absolute_range
    has_place count_below next_text_breach next_operand_breach with_octowords add_of divide_word_of block
    fields register_fields restored psw_of with_fields loaded
breach = refl

-- ---- an overflow, behind which the instruction has completed

-- TBEGIN 0,X'0001'; AGR 1,2: a fixed-point overflow, filtered
abbrev overflowing : List ℕ
overflowing =
    0xE5 ∷ 0x60 ∷ 0x00 ∷ 0x00 ∷ 0x00 ∷ 0x01 ∷ 0xB9 ∷ 0x08 ∷ 0x00 ∷ 0x12 ∷ []

abbrev full : Cpu
full = record (with_registers (0 ∷ 0x7fffffffffffffff ∷ 1 ∷ []) plain) { mask = 8 }

overflow_has_completed : (let e = turns 1 (on full overflowing) in
    both e.told (both e.after.local.attempt.count (seen 3 (left 0x4006 e).local.cpu)))
    ≡ both (done.Ended (Filtered (exception 8 4)))
    (both 2 (0 ∷ 0x8000000000000000 ∷ 1 ∷ [], 0x4006, 3, Running))
unfolding executed stopped aborted interruption_taken block_stored fate_by_progress cause_in laid_over
    reading_of
    row_number entry_at table accessible_pages text_pages unfetched spans_in unspecified_in inaccessible_in
    kind_at combined general_effect branch_effect storage_effect transaction_effect absolute_range
    has_place count_below next_text_breach next_operand_breach with_octowords add_of divide_word_of block
    fields register_fields restored psw_of with_fields loaded
overflow_has_completed = refl
