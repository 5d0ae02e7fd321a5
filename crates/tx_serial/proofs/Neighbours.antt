-- Worked values that tell the definitions from their neighbours: the place that a block tells of, a line that
-- is fetched and stored, and the greatest depth. The expected values are those of an independent model.
use Rattle.std.proofs.Common.{◌≡◌, refl, ℕ, true, false, List, [], ◌∷◌, ◌++◌, None, Some}
use Rattle.std.specs.Prelude.{replicate}
use Rattle.store_cache.specs.Counts.{count_below}
use Rattle.z_arith.specs.Sum.{add_of}
use Rattle.z_arith.specs.Quotient.{divide_word_of}
use Rattle.z_regs.specs.Cpu.{Cpu}
use Rattle.z_regs.specs.Psw.{psw_of, with_fields, loaded}
use Rattle.z_regs.specs.Absolute.{absolute_range}
use Rattle.z_instr.specs.Table.{entry_at, table}
use Rattle.z_instr.specs.Computing.{reading_of, row_number}
use Rattle.z_instr.specs.Access.{accessible_pages, text_pages, unfetched}
use Rattle.z_instr.specs.Operands.{spans_in, unspecified_in, inaccessible_in}
use Rattle.z_instr.specs.Table.{kind_at}
use Rattle.z_effect.specs.Operations.{combined}
use Rattle.z_effect.specs.GeneralEffect.{general_effect}
use Rattle.z_effect.specs.BranchEffect.{branch_effect}
use Rattle.z_effect.specs.StorageEffect.{storage_effect}
use Rattle.z_effect.specs.TransactionEffect.{transaction_effect}
use Rattle.tx_control.specs.declared.begins.Begin.{Begin}
use Rattle.tx_control.specs.declared.causes.Why.TheVariants.{FetchConflict, StoreConflict, Filtered, Depth}
use Rattle.tx_constraint.specs.Octowords.{with_octowords}
use Rattle.tx_constraint.specs.Constraints.{text_breach, operand_breach}
use Rattle.tx_footprint.specs.Places.{has_place}
use Rattle.tx_footprint.specs.Touched.{Sets, fit_of}
use Rattle.tx_abort.specs.Block.{block, fields, register_fields}
use Rattle.tx_abort.specs.Registers.{restored}
use Rattle.tx_journal.specs.declared.entries.Entry.TheVariants.{Abort}
use Rattle.tx_serial.specs.Flat.{laid_over}
use Rattle.tx_serial.specs.Attempt.{Run, at_rest}
use Rattle.tx_serial.specs.Fate.{fate, cause_in, overflow_in, overflow_of}
use Rattle.tx_serial.specs.Run.{run, more}
use Rattle.tx_serial.specs.Ending.{ending, fits, is_cause}
use Rattle.tx_serial.specs.Remains.{remains}
use Rattle.tx_serial.specs.Apply.{apply}
use Rattle.tx_serial.specs.History.{replay_from}
use Rattle.tx_serial.proofs.Examples.{placed, on, plain, full, after, exception, pending_at, fitting}

-- TBEGIN 0(5),X'0001'; AGR 1,2: a fixed-point overflow, filtered, with a block
abbrev overflow_with_block : List ℕ
overflow_with_block =
    0xE5 ∷ 0x60 ∷ 0x50 ∷ 0x00 ∷ 0x00 ∷ 0x01 ∷
    0xB9 ∷ 0x08 ∷ 0x00 ∷ 0x12 ∷ []

abbrev with_block : Cpu
with_block = record full { general = 0 ∷ 0x7fffffffffffffff ∷ 1 ∷ 0 ∷ 0 ∷ 0x9000 ∷ replicate 10 0 }

-- the block tells the place of the instruction that overflowed, and not of the one behind it
overflow_tells_its_own_place : pending_at 24 8
    (after (on with_block overflow_with_block) (Abort 0 2 (Filtered (exception 8 4)) ∷ []))
    ≡ 0x9000 ∷ 0 ∷ 0 ∷ 0 ∷ 0 ∷ 0 ∷ 0 ∷ 0x40 ∷ 0x06 ∷ []
unfolding apply replay_from run more fate cause_in ending fits remains laid_over reading_of row_number
    entry_at table accessible_pages text_pages unfetched spans_in unspecified_in inaccessible_in kind_at
    combined general_effect branch_effect storage_effect transaction_effect absolute_range
    has_place count_below text_breach operand_breach with_octowords add_of divide_word_of block fields
    register_fields restored psw_of with_fields loaded
overflow_tells_its_own_place = refl

-- TBEGIN 0,X'FF00'; LG 1,X'9000'; STG 1,X'9000'
abbrev fetched_and_stored : List ℕ
fetched_and_stored =
    0xE5 ∷ 0x60 ∷ 0x00 ∷ 0x00 ∷ 0xFF ∷ 0x00 ∷
    0xE3 ∷ 0x10 ∷ 0x00 ∷ 0x00 ∷ 0x09 ∷ 0x04 ∷
    0xE3 ∷ 0x10 ∷ 0x00 ∷ 0x00 ∷ 0x09 ∷ 0x24 ∷ []

-- a line that is fetched and then stored is a stored one
no_fetch_conflict_there : fitting (on plain fetched_and_stored) (Abort 0 3 (FetchConflict 0x90) ∷ []) ≡ false
unfolding apply replay_from run more fate cause_in ending fits remains laid_over reading_of row_number
    entry_at table accessible_pages text_pages unfetched spans_in unspecified_in inaccessible_in kind_at
    combined general_effect branch_effect storage_effect transaction_effect absolute_range
    has_place count_below text_breach operand_breach with_octowords add_of divide_word_of block fields
    register_fields restored psw_of with_fields loaded
no_fetch_conflict_there = refl

a_store_conflict_there : fitting (on plain fetched_and_stored) (Abort 0 3 (StoreConflict 0x90) ∷ []) ≡ true
unfolding apply replay_from run more fate cause_in ending fits remains laid_over reading_of row_number
    entry_at table accessible_pages text_pages unfetched spans_in unspecified_in inaccessible_in kind_at
    combined general_effect branch_effect storage_effect transaction_effect absolute_range
    has_place count_below text_breach operand_breach with_octowords add_of divide_word_of block fields
    register_fields restored psw_of with_fields loaded
a_store_conflict_there = refl

-- before the store it is a fetched one
a_fetch_conflict_before : fitting (on plain fetched_and_stored) (Abort 0 2 (FetchConflict 0x90) ∷ []) ≡ true
unfolding apply replay_from run more fate cause_in ending fits remains laid_over reading_of row_number
    entry_at table accessible_pages text_pages unfetched spans_in unspecified_in inaccessible_in kind_at
    combined general_effect branch_effect storage_effect transaction_effect absolute_range
    has_place count_below text_breach operand_breach with_octowords add_of divide_word_of block fields
    register_fields restored psw_of with_fields loaded
a_fetch_conflict_before = refl

-- so many open begins, and TBEGIN 0,0 next
abbrev plain_begin : Begin
plain_begin = record { mask = 0; a = true; f = true; pifc = 0; block = None; constrained = false }

abbrev inside : ℕ → Run
inside depth =
    record (at_rest (placed 0x4000 (0xE5 ∷ 0x60 ∷ 0 ∷ 0 ∷ 0 ∷ 0 ∷ []) (λ a. 0)) plain) {
      nest = replicate depth plain_begin;
    }

-- a begin inside fifteen others goes, and inside sixteen ends the attempt
fifteen_are_not_too_many : is_cause (ending (4 ∷ []) (inside 15)) Depth ≡ false
unfolding apply replay_from run more fate cause_in ending fits remains laid_over reading_of row_number
    entry_at table accessible_pages text_pages unfetched spans_in unspecified_in inaccessible_in kind_at
    combined general_effect branch_effect storage_effect transaction_effect absolute_range
    has_place count_below text_breach operand_breach with_octowords add_of divide_word_of block fields
    register_fields restored psw_of with_fields loaded
fifteen_are_not_too_many = refl

sixteen_are_too_many : is_cause (ending (4 ∷ []) (inside 16)) Depth ≡ true
unfolding apply replay_from run more fate cause_in ending fits remains laid_over reading_of row_number
    entry_at table accessible_pages text_pages unfetched spans_in unspecified_in inaccessible_in kind_at
    combined general_effect branch_effect storage_effect transaction_effect absolute_range
    has_place count_below text_breach operand_breach with_octowords add_of divide_word_of block fields
    register_fields restored psw_of with_fields loaded
sixteen_are_too_many = refl

-- outside transactions nothing overflows, whatever is touched
nothing_overflows_outside : (sets : Sets) → overflow_in [] sets ≡ None
nothing_overflows_outside sets = refl

inside_the_limits_decide : (sets : Sets) → overflow_in (plain_begin ∷ []) sets ≡ overflow_of (fit_of sets)
inside_the_limits_decide sets = refl
