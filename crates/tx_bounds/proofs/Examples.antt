-- Worked runs of the machine that keeps, of several events each: programs at 4000 in hexadecimal, in text
-- page 4.
-- The expected values are those of an independent model of the machine.
use Rattle.std.proofs.Common.{◌≡◌, refl, ap, sym, ◌∙◌, ℕ, ◌+◌, ◌-◌, Bool, true, false, List, [], ◌∷◌}
use Rattle.std.proofs.Common.{length, get_or, Option, Some, None}
use Rattle.std.specs.Prelude.{◌&&◌, nat_lt, nat_le, if◌then◌else◌}
use Rattle.std.specs.FinSet.{FinSet, items}
use Rattle.std.specs.Ordering.{nat_cmp}
use Rattle.bit_set.specs.Counts.{count_below}
use Rattle.z_arith.specs.Sum.{add_of}
use Rattle.z_arith.specs.Quotient.{divide_word_of}
use Rattle.z_regs.specs.Cpu.{Cpu, started}
use Rattle.z_regs.specs.Psw.{psw_of, with_fields, loaded}
use Rattle.z_regs.specs.Absolute.{absolute_range}
use Rattle.z_regs.specs.declared.waiting.Waiting.{Waiting}
use Rattle.z_instr.specs.Table.{entry_at, table}
use Rattle.z_instr.specs.Computing.{reading_of, row_number}
use Rattle.z_instr.specs.Access.{accessible_pages, text_pages, unfetched}
use Rattle.z_instr.specs.Operands.{spans_in, unspecified_in, inaccessible_in}
use Rattle.z_instr.specs.Table.{kind_at}
use Rattle.z_effect.specs.Operations.{combined}
use Rattle.z_effect.specs.GeneralEffect.{general_effect}
use Rattle.z_effect.specs.BranchEffect.{branch_effect}
use Rattle.z_effect.specs.StorageEffect.{storage_effect}
use Rattle.z_effect.specs.TransactionEffect.{transaction_effect}
use Rattle.tx_control.specs.declared.causes.Why.TheVariants.{External, FetchConflict, StoreConflict, Tabort}
use Rattle.tx_constraint.specs.Kept.{next_text_breach, next_operand_breach}
use Rattle.tx_constraint.specs.Octowords.{with_octowords}
use Rattle.tx_footprint.specs.Places.{has_place}
use Rattle.tx_abort.specs.Block.{block, fields, register_fields}
use Rattle.tx_abort.specs.Registers.{restored}
use Rattle.tx_ladder.specs.Parameters.{Parameters, usual, parameters}
use Rattle.tx_ladder.specs.Rungs.{fresh}
use Rattle.tx_journal.specs.declared.entries.Entry.{Entry}
use Rattle.tx_journal.specs.declared.entries.Entry.TheVariants.{Step, Commit, Abort, Tdb, Interrupt}
use Rattle.tx_journal.specs.declared.events.Event.{Event}
use Rattle.tx_journal.specs.declared.events.Event.TheVariants as event
use Rattle.line_table.specs.Holders.{against}
use Rattle.tx_keeping.specs.Replies.{reply}
use Rattle.tx_serial.specs.Flat.{Storage, Pending, laid_over}
use Rattle.tx_serial.specs.Fate.{cause_in}
use Rattle.tx_serial.specs.History.{start_of}
use Rattle.tx_progress.specs.Trial.{fate_by_progress}
use Rattle.tx_progress.specs.Local.{settled, aborted, block_stored, interruption_taken}
use Rattle.tx_progress.specs.Doing.{executed, stopped}
use Rattle.tx_meaning.specs.declared.outcome.Outcome.{Outcome}
use Rattle.tx_meaning.specs.declared.outcome.Outcome.TheVariants as outcome
use Rattle.tx_meaning.specs.Limits.{Setting}
use Rattle.tx_meaning.specs.Needs.{needs_of}
use Rattle.tx_meaning.specs.State.{State, beginning}
use Rattle.tx_meaning.specs.Changes.{with_event, counting_turn, waiting_turn, granting, aborting}
use Rattle.tx_meaning.specs.Turn.{is_tick}
use Rattle.tx_keeping.specs.Kept.{Kept, text_of, with_state}
use Rattle.tx_keeping.specs.Moves.{k_aborting}
use Rattle.tx_keeping.specs.Asking.{k_reply, k_ask_one, k_ask_each, k_granting, k_get_line, k_get_each}
use Rattle.tx_keeping.specs.Turn.{KTurned, k_turned, k_attempting, k_storing_block, k_taking_interruption}
use Rattle.tx_keeping.specs.Turn.{k_external, k_idle, k_turn, k_counted_turn, k_happen, k_ends_by}
use Rattle.tx_keeping.specs.Turn.{k_executing}
use Rattle.tx_keeping.specs.Turn.{k_acting, k_by_rules, k_turn_where}
use Rattle.tx_keeping.specs.Keeping.{keeping_from}

-- ---- the machine with text pages that are given

abbrev acting_by : List ℕ → Setting → ℕ → Kept → Option Pending → Option Waiting → KTurned
acting_by text m i k (Some b) w = k_storing_block m i b k
acting_by text m i k None (Some w) = k_taking_interruption m i w k
acting_by text m i k None None = k_attempting m i k (fate_by_progress text k.storage (k.locals i).attempt)

abbrev by_rules : List ℕ → Bool → Bool → Setting → ℕ → Kept → KTurned
by_rules text true waits m i k = k_external i k
by_rules text false true m i k = k_turned (with_state (waiting_turn i k.state) k) outcome.Delayed
by_rules text false false m i k = acting_by text m i k (k.locals i).pending (k.locals i).waiting

abbrev counted_by : List ℕ → Setting → ℕ → Kept → KTurned
counted_by text m i k =
    let n = k.state.numbers i in
    by_rules text (is_tick m.limits n.turns) (nat_lt 0 n.delay) m i k

abbrev turn_by : List ℕ → Option Outcome → Setting → ℕ → Kept → KTurned
turn_by text (Some o) m i k = k_turned k o
turn_by text None m i k = counted_by text m i (with_state (with_event (event.Turn i) (counting_turn i
    k.state)) k)

abbrev event_by : List ℕ → Setting → Event → Kept → KTurned
event_by text m (event.Turn i) k = turn_by text (k_idle m k i) m i k
event_by text m (event.External i) k = k_external i (with_state (with_event (event.External i) k.state) k)

unfoldable events_by : List ℕ → Setting → List Event → Kept → Kept
events_by text m [] k = k
events_by text m (e ∷ rest) k = events_by text m rest (event_by text m e k).kept

acting_is : (m : Setting) (i : ℕ) (k : Kept) (b : Option Pending) (w : Option Waiting)
    → acting_by (text_of m) m i k b w ≡ k_acting m i k b w
acting_is m i k (Some b) w = refl
acting_is m i k None (Some w) = refl
acting_is m i k None None = refl

rules_is : (m : Setting) (tick waits : Bool) (i : ℕ) (k : Kept)
    → by_rules (text_of m) tick waits m i k ≡ k_by_rules tick waits m i k
rules_is m true waits i k = refl
rules_is m false true i k = refl
rules_is m false false i k = acting_is m i k (k.locals i).pending (k.locals i).waiting

turn_is : (m : Setting) (o : Option Outcome) (i : ℕ) (k : Kept)
    → turn_by (text_of m) o m i k ≡ k_turn_where o m i k
unfolding k_counted_turn
turn_is m (Some o) i k = refl
turn_is m None i k =
    let t = with_state (with_event (event.Turn i) (counting_turn i k.state)) k in
    let n = t.state.numbers i in
    rules_is m (is_tick m.limits n.turns) (nat_lt 0 n.delay) i t

event_is : (m : Setting) (e : Event) (k : Kept) → event_by (text_of m) m e k ≡ k_happen m e k
unfolding k_happen k_turn
event_is m (event.Turn i) k = turn_is m (k_idle m k i) i k
event_is m (event.External i) k = refl

events_are : (m : Setting) (es : List Event) (k : Kept) → events_by (text_of m) m es k ≡ keeping_from m es k
unfolding events_by keeping_from
events_are m [] k = refl
events_are m (e ∷ rest) k =
    ap (λ t. events_by (text_of m) m rest t.kept) (event_is m e k)
    ∙ events_are m rest (k_happen m e k).kept

-- ---- programs

abbrev placed : ℕ → List ℕ → Storage → Storage
placed first bytes storage a =
    if nat_le first a && nat_lt a (first + length bytes) then get_or bytes (a - first) 0 else storage a

abbrev cpu_in : List Cpu → ℕ → Cpu
cpu_in cpus i = get_or cpus i (started 0)

-- so many CPUs, with these numbers of the ladder
abbrev setting : FinSet nat_cmp → List Cpu → Parameters → Setting
setting guard cpus parms = record {
  image = record {
    storage = [];
    guard = guard;
    starts = [];
    cpus = cpus;
    shows = [];
    schedule = [];
    scheduled = false;
    parms = parms;
  };
  limits = record { turns = 100; tick = 0; externals = 10 };
}

abbrev at_start : List Cpu → Parameters → Storage → Kept
at_start cpus parms storage = record {
  state = beginning;
  storage = storage;
  locals = λ i. settled (cpu_in cpus i);
  standings = λ i. fresh parms;
}

pages_of : (guard : FinSet nat_cmp) (cpus : List Cpu) (parms : Parameters)
    → text_of (setting guard cpus parms) ≡ items guard
unfolding start_of
pages_of guard cpus parms = refl

-- ---- what is seen

abbrev counts_of : State → ℕ → List ℕ
counts_of s i = (s.numbers i).turns ∷ (s.numbers i).asked ∷ (s.numbers i).rejected ∷ []

-- the history, the recorded events, the queue, and of CPUs 0 and 1 the turns, questions and rejects
abbrev seen : Kept → List Entry × List Event × List ℕ × List (List ℕ)
seen k = (
  k.state.history,
  k.state.events,
  k.state.queue,
  counts_of k.state 0 ∷ counts_of k.state 1 ∷ [],
)

abbrev turns : List ℕ → List Event
turns [] = []
turns (i ∷ rest) = event.Turn i ∷ turns rest

-- on any guard of this page
abbrev Shows : List Cpu → Parameters → Storage → List Event
    → List Entry × List Event × List ℕ × List (List ℕ) → Type 0
Shows cpus parms storage es what = (guard : FinSet nat_cmp) → items guard ≡ 4 ∷ []
    → seen (keeping_from (setting guard cpus parms) es (at_start cpus parms storage)) ≡ what

abbrev ShowsByText : List Cpu → Parameters → Storage → List Event
    → List Entry × List Event × List ℕ × List (List ℕ) → Type 0
ShowsByText cpus parms storage es what = (guard : FinSet nat_cmp)
    → seen (events_by (4 ∷ []) (setting guard cpus parms) es (at_start cpus parms storage)) ≡ what

shown : (cpus : List Cpu) (parms : Parameters) (storage : Storage) (es : List Event)
    (what : List Entry × List Event × List ℕ × List (List ℕ)) → ShowsByText cpus parms storage es what
    → Shows cpus parms storage es what
shown cpus parms storage es what by_text guard page =
    let m = setting guard cpus parms in
    let k = at_start cpus parms storage in
    ap seen (sym (events_are m es k))
    ∙ ap (λ text. seen (events_by text m es k)) (pages_of guard cpus parms ∙ page)
    ∙ by_text guard

abbrev program : List ℕ → Storage
program bytes = placed 0x4000 bytes (λ a. 0)

abbrev both_at : ℕ → ℕ → List Cpu
both_at first second = started first ∷ started second ∷ []

-- rejects up to this number, and the stop queue from this conflict abort on
abbrev with_reject : ℕ → Parameters
with_reject n = parameters n 64 4 64 8 128

abbrev with_stop : ℕ → Parameters
with_stop n = parameters 0 64 4 64 n 128

-- LGHI 1,5; LGHI 2,7; AGR 1,2; SVC 0
abbrev adding : List ℕ
adding =
    0xA7 ∷ 0x19 ∷ 0x00 ∷ 0x05 ∷ 0xA7 ∷ 0x29 ∷ 0x00 ∷ 0x07 ∷ 0xB9 ∷ 0x08 ∷ 0x00 ∷ 0x12 ∷ 0x0A ∷ 0x00 ∷ []

-- four instructions, and a turn behind the end
four_steps : ShowsByText (started 0x4000 ∷ []) (usual) (program adding)
    (turns (0 ∷ 0 ∷ 0 ∷ 0 ∷ 0 ∷ [])) (
      Step 0 ∷ Step 0 ∷ Step 0 ∷ Step 0 ∷ [],
      turns (0 ∷ 0 ∷ 0 ∷ 0 ∷ []),
      [],
      (4 ∷ 0 ∷ 0 ∷ []) ∷ (0 ∷ 0 ∷ 0 ∷ []) ∷ [],
    )
unfolding events_by k_idle k_external k_executing k_ends_by k_aborting k_get_line k_get_each k_ask_each
    k_ask_one
    k_reply k_granting reply against granting needs_of aborting fate_by_progress executed stopped
    aborted block_stored interruption_taken cause_in laid_over reading_of row_number entry_at table
    accessible_pages text_pages unfetched spans_in unspecified_in inaccessible_in kind_at combined
    general_effect branch_effect storage_effect transaction_effect absolute_range has_place count_below
    with_octowords add_of divide_word_of block fields register_fields restored psw_of with_fields loaded
    next_text_breach next_operand_breach
four_steps guard = refl

-- TBEGIN 0,X'FF00'; STG 1,X'9000'; TEND; SVC 0, and at 4012 the same with LG 2,X'9000'
abbrev racing : List ℕ
racing =
    0xE5 ∷ 0x60 ∷ 0x00 ∷ 0x00 ∷ 0xFF ∷ 0x00 ∷ 0xE3 ∷ 0x10 ∷ 0x00 ∷ 0x00 ∷ 0x09 ∷ 0x24 ∷ 0xB2 ∷ 0xF8 ∷ 0x00 ∷
    0x00 ∷
    0x0A ∷ 0x00 ∷ 0xE5 ∷ 0x60 ∷ 0x00 ∷ 0x00 ∷ 0xFF ∷ 0x00 ∷ 0xE3 ∷ 0x20 ∷ 0x00 ∷ 0x00 ∷ 0x09 ∷ 0x04 ∷ 0xB2 ∷
    0xF8 ∷
    0x00 ∷ 0x00 ∷ 0x0A ∷ 0x00 ∷ []

-- one reject, and then an abort
rejected_once : ShowsByText (both_at 0x4000 0x4012) (with_reject 1) (program racing)
    (turns (0 ∷ 0 ∷ 1 ∷ 1 ∷ 1 ∷ 0 ∷ 1 ∷ [])) (
      Abort 0 2 (StoreConflict 144) ∷ Commit 1 3 ∷ [],
      turns (0 ∷ 0 ∷ 1 ∷ 1 ∷ 1 ∷ 0 ∷ 1 ∷ []),
      [],
      (3 ∷ 1 ∷ 1 ∷ []) ∷ (4 ∷ 2 ∷ 1 ∷ []) ∷ [],
    )
unfolding events_by k_idle k_external k_executing k_ends_by k_aborting k_get_line k_get_each k_ask_each
    k_ask_one
    k_reply k_granting reply against granting needs_of aborting fate_by_progress executed stopped
    aborted block_stored interruption_taken cause_in laid_over reading_of row_number entry_at table
    accessible_pages text_pages unfetched spans_in unspecified_in inaccessible_in kind_at combined
    general_effect branch_effect storage_effect transaction_effect absolute_range has_place count_below
    with_octowords add_of divide_word_of block fields register_fields restored psw_of with_fields loaded
    next_text_breach next_operand_breach
rejected_once guard = refl

-- no reject
rejected_never : ShowsByText (both_at 0x4000 0x4012) (with_reject 0) (program racing)
    (turns (0 ∷ 0 ∷ 1 ∷ 1 ∷ 1 ∷ 0 ∷ 1 ∷ [])) (
      Abort 0 2 (StoreConflict 144) ∷ Commit 1 3 ∷ Step 0 ∷ Step 1 ∷ [],
      turns (0 ∷ 0 ∷ 1 ∷ 1 ∷ 1 ∷ 0 ∷ 1 ∷ []),
      [],
      (3 ∷ 1 ∷ 0 ∷ []) ∷ (4 ∷ 1 ∷ 0 ∷ []) ∷ [],
    )
unfolding events_by k_idle k_external k_executing k_ends_by k_aborting k_get_line k_get_each k_ask_each
    k_ask_one
    k_reply k_granting reply against granting needs_of aborting fate_by_progress executed stopped
    aborted block_stored interruption_taken cause_in laid_over reading_of row_number entry_at table
    accessible_pages text_pages unfetched spans_in unspecified_in inaccessible_in kind_at combined
    general_effect branch_effect storage_effect transaction_effect absolute_range has_place count_below
    with_octowords add_of divide_word_of block fields register_fields restored psw_of with_fields loaded
    next_text_breach next_operand_breach
rejected_never guard = refl

-- TBEGINC 0,X'FF00'; LG 1,X'9000'; TEND; SVC 0, and at 4012 STG 2,X'9000'; SVC 0
abbrev stopping : List ℕ
stopping =
    0xE5 ∷ 0x61 ∷ 0x00 ∷ 0x00 ∷ 0xFF ∷ 0x00 ∷ 0xE3 ∷ 0x10 ∷ 0x00 ∷ 0x00 ∷ 0x09 ∷ 0x04 ∷ 0xB2 ∷ 0xF8 ∷ 0x00 ∷
    0x00 ∷
    0x0A ∷ 0x00 ∷ 0xE3 ∷ 0x20 ∷ 0x00 ∷ 0x00 ∷ 0x09 ∷ 0x24 ∷ 0x0A ∷ 0x00 ∷ []

-- the first conflict abort stops the other CPU, whose turn is idle, until the transaction is committed
stopped_once : ShowsByText (both_at 0x4000 0x4012) (with_stop 1) (program stopping)
    (turns (0 ∷ 0 ∷ 1 ∷ 1 ∷ 0 ∷ 0 ∷ 0 ∷ 1 ∷ [])) (
      Abort 0 2 (FetchConflict 144) ∷ Step 1 ∷ Commit 0 3 ∷ Step 1 ∷ [],
      turns (0 ∷ 0 ∷ 1 ∷ 0 ∷ 0 ∷ 0 ∷ 1 ∷ []),
      [],
      (5 ∷ 1 ∷ 0 ∷ []) ∷ (2 ∷ 1 ∷ 0 ∷ []) ∷ [],
    )
unfolding events_by k_idle k_external k_executing k_ends_by k_aborting k_get_line k_get_each k_ask_each
    k_ask_one
    k_reply k_granting reply against granting needs_of aborting fate_by_progress executed stopped
    aborted block_stored interruption_taken cause_in laid_over reading_of row_number entry_at table
    accessible_pages text_pages unfetched spans_in unspecified_in inaccessible_in kind_at combined
    general_effect branch_effect storage_effect transaction_effect absolute_range has_place count_below
    with_octowords add_of divide_word_of block fields register_fields restored psw_of with_fields loaded
    next_text_breach next_operand_breach
stopped_once guard = refl

-- LGFI 5,X'9000'; TBEGIN 0(5),X'FF00'; TABORT 257; SVC 0
abbrev telling : List ℕ
telling =
    0xC0 ∷ 0x51 ∷ 0x00 ∷ 0x00 ∷ 0x90 ∷ 0x00 ∷ 0xE5 ∷ 0x60 ∷ 0x50 ∷ 0x00 ∷ 0xFF ∷ 0x00 ∷ 0xB2 ∷ 0xFC ∷ 0x01 ∷
    0x01 ∷
    0x0A ∷ 0x00 ∷ []

-- the pending block is stored in a turn of its own
block_stored_next : ShowsByText (started 0x4000 ∷ []) (usual) (program telling)
    (turns (0 ∷ 0 ∷ 0 ∷ 0 ∷ [])) (
      Step 0 ∷ Abort 0 1 (Tabort 257) ∷ Tdb 0 ∷ [],
      turns (0 ∷ 0 ∷ 0 ∷ 0 ∷ []),
      [],
      (4 ∷ 0 ∷ 0 ∷ []) ∷ (0 ∷ 0 ∷ 0 ∷ []) ∷ [],
    )
unfolding events_by k_idle k_external k_executing k_ends_by k_aborting k_get_line k_get_each k_ask_each
    k_ask_one
    k_reply k_granting reply against granting needs_of aborting fate_by_progress executed stopped
    aborted block_stored interruption_taken cause_in laid_over reading_of row_number entry_at table
    accessible_pages text_pages unfetched spans_in unspecified_in inaccessible_in kind_at combined
    general_effect branch_effect storage_effect transaction_effect absolute_range has_place count_below
    with_octowords add_of divide_word_of block fields register_fields restored psw_of with_fields loaded
    next_text_breach next_operand_breach
block_stored_next guard = refl

-- an external interruption aborts the attempt, and the line is free of conflicts then
interrupted_once : ShowsByText (both_at 0x4000 0x4012) usual (program stopping)
    (event.Turn 0 ∷ event.Turn 0 ∷ event.External 0 ∷ event.Turn 1 ∷ []) (
      Abort 0 2 External ∷ Step 1 ∷ [],
      event.Turn 0 ∷ event.Turn 0 ∷ event.External 0 ∷ event.Turn 1 ∷ [],
      [],
      (2 ∷ 0 ∷ 0 ∷ []) ∷ (1 ∷ 1 ∷ 0 ∷ []) ∷ [],
    )
unfolding events_by k_idle k_external k_executing k_ends_by k_aborting k_get_line k_get_each k_ask_each
    k_ask_one
    k_reply k_granting reply against granting needs_of aborting fate_by_progress executed stopped
    aborted block_stored interruption_taken cause_in laid_over reading_of row_number entry_at table
    accessible_pages text_pages unfetched spans_in unspecified_in inaccessible_in kind_at combined
    general_effect branch_effect storage_effect transaction_effect absolute_range has_place count_below
    with_octowords add_of divide_word_of block fields register_fields restored psw_of with_fields loaded
    next_text_breach next_operand_breach
interrupted_once guard = refl

-- DR 2,4 on a CPU with a prefix, and at 4010 SVC 0
abbrev dividing : Storage
dividing =
    placed 0xA1D0 (0 ∷ 0 ∷ 0 ∷ 1 ∷ 0x80 ∷ 0 ∷ 0 ∷ 0 ∷ 0 ∷ 0 ∷ 0 ∷ 0 ∷ 0 ∷ 0 ∷ 0x40 ∷ 0x10 ∷ [])
    (placed 0x4010 (0x0A ∷ 0x00 ∷ []) (program (0x1D ∷ 0x24 ∷ [])))

-- the interruption is taken in a turn of its own
interruption_taken_next : ShowsByText (record (started 0x4000) { prefix = Some 0xa000 } ∷ []) usual dividing
    (turns (0 ∷ 0 ∷ 0 ∷ []))
    (Step 0 ∷ Interrupt 0 ∷ Step 0 ∷ [], turns (0 ∷ 0 ∷ 0 ∷ []), [], (3 ∷ 0 ∷ 0 ∷ []) ∷ (0 ∷ 0 ∷ 0 ∷ []) ∷ [])
unfolding events_by k_idle k_external k_executing k_ends_by k_aborting k_get_line k_get_each k_ask_each
    k_ask_one
    k_reply k_granting reply against granting needs_of aborting fate_by_progress executed stopped
    aborted block_stored interruption_taken cause_in laid_over reading_of row_number entry_at table
    accessible_pages text_pages unfetched spans_in unspecified_in inaccessible_in kind_at combined
    general_effect branch_effect storage_effect transaction_effect absolute_range has_place count_below
    with_octowords add_of divide_word_of block fields register_fields restored psw_of with_fields loaded
    next_text_breach next_operand_breach
interruption_taken_next guard = refl
