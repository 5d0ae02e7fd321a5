-- One turn of the machine that keeps, and an external interruption.
use Rattle.std.specs.Prelude.{ℕ, Bool, true, false, ◌&&◌, nat_lt, List, Option, Some, None}
use Rattle.z_regs.specs.declared.ranges.Range.{Range}
use Rattle.z_regs.specs.declared.waiting.Waiting.{Waiting}
use Rattle.z_instr.specs.declared.instr.Instr.{Instr}
use Rattle.tx_control.specs.declared.causes.Why.{Why}
use Rattle.tx_control.specs.declared.causes.Why.TheVariants as why
use Rattle.tx_ladder.specs.Rungs.{is_starved}
use Rattle.tx_journal.specs.declared.events.Event.{Event}
use Rattle.tx_journal.specs.declared.events.Event.TheVariants as event
use Rattle.tx_serial.specs.Flat.{Pending}
use Rattle.tx_serial.specs.Fate.{Fate, Goes, Ends, Stops}
use Rattle.tx_progress.specs.Trial.{fate_by_progress}
use Rattle.tx_progress.specs.Local.{Beside}
use Rattle.tx_progress.specs.Doing.{Executed, executed, stopped}
use Rattle.tx_progress.specs.declared.done.Done.{Done}
use Rattle.tx_progress.specs.declared.done.Done.TheVariants as done
use Rattle.tx_meaning.specs.declared.outcome.Outcome.{Outcome}
use Rattle.tx_meaning.specs.declared.outcome.Outcome.TheVariants as outcome
use Rattle.tx_meaning.specs.Limits.{Setting}
use Rattle.tx_meaning.specs.declared.asking.Need.{Need}
use Rattle.tx_meaning.specs.Needs.{operand_needs, block_needs, interruption_needs}
use Rattle.tx_meaning.specs.State.{is_live}
use Rattle.tx_meaning.specs.Changes.{with_event, counting_turn, waiting_turn, delaying}
use Rattle.tx_meaning.specs.declared.asking.Reject.{Reject}
use Rattle.tx_meaning.specs.Idle.{idle_by}
use Rattle.tx_meaning.specs.Turn.{outcome_of_abort, is_tick, to_tail}
use Rattle.tx_keeping.specs.Kept.{Kept, text_of, kept_finished, with_state, with_beside, beside}
use Rattle.tx_keeping.specs.Moves.{k_aborting, k_starting, k_continuing, k_committing, k_stepping, k_storing}
use Rattle.tx_keeping.specs.Moves.{k_taking}
use Rattle.tx_keeping.specs.Asking.{k_get_lines}

-- what is kept after an event, what came of it, and the reject in it, where there was one
pub record KTurned : Type 0 where
  pub kept : Kept
  pub outcome : Outcome
  pub reject : Option Reject

abbrev pub k_turned : Kept → Outcome → KTurned
k_turned k o = record { kept = k; outcome = o; reject = None }

-- ---- the end of a CPU's own attempt

-- an address is that of the instruction that is told of
unfoldable pub k_ends_by : ℕ → Why → ℕ → Kept → KTurned
k_ends_by i w at k = k_turned (k_aborting i w at k) (outcome_of_abort w)

abbrev pub next_address : Kept → ℕ → ℕ
next_address k i = (k.locals i).attempt.cpu.address

-- ---- lines first

abbrev pub k_refused_turn : Bool → ℕ → Reject → Kept → KTurned
k_refused_turn false i r k = record { kept = k; outcome = outcome.Rejected r.by r.line; reject = Some r }
k_refused_turn true i r k = record (k_ends_by i why.Starved (next_address k i) k) { reject = Some r }

abbrev pub k_once_given : ℕ → Option Reject → Kept → (Kept → KTurned) → KTurned
k_once_given i None k next = next k
k_once_given i (Some r) k next = k_refused_turn (is_live k.state i && is_starved (k.standings i)) i r k

abbrev pub k_with_lines : Setting → ℕ → List Need → Kept → (Kept → KTurned) → KTurned
k_with_lines m i needs k next =
    let asked = k_get_lines m i needs k in
    k_once_given i asked.reject asked.kept next

-- ---- an instruction that goes, when its lines are there

-- inside a transaction: it goes on, is committed, or has to be aborted
abbrev pub k_inside : ℕ → ℕ → Beside → Kept → Done → KTurned
k_inside i at after k done.Stepped = k_turned (k_continuing i after k) outcome.Executed
k_inside i at after k (done.Committed n) = k_turned (k_committing i n after k) outcome.Executed
k_inside i at after k (done.Ended w) = k_ends_by i w at (with_beside i after k)
k_inside i at after k done.Began = k_turned k outcome.Executed
k_inside i at after k (done.Paused turns) = k_turned k outcome.Executed
k_inside i at after k (done.Interrupted code) = k_turned k outcome.Executed

-- outside transactions: one is begun, or an instruction is done, behind which the program may wait
abbrev pub k_outside : ℕ → Beside → Kept → Done → KTurned
k_outside i after k done.Began = k_turned (k_starting i after k) outcome.Executed
k_outside i after k done.Stepped = k_turned (k_stepping i after k) outcome.Executed
k_outside i after k (done.Paused turns) =
    let next = k_stepping i after k in
    k_turned (with_state (delaying i turns next.state) next) outcome.Executed
k_outside i after k (done.Interrupted code) =
    k_turned (k_stepping i after k) (outcome.Interrupted code)
k_outside i after k (done.Committed n) = k_turned k outcome.Executed
k_outside i after k (done.Ended w) = k_turned k outcome.Executed

abbrev pub k_done : Bool → ℕ → Executed → Kept → KTurned
k_done true i e k = k_inside i (next_address k i) e.after k e.told
k_done false i e k = k_outside i e.after k e.told

unfoldable pub k_executing : ℕ → Instr → List Range → Kept → KTurned
k_executing i instr ranges k = k_done (is_live k.state i) i (executed instr ranges (beside k i)) k

-- ---- the next instruction

abbrev pub k_stopping : ℕ → Beside → Kept → ℕ → KTurned
k_stopping i after k code = k_turned (k_stepping i after k) (outcome.Interrupted code)

abbrev pub k_attempting : Setting → ℕ → Kept → Fate → KTurned
k_attempting m i k (Goes instr ranges) =
    k_with_lines m i (operand_needs (k.locals i).attempt.cpu.prefix ranges) k (k_executing i instr ranges)
k_attempting m i k (Ends w) = k_ends_by i w (next_address k i) k
k_attempting m i k (Stops e) =
    k_stopping i (record { local = stopped e (k.locals i); storage = k.storage }) k e.code

-- ---- what is left to do before the next instruction

abbrev pub k_storing_block : Setting → ℕ → Pending → Kept → KTurned
k_storing_block m i b k =
    k_with_lines m i (block_needs (k.locals i).attempt.cpu.prefix b) k
    (λ t. k_turned (k_storing i t) outcome.Executed)

abbrev pub k_taking_interruption : Setting → ℕ → Waiting → Kept → KTurned
k_taking_interruption m i w k =
    k_with_lines m i (interruption_needs (k.locals i).attempt.cpu.prefix w) k
    (λ t. k_turned (k_taking i t) outcome.Executed)

abbrev pub k_acting : Setting → ℕ → Kept → Option Pending → Option Waiting → KTurned
k_acting m i k (Some b) w = k_storing_block m i b k
k_acting m i k None (Some w) = k_taking_interruption m i w k
k_acting m i k None None = k_attempting m i k (fate_by_progress (text_of m) k.storage (k.locals i).attempt)

-- ---- an external interruption

abbrev pub k_to_tail : ℕ → Kept → Kept
k_to_tail i k = with_state (to_tail i k.state) k

abbrev pub k_interrupting : Bool → ℕ → Kept → KTurned
k_interrupting true i k =
    k_turned (k_to_tail i (k_aborting i why.External (next_address k i) k)) (outcome_of_abort why.External)
k_interrupting false i k = k_turned (k_to_tail i k) outcome.External

unfoldable pub k_external : ℕ → Kept → KTurned
k_external i k = k_interrupting (is_live k.state i) i k

-- ---- a turn

abbrev pub k_by_rules : Bool → Bool → Setting → ℕ → Kept → KTurned
k_by_rules true waits m i k = k_external i k
k_by_rules false true m i k = k_turned (with_state (waiting_turn i k.state) k) outcome.Delayed
k_by_rules false false m i k = k_acting m i k (k.locals i).pending (k.locals i).waiting

unfoldable pub k_counted_turn : Setting → ℕ → Kept → KTurned
k_counted_turn m i k =
    let n = k.state.numbers i in
    k_by_rules (is_tick m.limits n.turns) (nat_lt 0 n.delay) m i k

unfoldable pub k_idle : Setting → Kept → ℕ → Option Outcome
k_idle m k i = idle_by m.limits (kept_finished k i) k.state.queue (k.state.numbers i) i

abbrev pub k_turn_where : Option Outcome → Setting → ℕ → Kept → KTurned
k_turn_where (Some o) m i k = k_turned k o
k_turn_where None m i k =
    k_counted_turn m i (with_state (with_event (event.Turn i) (counting_turn i k.state)) k)

unfoldable pub k_turn : Setting → ℕ → Kept → KTurned
k_turn m i k = k_turn_where (k_idle m k i) m i k

-- ---- an event

unfoldable pub k_happen : Setting → Event → Kept → KTurned
k_happen m (event.Turn i) k = k_turn m i k
k_happen m (event.External i) k = k_external i (with_state (with_event (event.External i) k.state) k)
