-- Worked values of the definitions. The expected values are those of an independent model of the machine.
use Rattle.std.proofs.Common.{◌≡◌, refl, ℕ, true, false, List, [], ◌∷◌, Option, Some, None}
use Rattle.std.specs.FinSet.{empty}
use Rattle.z_regs.specs.Cpu.{started}
use Rattle.z_regs.specs.Absolute.{absolute_range}
use Rattle.z_regs.specs.declared.image.RunState.TheVariants.{Halted, Interrupted}
use Rattle.z_regs.specs.declared.ranges.Range.{Range}
use Rattle.interrogate.specs.declared.kinds.Answer.{Answer}
use Rattle.interrogate.specs.declared.kinds.Answer.TheVariants.{Yields, Rejects}
use Rattle.line_table.specs.Holders.{holding, nobody}
use Rattle.line_table.specs.declared.table.Mode.{Mode}
use Rattle.line_table.specs.declared.table.Mode.TheVariants.{Shared, Exclusive}
use Rattle.tx_control.specs.declared.causes.Why.TheVariants.{External, FetchConflict, StoreConflict, Starved}
use Rattle.tx_control.specs.declared.causes.Why.TheVariants.{Program, FetchOverflow}
use Rattle.tx_control.specs.declared.exceptions.Exception.{Exception}
use Rattle.tx_ladder.specs.Parameters.{Parameters, usual, parameters}
use Rattle.tx_ladder.specs.Rungs.{Standing, fresh}
use Rattle.tx_serial.specs.Entry.{Entry}
use Rattle.tx_serial.specs.Entry.TheVariants.{Abort, Commit}
use Rattle.tx_serial.specs.Flat.{at_put}
use Rattle.tx_meaning.specs.declared.outcome.Outcome.{Outcome}
use Rattle.tx_meaning.specs.declared.outcome.Outcome.TheVariants as outcome
use Rattle.tx_meaning.specs.Limits.{RunLimits, Setting}
use Rattle.tx_meaning.specs.State.{State, beginning, zeros}
use Rattle.interrogate.specs.Touched.{untouched}
use Rattle.tx_meaning.specs.Changes.{aborting, committing, rejecting_one, rejected_once, head_to_tail}
use Rattle.tx_meaning.specs.Changes.{spare_line}
use Rattle.tx_meaning.specs.Hits.{hits_by}
use Rattle.tx_meaning.specs.Asking.{asker_of, by_answer}
use Rattle.tx_meaning.specs.Idle.{kept_back, idle_by, finished_by}
use Rattle.tx_meaning.specs.Turn.{Turned, counted_turn, external}
use Rattle.tx_meaning.specs.declared.asking.Need.{Need}
use Rattle.tx_meaning.specs.Needs.{needs_of, operand_needs, interruption_needs}
use Rattle.tx_meaning.specs.Stretches.{bound}

-- ---- the bound of a constrained transaction's turns

pub usual_bound : bound usual ≡ 1072
usual_bound = refl

-- rejects up to 1000, starved by three, the second conflict abort joins the queue, one turn of delay
small_bound : bound (parameters 1000 64 4 3 2 1) ≡ 109
small_bound = refl

-- ---- needed lines

abbrev fetched : ℕ → ℕ → Range
fetched first length = record { first = first; length = length; store = false }

abbrev stored : ℕ → ℕ → Range
stored first length = record { first = first; length = length; store = true }

abbrev exclusive : ℕ → Need
exclusive line = record { line = line; mode = Exclusive }

abbrev shared : ℕ → Need
shared line = record { line = line; mode = Shared }

-- across the end of a line
two_lines : needs_of (stored 0x90f8 16 ∷ []) ≡ exclusive 144 ∷ exclusive 145 ∷ []
unfolding needs_of
two_lines = refl

-- one byte behind the end of a line is no byte of the next
one_line : needs_of (fetched 0x90f8 8 ∷ []) ≡ shared 144 ∷ []
unfolding needs_of
one_line = refl

-- a line that is fetched and stored, behind one that is higher
rising_lines : needs_of (fetched 0x9200 8 ∷ fetched 0x9008 8 ∷ stored 0x90ff 1 ∷ [])
    ≡ exclusive 144 ∷ shared 146 ∷ []
unfolding needs_of
rising_lines = refl

no_bytes : needs_of (stored 0x9000 0 ∷ []) ≡ []
unfolding needs_of
no_bytes = refl

-- a prefix moves the first area of storage
prefixed_lines : operand_needs (Some 0xa000) (stored 0x8c 4 ∷ fetched 0xa000 8 ∷ [])
    ≡ shared 0 ∷ exclusive 160 ∷ []
unfolding needs_of absolute_range
prefixed_lines = refl

-- an interruption that aborted nothing needs the lines of its identification, the old and the new program
-- status word: 0 and 1 of the area
interruption_lines : interruption_needs (Some 0xa000) (record { length = 6; block = None })
    ≡ exclusive 160 ∷ exclusive 161 ∷ []
unfolding needs_of absolute_range
interruption_lines = refl

-- with a block also the line at 1800 in hexadecimal
interruption_and_block : interruption_needs (Some 0xa000) (record { length = 6; block = Some [] })
    ≡ exclusive 160 ∷ exclusive 161 ∷ exclusive 184 ∷ []
unfolding needs_of absolute_range
interruption_and_block = refl

-- ---- the line that is given up

-- the lowest that is held, line 0 among them, and neither touched nor needed
lowest_line_is_spare : spare_line (λ cpu line. Some Shared) 0 untouched [] ≡ Some 0
lowest_line_is_spare = refl

needed_lines_stay : spare_line (λ cpu line. Some Shared) 0 untouched (shared 0 ∷ []) ≡ Some 1
needed_lines_stay = refl

-- ---- behind a conflict

abbrev climbing : Parameters → ℕ → Standing
climbing parms aborts = record (fresh parms) { aborts = aborts; constrained = true }

abbrev attempting_state : State
attempting_state = record beginning {
  numbers = at_put beginning.numbers 1 (record zeros { completed = 2; attempts = 1; delay = 9 });
}

-- of CPU 1: the completed instructions, the delay, the queue and the history
abbrev seen : State → ℕ × ℕ × List ℕ × List Entry
seen s = ((s.numbers 1).completed, (s.numbers 1).delay, s.queue, s.history)

-- delay turns are set, not added
second_abort : seen (aborting 1 (climbing usual 1) 2 (FetchConflict 144) attempting_state)
    ≡ (0, 4, [], Abort 1 2 (FetchConflict 144) ∷ [])
unfolding aborting
second_abort = refl

eighth_abort : seen (aborting 1 (climbing usual 7) 2 Starved attempting_state)
    ≡ (0, 9, 1 ∷ [], Abort 1 2 Starved ∷ [])
unfolding aborting
eighth_abort = refl

-- the first conflict abort leads to the queue
stop_one : seen (aborting 1 (climbing (parameters 8 64 4 64 1 128) 0) 2 (StoreConflict 144) attempting_state)
    ≡ (0, 9, 1 ∷ [], Abort 1 2 (StoreConflict 144) ∷ [])
unfolding aborting
stop_one = refl

-- no more than the most
most_delay : seen (aborting 1 (climbing (parameters 8 64 4 64 8 3) 2) 2 (FetchConflict 144) attempting_state)
    ≡ (0, 3, [], Abort 1 2 (FetchConflict 144) ∷ [])
unfolding aborting
most_delay = refl

unconstrained_abort : seen (aborting 1 (fresh usual) 2 (FetchConflict 144) attempting_state)
    ≡ (0, 9, [], Abort 1 2 (FetchConflict 144) ∷ [])
unfolding aborting
unconstrained_abort = refl

-- an external interruption is no conflict
external_abort : seen (aborting 1 (climbing usual 7) 2 External attempting_state)
    ≡ (0, 9, [], Abort 1 2 External ∷ [])
unfolding aborting
external_abort = refl

-- ---- turns

abbrev setting : RunLimits → Setting
setting limits = record {
  image = record {
    storage = [];
    guard = empty;
    starts = [];
    cpus = started 0 ∷ started 0 ∷ started 0 ∷ [];
    shows = [];
    schedule = [];
    scheduled = false;
    parms = usual;
  };
  limits = limits;
}

abbrev ticking : Setting
ticking = setting record { turns = 10; tick = 2; externals = 0 }

abbrev waiting_for : ℕ → ℕ → State
waiting_for turns delay = record beginning {
  queue = 1 ∷ 2 ∷ [];
  numbers = at_put beginning.numbers 1 (record zeros { turns = turns; delay = delay });
}

-- what comes of it, the delay that is left, and the queue
abbrev told : Turned → Outcome × ℕ × List ℕ
told t = (t.outcome, (t.state.numbers 1).delay, t.state.queue)

-- a turn that is waited for
delayed_turn : told (counted_turn ticking 1 (waiting_for 1 3)) ≡ (outcome.Delayed, 2, 1 ∷ 2 ∷ [])
delayed_turn = refl

-- a tick uses up no delay, and moves the head of the queue to its tail
tick_turn : told (counted_turn ticking 1 (waiting_for 2 3)) ≡ (outcome.External, 3, 2 ∷ 1 ∷ [])
tick_turn = refl

-- another CPU than the head stays where it is
external_behind : told (external ticking 2 (waiting_for 1 0)) ≡ (outcome.External, 0, 1 ∷ 2 ∷ [])
external_behind = refl

alone_in_the_queue : head_to_tail 1 (1 ∷ []) ≡ 1 ∷ []
alone_in_the_queue = refl

head_has_turns : kept_back (1 ∷ 2 ∷ []) 1 ≡ None
head_has_turns = refl

behind_the_head : kept_back (1 ∷ 2 ∷ []) 2 ≡ Some outcome.Queued
behind_the_head = refl

outside_the_queue : kept_back (1 ∷ 2 ∷ []) 0 ≡ Some outcome.Stopped
outside_the_queue = refl

-- the tests come in this order: the program's end, the turns, the queue
at_the_end : idle_by ticking.limits true (1 ∷ []) (record zeros { turns = 10 }) 0 ≡ Some outcome.Halted
at_the_end = refl

without_turns : idle_by ticking.limits false (1 ∷ []) (record zeros { turns = 10 }) 0 ≡ Some outcome.Spent
without_turns = refl

-- ---- rejects, conflicts and lines

-- one more reject given, and one more request rejected
abbrev counts_seen : State → List ℕ
counts_seen s = (s.numbers 1).given ∷ (s.numbers 0).refused ∷ (s.numbers 0).rejected ∷ []

rejected_request : counts_seen (rejected_once 0 true (climbing usual 0)
    (rejecting_one 1 (climbing usual 0) attempting_state)) ≡ 1 ∷ 1 ∷ 1 ∷ []
rejected_request = refl

abbrev invalid : Exception
invalid = record { code = 1; fetch = false; length = 2 }

-- conflicts are counted until the transaction ends
conflicts_counted : hits_by (FetchConflict 144) 3 ∷ hits_by (StoreConflict 144) 3 ∷ hits_by Starved 3 ∷ []
    ≡ 4 ∷ 4 ∷ 4 ∷ []
conflicts_counted = refl

others_not_counted : hits_by External 3 ∷ hits_by FetchOverflow 3 ∷ hits_by (Program invalid) 3 ∷ []
    ≡ 3 ∷ 3 ∷ 0 ∷ []
others_not_counted = refl

-- a CPU that has halted is finished when its block is stored, one that is interrupted where it has no prefix
-- to take the interruption by
halted_with_a_block : finished_by (Some record { address = 0x9000; bytes = [] })
    (record (started 0) { state = Halted }) ≡ false
halted_with_a_block = refl

halted_without_a_block : finished_by None (record (started 0) { state = Halted }) ≡ true
halted_without_a_block = refl

interrupted_without_a_prefix : finished_by None (record (started 0) { state = Interrupted 9 }) ≡ true
interrupted_without_a_prefix = refl

interrupted_with_a_prefix : finished_by None
    (record (started 0) { state = Interrupted 9; prefix = Some 0xa000 }) ≡ false
interrupted_with_a_prefix = refl

-- the head of the queue asks as such, and no other CPU does
head_asks : (asker_of ticking (waiting_for 1 0) 1).head ∷ (asker_of ticking (waiting_for 1 0) 2).head ∷ []
    ≡ true ∷ false ∷ []
head_asks = refl

abbrev holding_state : State
holding_state = record attempting_state { held = holding nobody 1 144 (Some Exclusive) }

-- how CPU 1 holds the line that another CPU has asked for
abbrev left_of : Need → Answer → Option Mode
left_of need answer = (by_answer ticking 0 need 1 holding_state answer).state.held 1 144

yields_the_line : left_of (exclusive 144) Yields ∷ left_of (shared 144) Yields
    ∷ left_of (shared 144) Rejects ∷ [] ≡ None ∷ Some Shared ∷ Some Exclusive ∷ []
yields_the_line = refl

-- the abort stands before the entry of the turn that caused it
abort_before : (committing 0 false 3
    (aborting 1 (fresh usual) 2 (FetchConflict 144) attempting_state)).history
    ≡ Abort 1 2 (FetchConflict 144) ∷ Commit 0 3 ∷ []
unfolding aborting
abort_before = refl
