-- One turn of a CPU, and an external interruption.
use Rattle.std.specs.Prelude.{ℕ, suc, ◌+◌, ◌%◌, Bool, true, false, ◌&&◌, nat_eq, nat_lt}
use Rattle.std.specs.Prelude.{List, Option, Some, None}
use Rattle.z_regs.specs.declared.image.RunState.{RunState}
use Rattle.z_regs.specs.declared.image.RunState.TheVariants.{Running, Halted, Interrupted}
use Rattle.z_regs.specs.declared.waiting.Waiting.{Waiting}
use Rattle.z_instr.specs.declared.instr.Instr.{Instr}
use Rattle.z_instr.specs.Table.{entry_at}
use Rattle.z_instr.specs.Roles.{begins}
use Rattle.tx_control.specs.Causes.{code_number}
use Rattle.tx_control.specs.Nesting.{is_constrained}
use Rattle.tx_control.specs.declared.causes.Why.{Why}
use Rattle.tx_control.specs.declared.causes.Why.TheVariants as why
use Rattle.tx_ladder.specs.Rungs.{is_starved}
use Rattle.tx_serial.specs.Entry.TheVariants as entry
use Rattle.tx_serial.specs.Event.{Event}
use Rattle.tx_serial.specs.Event.TheVariants as event
use Rattle.tx_serial.specs.Flat.{Pending}
use Rattle.tx_serial.specs.Attempt.{Run, Mark, Open, Committed, Overflowed, Missing}
use Rattle.tx_serial.specs.Fate.{Fate, Goes, Ends, Stops, fate}
use Rattle.tx_serial.specs.Run.{run}
use Rattle.tx_serial.specs.Ending.{ending}
use Rattle.tx_serial.specs.Remains.{aborted_bit}
use Rattle.tx_serial.specs.TransactionEffect.{delay_given}
use Rattle.tx_meaning.specs.declared.outcome.Outcome.{Outcome}
use Rattle.tx_meaning.specs.declared.outcome.Outcome.TheVariants as outcome
use Rattle.tx_meaning.specs.Limits.{RunLimits, Setting}
use Rattle.tx_meaning.specs.declared.asking.Need.{Need}
use Rattle.tx_meaning.specs.Needs.{operand_needs, block_needs, interruption_needs}
use Rattle.tx_meaning.specs.State.{State, flat_of, attempt_of, cpu_of, is_live, standing_of}
use Rattle.tx_meaning.specs.Changes.{with_entry, with_event, counting_turn, waiting_turn, delaying}
use Rattle.tx_meaning.specs.Changes.{starting, continuing, committing, aborting, head_to_tail}
use Rattle.tx_meaning.specs.declared.asking.Reject.{Reject}
use Rattle.tx_meaning.specs.Asking.{get_lines, aborting_live}
use Rattle.tx_meaning.specs.Idle.{idle}

-- the state after an event, what came of it, and the reject in it, where there was one
pub record Turned : Type 0 where
  pub state : State
  pub outcome : Outcome
  pub reject : Option Reject

abbrev pub turned : State → Outcome → Turned
turned s o = record { state = s; outcome = o; reject = None }

-- ---- the end of a CPU's own attempt

-- a program interruption, or an abort behind which the program runs on
abbrev pub outcome_of_abort : Why → Outcome
outcome_of_abort (why.Program e) = outcome.Interrupted (e.code + aborted_bit)
outcome_of_abort w = outcome.Aborted (code_number w)

abbrev pub ends_by : Setting → ℕ → ℕ → Why → State → Turned
ends_by m i n w s = turned (aborting i (standing_of m s i) n w s) (outcome_of_abort w)

-- ---- lines first

-- a rejected turn does nothing else, but that a constrained attempt may be starved by it
abbrev pub refused_turn : Bool → Setting → ℕ → Reject → State → Turned
refused_turn false m i r s = record {
  state = s;
  outcome = outcome.Rejected r.by r.line;
  reject = Some r;
}
refused_turn true m i r s = record (ends_by m i (s.numbers i).completed why.Starved s) { reject = Some r }

abbrev pub once_given : Setting → ℕ → Option Reject → State → (State → Turned) → Turned
once_given m i None s next = next s
once_given m i (Some r) s next = refused_turn (is_live s i && is_starved (standing_of m s i)) m i r s

-- what a turn does once all lines that it needs are there
abbrev pub with_lines : Setting → ℕ → List Need → State → (State → Turned) → Turned
with_lines m i needs s next =
    let asked = get_lines m i needs s in
    once_given m i asked.reject asked.state next

-- ---- an instruction that goes, when its lines are there

-- a program interruption came, or the instruction is completed and the program may have to wait
abbrev pub delaying_where : Bool → ℕ → ℕ → State → State
delaying_where true i turns s = delaying i turns s
delaying_where false i turns s = s

abbrev pub stepped : ℕ → ℕ → RunState → State → Turned
stepped i turns (Interrupted code) s = turned s (outcome.Interrupted code)
stepped i turns Running s = turned (delaying_where (nat_lt 0 turns) i turns s) outcome.Executed
stepped i turns Halted s = turned (delaying_where (nat_lt 0 turns) i turns s) outcome.Executed

-- one instruction outside transactions, behind which the program waits for so many turns
abbrev pub stepping : Setting → ℕ → ℕ → State → Turned
stepping m i turns s = let t = with_entry (entry.Step i) s in stepped i turns (cpu_of m t i).state t

abbrev pub step_outside : Setting → ℕ → Instr → State → Turned
step_outside m i instr s = stepping m i (delay_given instr (cpu_of m s i)) s

abbrev pub ends_where : Setting → ℕ → ℕ → Option Why → State → Turned
ends_where m i n None s = turned s outcome.Executed
ends_where m i n (Some w) s = ends_by m i n w s

-- with one instruction more, the attempt goes on, is committed, or is overflowed; or there is no such run,
-- since the attempt ends before
abbrev pub by_mark : Setting → ℕ → State → Run → Run → Mark → Turned
by_mark m i s p q Open = turned (continuing i s) outcome.Executed
by_mark m i s p q Committed =
    turned (committing i (is_constrained p.nest) ((s.numbers i).completed + 1) s) outcome.Executed
by_mark m i s p q Overflowed =
    ends_where m i ((s.numbers i).completed + 1) (ending (flat_of m s).text q) s
by_mark m i s p q Missing = ends_where m i (s.numbers i).completed (ending (flat_of m s).text p) s

abbrev pub step_inside : Setting → ℕ → State → Turned
step_inside m i s =
    let q = run (flat_of m s) i (suc (s.numbers i).completed) in
    by_mark m i s (attempt_of m s i) q q.mark

abbrev pub executing_where : Bool → Bool → Setting → ℕ → Instr → State → Turned
executing_where true begin m i instr s = step_inside m i s
executing_where false true m i instr s = turned (starting i s) outcome.Executed
executing_where false false m i instr s = step_outside m i instr s

abbrev pub executing : Setting → ℕ → Instr → State → Turned
executing m i instr s = executing_where (is_live s i) (begins (entry_at instr.op.number)) m i instr s

-- ---- the next instruction

abbrev pub attempting : Setting → ℕ → State → Fate → Turned
attempting m i s (Goes instr ranges) =
    with_lines m i (operand_needs (cpu_of m s i).prefix ranges) s (executing m i instr)
attempting m i s (Ends w) = ends_by m i (s.numbers i).completed w s
attempting m i s (Stops e) = stepping m i 0 s

-- ---- what is left to do before the next instruction

abbrev pub storing_block : Setting → ℕ → Pending → State → Turned
storing_block m i b s =
    with_lines m i (block_needs (cpu_of m s i).prefix b) s
    (λ t. turned (with_entry (entry.Tdb i) t) outcome.Executed)

abbrev pub taking_interruption : Setting → ℕ → Waiting → State → Turned
taking_interruption m i w s =
    with_lines m i (interruption_needs (cpu_of m s i).prefix w) s
    (λ t. turned (with_entry (entry.Interrupt i) t) outcome.Executed)

-- a pending block is stored first, then a waiting interruption is taken, then comes the next instruction
abbrev pub acting : Setting → ℕ → State → Option Pending → Option Waiting → Turned
acting m i s (Some b) w = storing_block m i b s
acting m i s None (Some w) = taking_interruption m i w s
acting m i s None None = attempting m i s (fate (flat_of m s).text (attempt_of m s i))

-- ---- an external interruption

abbrev pub to_tail : ℕ → State → State
to_tail i s = record s { queue = head_to_tail i s.queue }

-- it aborts a live attempt; the head of the stop queue moves to the tail
abbrev pub interrupting : Bool → Setting → ℕ → State → Turned
interrupting true m i s =
    turned (to_tail i (aborting_live m i why.External s)) (outcome_of_abort why.External)
interrupting false m i s = turned (to_tail i s) outcome.External

abbrev pub external : Setting → ℕ → State → Turned
external m i s = interrupting (is_live s i) m i s

-- ---- a turn

-- a tick comes with each turn whose number is a multiple of the time between two ticks
abbrev pub is_tick : RunLimits → ℕ → Bool
is_tick limits turns = nat_lt 0 limits.tick && nat_eq (turns % limits.tick) 0

abbrev pub by_rules : Bool → Bool → Setting → ℕ → State → Turned
by_rules true waits m i s = external m i s
by_rules false true m i s = turned (waiting_turn i s) outcome.Delayed
by_rules false false m i s = acting m i s ((flat_of m s).pending i) ((flat_of m s).waiting i)

abbrev pub counted_turn : Setting → ℕ → State → Turned
counted_turn m i s =
    let n = s.numbers i in
    by_rules (is_tick m.limits n.turns) (nat_lt 0 n.delay) m i s

-- a turn that is not idle is counted and recorded
abbrev pub turn_where : Option Outcome → Setting → ℕ → State → Turned
turn_where (Some o) m i s = turned s o
turn_where None m i s = counted_turn m i (with_event (event.Turn i) (counting_turn i s))

unfoldable pub turn : Setting → ℕ → State → Turned
turn m i s = turn_where (idle m s i) m i s

-- ---- an event

unfoldable pub happen : Setting → Event → State → Turned
happen m (event.Turn i) s = turn m i s
happen m (event.External i) s = external m i (with_event (event.External i) s)
