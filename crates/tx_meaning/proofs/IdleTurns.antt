-- The outcome of a turn says whether its CPU was ready: a counted turn never comes to an idle outcome, and a
-- turn that is idle never to another one.
use Rattle.std.proofs.Common.{◌≡◌, ℕ, suc, Bool, true, false, List, [], ◌∷◌, Option, Some, None, refl, ap, sym}
use Rattle.std.proofs.Common.{◌∙◌}
use Rattle.std.specs.Prelude.{◌+◌, ◌&&◌, not, nat_lt, is_none, if◌then◌else◌}
use Rattle.z_regs.specs.declared.image.RunState.{RunState}
use Rattle.z_regs.specs.declared.image.RunState.TheVariants.{Running, Halted, Interrupted}
use Rattle.z_regs.specs.declared.waiting.Waiting.{Waiting}
use Rattle.z_instr.specs.declared.instr.Instr.{Instr}
use Rattle.z_instr.specs.Table.{entry_at}
use Rattle.z_instr.specs.Roles.{begins}
use Rattle.tx_control.specs.declared.causes.Why.{Why}
use Rattle.tx_control.specs.declared.causes.Why.TheVariants as why
use Rattle.tx_ladder.specs.Rungs.{is_starved}
use Rattle.tx_ladder.specs.Waiting.{waits_in}
use Rattle.tx_serial.specs.Entry.TheVariants as entry
use Rattle.tx_serial.specs.Event.TheVariants as event
use Rattle.tx_serial.specs.Flat.{Pending}
use Rattle.tx_serial.specs.Attempt.{Run, Mark, Open, Committed, Overflowed, Missing}
use Rattle.tx_serial.specs.Fate.{Fate, Goes, Ends, Stops, fate}
use Rattle.tx_serial.specs.Run.{run}
use Rattle.tx_serial.specs.Ending.{ending}
use Rattle.tx_serial.specs.TransactionEffect.{delay_given}
use Rattle.tx_meaning.specs.declared.asking.Need.{Need}
use Rattle.tx_meaning.specs.declared.asking.Reject.{Reject}
use Rattle.tx_meaning.specs.declared.outcome.Outcome.{Outcome}
use Rattle.tx_meaning.specs.declared.outcome.Outcome.TheVariants as outcome
use Rattle.tx_meaning.specs.Limits.{Setting}
use Rattle.tx_meaning.specs.State.{State, is_first, is_live, flat_of, attempt_of, cpu_of, standing_of}
use Rattle.tx_meaning.specs.Needs.{operand_needs, block_needs, interruption_needs}
use Rattle.tx_meaning.specs.Changes.{with_entry, with_event, counting_turn}
use Rattle.tx_meaning.specs.Asking.{get_lines}
use Rattle.tx_meaning.specs.Idle.{idle, is_ready, is_finished, is_spent, kept_back}
use Rattle.tx_meaning.specs.IdleOutcomes.{is_idle_outcome}
use Rattle.tx_meaning.specs.Turn.{Turned, turned, outcome_of_abort, refused_turn, once_given, with_lines, stepped}
use Rattle.tx_meaning.specs.Turn.{stepping, ends_where, by_mark, executing_where, executing, attempting, acting}
use Rattle.tx_meaning.specs.Turn.{interrupting, is_tick, by_rules, counted_turn, turn_where, turn, happen}

-- ---- a counted turn

abbrev IsBusy : Turned → Type 0
IsBusy t = is_idle_outcome t.outcome ≡ false

-- an abort, whatever its cause
abort_is_busy : (w : Why) → is_idle_outcome (outcome_of_abort w) ≡ false
abort_is_busy why.External = refl
abort_is_busy (why.Program e) = refl
abort_is_busy (why.FetchConflict line) = refl
abort_is_busy (why.StoreConflict line) = refl
abort_is_busy why.FetchOverflow = refl
abort_is_busy why.StoreOverflow = refl
abort_is_busy why.Restricted = refl
abort_is_busy (why.Filtered e) = refl
abort_is_busy why.Depth = refl
abort_is_busy why.Starved = refl
abort_is_busy (why.Tabort code) = refl

module _ (m : Setting) (i : ℕ) where
  -- a reject, that may starve the attempt
  reject_is_busy : (starves : Bool) (r : Reject) (s : State) → IsBusy (refused_turn starves m i r s)
  reject_is_busy true r s = refl
  reject_is_busy false r s = refl

  -- what is done once the lines are there, or the reject in its place
  given_is_busy : (o : Option Reject) (s : State) (next : State → Turned) → ((t : State) → IsBusy (next t))
      → IsBusy (once_given m i o s next)
  given_is_busy None s next busy = busy s
  given_is_busy (Some r) s next busy = reject_is_busy (is_live s i && is_starved (standing_of m s i)) r s

  lines_are_busy : (needs : List Need) (s : State) (next : State → Turned) → ((t : State) → IsBusy (next t))
      → IsBusy (with_lines m i needs s next)
  lines_are_busy needs s next busy =
      let got = get_lines m i needs s in
      given_is_busy got.reject got.state next busy

  -- one instruction outside transactions
  step_is_busy : (turns : ℕ) (state : RunState) (s : State) → IsBusy (stepped i turns state s)
  step_is_busy turns Running s = refl
  step_is_busy turns Halted s = refl
  step_is_busy turns (Interrupted code) s = refl

  stepping_is_busy : (turns : ℕ) (s : State) → IsBusy (stepping m i turns s)
  stepping_is_busy turns s =
      let t = with_entry (entry.Step i) s in
      step_is_busy turns (cpu_of m t i).state t

  -- one instruction of an attempt
  ending_is_busy : (n : ℕ) (o : Option Why) (s : State) → IsBusy (ends_where m i n o s)
  ending_is_busy n None s = refl
  ending_is_busy n (Some w) s = abort_is_busy w

  mark_is_busy : (s : State) (before after : Run) (mark : Mark) → IsBusy (by_mark m i s before after mark)
  mark_is_busy s before after Open = refl
  mark_is_busy s before after Committed = refl
  mark_is_busy s before after Overflowed =
      ending_is_busy ((s.numbers i).completed + 1) (ending (flat_of m s).text after) s
  mark_is_busy s before after Missing =
      ending_is_busy (s.numbers i).completed (ending (flat_of m s).text before) s

  executed_is_busy : (live begin : Bool) (instr : Instr) (s : State)
      → IsBusy (executing_where live begin m i instr s)
  executed_is_busy true begin instr s =
      let after = run (flat_of m s) i (suc (s.numbers i).completed) in
      mark_is_busy s (attempt_of m s i) after after.mark
  executed_is_busy false true instr s = refl
  executed_is_busy false false instr s = stepping_is_busy (delay_given instr (cpu_of m s i)) s

  attempt_is_busy : (s : State) (f : Fate) → IsBusy (attempting m i s f)
  attempt_is_busy s (Goes instr ranges) =
      lines_are_busy (operand_needs (cpu_of m s i).prefix ranges) s (executing m i instr)
      (λ t. executed_is_busy (is_live t i) (begins (entry_at instr.op.number)) instr t)
  attempt_is_busy s (Ends w) = abort_is_busy w
  attempt_is_busy s (Stops e) = stepping_is_busy 0 s

  -- a block, an interruption, or the next instruction
  act_is_busy : (s : State) (block : Option Pending) (waiting : Option Waiting)
      → IsBusy (acting m i s block waiting)
  act_is_busy s (Some b) waiting =
      lines_are_busy (block_needs (cpu_of m s i).prefix b) s
      (λ t. turned (with_entry (entry.Tdb i) t) outcome.Executed) (λ t. refl)
  act_is_busy s None (Some w) =
      lines_are_busy (interruption_needs (cpu_of m s i).prefix w) s
      (λ t. turned (with_entry (entry.Interrupt i) t) outcome.Executed) (λ t. refl)
  act_is_busy s None None = attempt_is_busy s (fate (flat_of m s).text (attempt_of m s i))

  external_is_busy : (live : Bool) (s : State) → IsBusy (interrupting live m i s)
  external_is_busy true s = refl
  external_is_busy false s = refl

  rules_are_busy : (tick waits : Bool) (s : State) → IsBusy (by_rules tick waits m i s)
  rules_are_busy true waits s = external_is_busy (is_live s i) s
  rules_are_busy false true s = refl
  rules_are_busy false false s = act_is_busy s ((flat_of m s).pending i) ((flat_of m s).waiting i)

  counted_is_busy : (s : State) → IsBusy (counted_turn m i s)
  counted_is_busy s = rules_are_busy (is_tick m.limits (s.numbers i).turns) (nat_lt 0 (s.numbers i).delay) s

-- ---- an idle turn

-- if a turn is idle, its outcome is an idle one
abbrev IsIdleWhere : Option Outcome → Type 0
IsIdleWhere None = Unit {0}
IsIdleWhere (Some o) = is_idle_outcome o ≡ true

queued_or_stopped : (first waits : Bool)
    → IsIdleWhere (if first then None else Some (if waits then outcome.Queued else outcome.Stopped))
queued_or_stopped true waits = tt
queued_or_stopped false true = refl
queued_or_stopped false false = refl

kept_back_is_idle : (queue : List ℕ) (i : ℕ) → IsIdleWhere (kept_back queue i)
kept_back_is_idle [] i = tt
kept_back_is_idle (head ∷ rest) i = queued_or_stopped (is_first i (head ∷ rest)) (waits_in rest i)

halted_or_spent : (finished spent : Bool) (o : Option Outcome) → IsIdleWhere o
    → IsIdleWhere (if finished then Some outcome.Halted else (if spent then Some outcome.Spent else o))
halted_or_spent true spent o behind = refl
halted_or_spent false true o behind = refl
halted_or_spent false false o behind = behind

idle_is_idle : (m : Setting) (s : State) (i : ℕ) → IsIdleWhere (idle m s i)
unfolding idle
idle_is_idle m s i =
    halted_or_spent (is_finished m s i) (is_spent m.limits (s.numbers i)) (kept_back s.queue i)
    (kept_back_is_idle s.queue i)

-- ---- a turn

turn_tells : (m : Setting) (s : State) (i : ℕ) (o : Option Outcome) → IsIdleWhere o
    → is_idle_outcome (turn_where o m i s).outcome ≡ not (is_none o)
turn_tells m s i None kept = counted_is_busy m i (with_event (event.Turn i) (counting_turn i s))
turn_tells m s i (Some o) kept = kept

pub outcome_tells : (m : Setting) (s : State) (i : ℕ)
    → is_idle_outcome (happen m (event.Turn i) s).outcome ≡ not (is_ready m s i)
unfolding happen turn
outcome_tells m s i = turn_tells m s i (idle m s i) (idle_is_idle m s i)
