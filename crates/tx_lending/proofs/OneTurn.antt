-- One turn of the machine that keeps, whose instruction could be made away.
use Rattle.std.proofs.Common.{◌≡◌, ℕ, ◌+◌, ◌≤◌, Bool, true, false, List, [], ◌∷◌, ◌++◌, Option, Some, None}
use Rattle.std.proofs.Common.{refl, sym, ap, ◌∙◌, arith, append-nil}
use Rattle.std.specs.Prelude.{if◌then◌else◌, nat_lt, nat_le, ◌&&◌, is_none, All}
use Rattle.std.proofs.lemmas.Bool.{true≢false}
use Rattle.std.proofs.lemmas.List.Elements.{All-head, All-tail}
use Rattle.z_regs.specs.declared.image.RunState.{RunState}
use Rattle.z_regs.specs.declared.image.RunState.TheVariants.{Running, Halted, Interrupted}
use Rattle.tx_serial.specs.Apply.{is_running}
use Rattle.tx_serial.specs.Fate.{Goes}
use Rattle.tx_serial.specs.Flat.{at_put}
use Rattle.tx_serial.proofs.Entries.{at_put_same}
use Rattle.tx_journal.specs.declared.entries.Entry.{Entry}
use Rattle.tx_journal.specs.declared.entries.Entry.TheVariants.{Step}
use Rattle.tx_journal.specs.declared.events.Event.TheVariants.{Turn}
use Rattle.tx_progress.specs.Doing.{Executed, executed}
use Rattle.tx_progress.specs.Local.{Local}
use Rattle.tx_progress.specs.Progress as progress
use Rattle.tx_progress.proofs.Parts.{put_twice}
use Rattle.tx_meaning.specs.Asking.{is_there}
use Rattle.tx_meaning.specs.Changes.{with_event, counting_turn}
use Rattle.tx_meaning.specs.declared.asking.Need.{Need}
use Rattle.tx_meaning.specs.declared.outcome.Outcome.TheVariants as outcome
use Rattle.tx_meaning.specs.Idle.{has_ended, is_spent, kept_back}
use Rattle.tx_meaning.specs.Limits.{Setting}
use Rattle.tx_meaning.specs.Needs.{operand_needs}
use Rattle.tx_meaning.specs.State.{Numbers, is_live}
use Rattle.tx_meaning.specs.Turn.{is_tick}
use Rattle.tx_keeping.specs.Asking.{KAsked, k_all_given, k_get_each, k_get_line, k_get_unless, k_then_ask}
use Rattle.tx_keeping.specs.Kept.{Kept, text_of, kept_finished, with_state, with_beside, beside}
use Rattle.tx_keeping.specs.Moves.{k_continuing, k_stepping}
use Rattle.tx_keeping.specs.Turn.{k_turned, k_once_given, k_inside, k_outside, k_done, k_executing}
use Rattle.tx_keeping.specs.Turn.{k_attempting, k_acting, k_by_rules, k_counted_turn, k_idle, k_turn_where, k_turn}
use Rattle.tx_keeping.specs.Turn.{k_happen, next_address}
use Rattle.tx_lending.specs.Away.{lent_by, lent_turn, GoesAway}
use Rattle.tx_lending.specs.Turns.{steps_of, with_turns}
use Rattle.tx_lending.proofs.Leaving.{IsLeft, left_by, count_after}

-- ---- lines that are there

-- a CPU that holds all lines asks nobody
all_there : (m : Setting) (i : ℕ) (needs rest : List Need) (t : Kept)
    → All (λ need. is_there need.mode (t.state.held i need.line) ≡ true) rest
    → k_get_each m i needs rest t ≡ k_all_given t
unfolding k_get_each k_get_line
all_there m i needs [] t h = refl
all_there m i needs (need ∷ rest) t h =
    ap (λ b. k_then_ask (k_get_unless b m i needs need t) (k_get_each m i needs rest))
    (All-head (λ (x : Need). is_there x.mode (t.state.held i x.line) ≡ true) need rest h)
    ∙ all_there m i needs rest t
    (All-tail (λ (x : Need). is_there x.mode (t.state.held i x.line) ≡ true) need rest h)

-- ---- the turn is none that is idle

going_on : (s : RunState) (prefix : Option ℕ) → is_running s ≡ true → has_ended s prefix ≡ false
going_on Running prefix h = refl
going_on Halted prefix h = absurd (true≢false (sym h))
going_on (Interrupted code) prefix h = absurd (true≢false (sym h))

unspent : (most turns k : ℕ) → 1 ≤ k → turns + k ≤ most → nat_le most turns ≡ false
unspent most turns k some h = grind (arith, some, h)

-- what has to be so for one turn
pub record IsReady (m : Setting) (i : ℕ) (t : Kept) : Type 0 where
  pub pending : (t.locals i).pending ≡ None
  pub waiting : (t.locals i).waiting ≡ None
  pub runs : is_running (t.locals i).attempt.cpu.state ≡ true
  pub completed : (t.state.numbers i).completed ≡ (t.locals i).attempt.count
  pub delay : (t.state.numbers i).delay ≡ 0
  pub queue : t.state.queue ≡ []
  pub left : is_spent m.limits (t.state.numbers i) ≡ false
  pub tick : is_tick m.limits ((t.state.numbers i).turns + 1) ≡ false

module _ (m : Setting) (i : ℕ) (t : Kept) (ready : IsReady m i t)
    (away : GoesAway (text_of m) (t.state.held i) (beside t i))
  where
    abbrev n : Numbers
    n = t.state.numbers i

    abbrev local : Local
    local = t.locals i

    -- the turn is recorded and counted
    abbrev counted : Kept
    counted = with_state (with_event (Turn i) (counting_turn i t.state)) t

    abbrev numbers_then : Numbers
    numbers_then = record n { turns = n.turns + 1 }

    abbrev done : Executed
    done = executed away.instr away.ranges (beside t i)

    not_finished : kept_finished t i ≡ false
    not_finished =
        ap (λ p. is_none p && has_ended local.attempt.cpu.state local.attempt.cpu.prefix) ready.pending
        ∙ going_on local.attempt.cpu.state local.attempt.cpu.prefix ready.runs

    not_idle : k_idle m t i ≡ None
    unfolding k_idle
    not_idle =
        ap (λ b. if b then Some outcome.Halted
        else (if is_spent m.limits n then Some outcome.Spent else kept_back t.state.queue i)) not_finished
        ∙ ap (λ b. if b then Some outcome.Spent else kept_back t.state.queue i) ready.left
        ∙ ap (λ q. kept_back q i) ready.queue

    then_is : counted.state.numbers i ≡ numbers_then
    then_is = at_put_same t.state.numbers i numbers_then

    acts : k_counted_turn m i counted ≡ k_acting m i counted local.pending local.waiting
    unfolding k_counted_turn
    acts =
        ap (λ (x : Numbers). k_by_rules (is_tick m.limits x.turns) (nat_lt 0 x.delay) m i counted) then_is
        ∙ ap (λ b. k_by_rules b (nat_lt 0 n.delay) m i counted) ready.tick
        ∙ ap (λ d. k_by_rules false (nat_lt 0 d) m i counted) ready.delay

    attempts : k_acting m i counted local.pending local.waiting
        ≡ k_attempting m i counted (Goes away.instr away.ranges)
    attempts =
        ap (λ p. k_acting m i counted p local.waiting) ready.pending
        ∙ ap (λ w. k_acting m i counted None w) ready.waiting
        ∙ ap (k_attempting m i counted) away.goes

    executes : k_attempting m i counted (Goes away.instr away.ranges)
        ≡ k_executing i away.instr away.ranges counted
    executes =
        let needs = operand_needs local.attempt.cpu.prefix away.ranges in
        ap (λ (a : KAsked). k_once_given i a.reject a.kept (k_executing i away.instr away.ranges))
        (all_there m i needs needs counted away.lines)

    -- what is left of the CPU goes into the machine
    abbrev put_by : Bool → Kept
    put_by true = k_continuing i done.after counted
    put_by false = k_stepping i done.after counted

    done_by : (live : Bool) → k_done live i done counted ≡ k_turned (put_by live) outcome.Executed
    done_by true = ap (λ d. k_inside i (next_address counted i) done.after counted d) away.told
    done_by false = ap (λ d. k_outside i done.after counted d) away.told

    live_is : is_live counted.state i ≡ progress.is_live local.attempt
    live_is = ap (λ (x : Numbers). nat_lt 0 x.completed) then_is ∙ ap (nat_lt 0) ready.completed

    was_live : is_live t.state i ≡ progress.is_live local.attempt
    was_live = ap (nat_lt 0) ready.completed

    turns_so : k_happen m (Turn i) t ≡ k_turned (put_by (progress.is_live local.attempt)) outcome.Executed
    unfolding k_happen k_turn k_executing
    turns_so =
        ap (λ o. k_turn_where o m i t) not_idle
        ∙ acts
        ∙ attempts
        ∙ executes
        ∙ ap (λ live. k_done live i done counted) live_is
        ∙ done_by (progress.is_live local.attempt)

    -- ---- the machine behind it

    left : IsLeft (progress.is_live local.attempt) local done.after.local
    left = left_by away.instr away.ranges local t.storage away.plain away.told

    -- the machine with this history, these numbers of the CPU, and what is left of it
    abbrev with_these : List Entry → (ℕ → Numbers) → Kept
    with_these history numbers =
        with_beside i done.after
        (with_state (record t.state {
          history = history;
          events = t.state.events ++ Turn i ∷ [];
          numbers = numbers;
        }) t)

    -- the numbers of the CPU with so many completed
    abbrev numbers_with : ℕ → ℕ → Numbers
    numbers_with completed = at_put t.state.numbers i (record n { completed = completed; turns = n.turns + 1 })

    continued : numbers_with (n.completed + 1) ≡ at_put counted.state.numbers i
        (record (counted.state.numbers i) { completed = (counted.state.numbers i).completed + 1 })
    continued =
        sym (ap (λ (x : Numbers). at_put counted.state.numbers i (record x { completed = x.completed + 1 })) then_is
        ∙ put_twice t.state.numbers i numbers_then (record n { completed = n.completed + 1; turns = n.turns + 1 }))

    count_is : (live : Bool) → IsLeft live local done.after.local
        → count_after live n.completed ≡ done.after.local.attempt.count
    count_is live x = ap (count_after live) ready.completed ∙ sym x.count

    put_so : (live : Bool) → is_live t.state i ≡ live → IsLeft live local done.after.local
        → put_by live ≡ with_turns i 1 done.after t
    put_so true was x =
        ap (with_these t.state.history) (sym continued)
        ∙ ap (λ c. with_these t.state.history (numbers_with c)) (count_is true x)
        ∙ ap (λ h. with_these h (numbers_with done.after.local.attempt.count))
        (sym (append-nil t.state.history) ∙ ap (λ b. t.state.history ++ steps_of b i 1) (sym was))
    put_so false was x =
        ap (λ c. with_these (t.state.history ++ Step i ∷ []) (numbers_with c)) (count_is false x)
        ∙ ap (λ h. with_these h (numbers_with done.after.local.attempt.count))
        (ap (λ b. t.state.history ++ steps_of b i 1) (sym was))

    pub one_turn : k_happen m (Turn i) t
        ≡ k_turned (with_turns i 1 (lent_turn (text_of m) (beside t i)) t) outcome.Executed
    one_turn =
        turns_so
        ∙ ap (λ x. k_turned x outcome.Executed) (put_so (progress.is_live local.attempt) was_live left)
        ∙ ap (λ f. k_turned (with_turns i 1 (lent_by f (beside t i)) t) outcome.Executed) (sym away.goes)
