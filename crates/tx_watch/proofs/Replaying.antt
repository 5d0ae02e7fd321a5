-- A run that is made once more, and what a window of all turns has.
use Rattle.std.proofs.Common.{◌≡◌, ℕ, ◌+◌, ◌-◌, ◌<◌, ◌≤◌, true, Some, length, get_or, refl, ap, ap₂}
use Rattle.std.proofs.Common.{◌∙◌, arith}
use Rattle.std.specs.Prelude.{count_by, slice_get}
use Rattle.std.proofs.lemmas.List.{take_all}
use Rattle.std.proofs.lemmas.Option.{get_or_from_slice_get}
use Rattle.tx_journal.specs.declared.events.Event.{Event}
use Rattle.tx_meaning.specs.Meaning.{meaning, meaning_from, is_external}
use Rattle.tx_step.specs.Machine.{Seen, setting_of, state_of, event_of, after, opened}
use Rattle.tx_step.proofs.Followed.{Follows, begins_following, follows_on, may_come}
use Rattle.tx_watch.specs.Replay.{Replays}
use Rattle.tx_watch.specs.Window.{start_of, turns_in, entries_behind, entries_in}
use Rattle.tx_watch.specs.declared.window.Window.{Window}

-- a machine from which nothing has happened has the first none of the events
pub replays_first : (machine replay : Seen) → replay ≡ opened machine.image machine.limits
    → Replays machine 0 replay
replays_first machine replay is =
    let f = begins_following machine.image machine.limits machine.events replay is in
    record { setting = f.setting; recorded = f.recorded; state = f.state }

module _ (machine : Seen) (k : ℕ) (replay : Seen) (replays : Replays machine k replay) where
  -- it follows the events that the first machine has recorded
  follows : Follows (setting_of machine) machine.events k replay
  follows = record { setting = replays.setting; recorded = replays.recorded; state = replays.state }

  module _ (e : Event) (within : k < length machine.events) (at : slice_get machine.events k ≡ Some e) where
    -- the event at the place, read in the other way
    is_there : get_or machine.events k e ≡ e
    is_there = get_or_from_slice_get machine.events k e e at

    -- one event more
    pub replays_on : (next : Seen) → next ≡ after replay e → state_of next ≡ (event_of replay e).state
        → Replays machine (k + 1) next
    replays_on next next_is state_is =
        let m = setting_of machine in
        let f = follows_on m machine.events k e within is_there replay follows next next_is state_is in
        record { setting = f.setting; recorded = f.recorded; state = f.state }

    -- an interruption from outside may still come
    pub may_happen : is_external e ≡ true → count_by is_external machine.events ≤ machine.limits.externals
        → count_by is_external replay.events < replay.limits.externals
    may_happen external few =
        may_come (setting_of machine) machine.events k e within is_there replay follows external few

-- a window of all turns has the whole history
pub whole_history : (w : Window) (machine : Seen) → w.first ≤ 1 → length machine.events ≤ w.last
    → length machine.events ≤ 2000
    → entries_in w (setting_of machine) machine.events ≡ length (state_of machine).history
unfolding meaning_from
whole_history w machine first last few =
    let m = setting_of machine in
    let n = length machine.events in
    let start : start_of w n ≡ 0 = omega arith in
    let turns : turns_in w n ≡ n = omega arith in
    let behind = entries_behind m machine.events in
    let all : behind n ≡ length (state_of machine).history =
    ap (λ l. length (meaning m l).history) (take_all n machine.events (omega arith)) in
    let none : behind 0 ≡ 0 = refl in
    let zero : 0 + n ≡ n = omega arith in
    let whole : length (state_of machine).history - 0 ≡ length (state_of machine).history = omega arith in
    ap₂ (λ s t. behind (s + t) - behind s) start turns
    ∙ ap (λ k. behind k - behind 0) zero
    ∙ ap₂ (λ a b. a - b) all none
    ∙ whole
