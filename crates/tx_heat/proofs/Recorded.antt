-- What a machine has recorded of its events has the conflicts of all of them.
use Rattle.std.proofs.Common.{◌≡◌, ℕ, List, [], ◌∷◌, ◌++◌, Some, refl, sym, ap, ◌∙◌, append_assoc}
use Rattle.std.specs.List.{flat_map}
use Rattle.std.proofs.lemmas.List.{append-nil}
use Rattle.std.proofs.Math.Seq.{drop-length}
use Rattle.tx_schedule.proofs.Recorded.{recorded_mean}
use Rattle.tx_journal.specs.declared.entries.Entry.{Entry}
use Rattle.tx_journal.specs.declared.events.Event.{Event}
use Rattle.tx_journal.specs.declared.events.Event.TheVariants as event
use Rattle.tx_schedule.proofs.Most.{meaning_more}
use Rattle.tx_schedule.specs.Machine.{Seen, setting_of, state_of}
use Rattle.tx_meaning.proofs.Books.{idle_stays, idle_or_not, turn_booked, external_booked}
use Rattle.tx_meaning.specs.Idle.{idle}
use Rattle.tx_meaning.specs.Limits.{Setting}
use Rattle.tx_meaning.specs.Meaning.{meaning, meaning_from}
use Rattle.tx_meaning.specs.State.{State, beginning}
use Rattle.tx_meaning.specs.Turn.{Turned, happen, turn, turn_where, turned}
use Rattle.tx_meaning.specs.declared.outcome.Outcome.{Outcome}
use Rattle.tx_heat.specs.Conflicts.{Conflict, aborts_by, conflicts, conflicts_from, conflicts_in, entries_in}
use Rattle.tx_heat.specs.Conflicts.{rejects_by}
use Rattle.tx_heat.specs.Heats.{Heated, all_finished, heat_of, heats}

module _ (m : Setting) where
  -- the conflicts of events that go on
  conflicts_on : (events more : List Event) (s : State)
      → conflicts_from m (events ++ more) s
      ≡ conflicts_from m events s ++ conflicts_from m more (meaning_from m events s)
  unfolding conflicts_from meaning_from
  conflicts_on [] more s = refl
  conflicts_on (e ∷ rest) more s =
      let after = (happen m e s).state in
      ap (λ (cs : List Conflict). conflicts_in m s e ++ cs) (conflicts_on rest more after)
      ∙ sym (append_assoc (conflicts_in m s e) (conflicts_from m rest after)
      (conflicts_from m more (meaning_from m rest after)))

  -- those of one event
  of_one : (e : Event) (s : State) → conflicts_from m (e ∷ []) s ≡ conflicts_in m s e
  unfolding conflicts_from
  of_one e s = append-nil (conflicts_in m s e)

  -- the conflicts of what a state has recorded
  abbrev told : State → List Conflict
  told s = conflicts m s.events

  -- an event that is recorded
  told_more : (e : Event) (s : State) → meaning m s.events ≡ s
      → (happen m e s).state.events ≡ s.events ++ e ∷ []
      → told (happen m e s).state ≡ told s ++ conflicts_in m s e
  told_more e s is more =
      ap (λ (es : List Event). conflicts m es) more ∙ conflicts_on s.events (e ∷ []) beginning
      ∙ ap (λ (t : State). told s ++ conflicts_from m (e ∷ []) t) is
      ∙ ap (λ (cs : List Conflict). told s ++ cs) (of_one e s)

  -- a turn is an event
  turn_is : (i : ℕ) (s : State) → happen m (event.Turn i) s ≡ turn m i s
  unfolding happen
  turn_is i s = refl

  -- an idle turn leaves the state as it was
  idle_is : (i : ℕ) (s : State) (o : Outcome) → idle m s i ≡ Some o → turn m i s ≡ turned s o
  unfolding turn
  idle_is i s o e = ap (λ x. turn_where x m i s) e

  -- the conflicts that are told of what came of an event
  abbrev conflicts_of : Event → State → Turned → List Conflict
  conflicts_of e s t = flat_map (aborts_by m s e) (entries_in s t.state) ++ rejects_by m s e t.reject

  -- where nothing has happened there is no conflict
  none_in : (e : Event) (s : State) (o : Outcome) → conflicts_of e s (turned s o) ≡ []
  none_in e s o =
      ap (λ (es : List Entry). flat_map (aborts_by m s e) es ++ []) (drop-length s.history)

  -- so an idle turn has no conflict
  idle_quiet : (i : ℕ) (s : State) (o : Outcome) → idle m s i ≡ Some o → conflicts_in m s (event.Turn i) ≡ []
  unfolding conflicts_in
  idle_quiet i s o e =
      ap (λ (t : Turned). conflicts_of (event.Turn i) s t) (turn_is i s ∙ idle_is i s o e)
      ∙ none_in (event.Turn i) s o

  -- an event that is recorded, or is not, since it changes nothing
  pub told_behind : (e : Event) (s : State) → meaning m s.events ≡ s
      → told (happen m e s).state ≡ told s ++ conflicts_in m s e
  told_behind (event.External i) s is =
      told_more (event.External i) s is (external_booked m i s).recorded
  told_behind (event.Turn i) s is =
      idle_or_not (idle m s i)
      (λ o. told (happen m (event.Turn i) s).state ≡ told s ++ conflicts_in m s (event.Turn i))
      (λ o e.
      ap (λ (t : Turned). told t.state) (turn_is i s) ∙ ap told (idle_stays m i s o e)
      ∙ sym (append-nil (told s)) ∙ ap (λ (cs : List Conflict). told s ++ cs) (sym (idle_quiet i s o e)))
      (λ none.
      told_more (event.Turn i) s is
      (ap (λ (t : Turned). t.state.events) (turn_is i s) ∙ (turn_booked m i s none).recorded))

  -- one event after the other
  all_told : (rest before : List Event) → told (meaning m (before ++ rest))
      ≡ told (meaning m before) ++ conflicts_from m rest (meaning m before)
  unfolding conflicts_from
  all_told [] before =
      ap (λ (es : List Event). told (meaning m es)) (append-nil before)
      ∙ sym (append-nil (told (meaning m before)))
  all_told (e ∷ rest) before =
      let s = meaning m before in
      let after = (happen m e s).state in
      ap (λ (es : List Event). told (meaning m es)) (sym (append_assoc before (e ∷ []) rest))
      ∙ all_told rest (before ++ e ∷ [])
      ∙ ap (λ (t : State). told t ++ conflicts_from m rest t) (meaning_more m before e)
      ∙ ap (λ (cs : List Conflict). cs ++ conflicts_from m rest after)
      (told_behind e s (recorded_mean m before))
      ∙ append_assoc (told s) (conflicts_in m s e) (conflicts_from m rest after)

  -- at the beginning nothing is recorded
  nothing_told : told (meaning m []) ≡ []
  unfolding meaning_from conflicts_from
  nothing_told = refl

  -- and from there on come all conflicts
  from_nothing : (events : List Event) → conflicts_from m events (meaning m []) ≡ conflicts m events
  unfolding meaning_from
  from_nothing events = refl

  -- the recorded events have the conflicts of all
  conflicts_recorded : (events : List Event) → conflicts m (meaning m events).events ≡ conflicts m events
  conflicts_recorded events =
      all_told events []
      ∙ ap (λ (cs : List Conflict). cs ++ conflicts_from m events (meaning m [])) nothing_told
      ∙ from_nothing events

-- the heat of a run by its setting
abbrev pub heat_at : Setting → List Event → Heated
heat_at m events = heat_of m.image m.limits events

-- what was found, and how the CPUs stand behind it
abbrev heated : Setting → List Conflict → State → Heated
heated m found s = record { lines = heats found; finished = all_finished m s }

-- the recorded events have the heat of all
heat_recorded : (m : Setting) (events : List Event) → heat_at m (meaning m events).events ≡ heat_at m events
unfolding heat_of
heat_recorded m events =
    ap (λ (cs : List Conflict). heated m cs (meaning m (meaning m events).events))
    (conflicts_recorded m events)
    ∙ ap (λ (s : State). heated m (conflicts m events) s) (recorded_mean m events)

-- so a machine that has run has the conflicts of the run
pub ran_heat : (m : Setting) (after : Seen) (events : List Event) → setting_of after ≡ m
    → state_of after ≡ meaning m events → heat_of after.image after.limits after.events ≡ heat_at m events
ran_heat m after events setting state =
    sym (heat_recorded (setting_of after) after.events)
    ∙ ap (λ (s : State). heat_at (setting_of after) s.events) state
    ∙ ap (λ (n : Setting). heat_at n (meaning m events).events) setting ∙ heat_recorded m events
