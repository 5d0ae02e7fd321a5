-- What a machine has recorded of its events means what all of them mean.
use Rattle.std.proofs.Common.{◌≡◌, ℕ, List, [], ◌∷◌, ◌++◌, refl, sym, ap, ◌∙◌}
use Rattle.tx_journal.specs.declared.events.Event.{Event}
use Rattle.tx_journal.specs.declared.events.Event.TheVariants as event
use Rattle.tx_meaning.specs.Limits.{Setting}
use Rattle.tx_meaning.specs.Meaning.{meaning, meaning_from}
use Rattle.tx_meaning.specs.State.{State, beginning}
use Rattle.tx_meaning.specs.Idle.{idle}
use Rattle.tx_meaning.specs.Turn.{turn, happen}
use Rattle.tx_meaning.proofs.Books.{idle_stays, idle_or_not, turn_booked, external_booked}
use Rattle.tx_headline.proofs.Runs.{meant_from, one_meant}

module _ (m : Setting) where
  -- the events that a state has recorded lead to it
  abbrev IsRecorded : State → Type 0
  IsRecorded s = meaning m s.events ≡ s

  -- an event that is recorded
  recorded_more : (e : Event) (s : State) → (happen m e s).state.events ≡ s.events ++ e ∷ [] → IsRecorded s
      → IsRecorded (happen m e s).state
  recorded_more e s more is =
      ap (meaning m) more ∙ meant_from m s.events (e ∷ []) beginning ∙ ap (meaning_from m (e ∷ [])) is
      ∙ one_meant m e s

  pub turn_is : (i : ℕ) (s : State) → (happen m (event.Turn i) s).state ≡ (turn m i s).state
  unfolding happen
  turn_is i s = refl

  -- and one that is not, since it changes nothing
  recorded_behind : (e : Event) (s : State) → IsRecorded s → IsRecorded (happen m e s).state
  recorded_behind (event.External i) s is =
      recorded_more (event.External i) s (external_booked m i s).recorded is
  recorded_behind (event.Turn i) s is =
      idle_or_not (idle m s i) (λ o. IsRecorded (happen m (event.Turn i) s).state)
      (λ o e.
      let same = turn_is i s ∙ idle_stays m i s o e in
      ap (λ (t : State). meaning m t.events) same ∙ is ∙ sym same)
      (λ none.
      recorded_more (event.Turn i) s
      (ap (λ (t : State). t.events) (turn_is i s) ∙ (turn_booked m i s none).recorded) is)

  all_recorded : (events : List Event) (s : State) → IsRecorded s → IsRecorded (meaning_from m events s)
  unfolding meaning_from
  all_recorded [] s is = is
  all_recorded (e ∷ rest) s is = all_recorded rest (happen m e s).state (recorded_behind e s is)

  nothing_yet : IsRecorded beginning
  unfolding meaning_from
  nothing_yet = refl

  pub recorded_mean : (events : List Event) → meaning m (meaning m events).events ≡ meaning m events
  recorded_mean events = all_recorded events beginning nothing_yet
