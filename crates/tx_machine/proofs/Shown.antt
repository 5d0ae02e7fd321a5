-- What is true of all that a machine keeps, and what one event more makes of it.
use Rattle.std.proofs.Common.{◌≡◌, ℕ, ◌<◌, List, [], ◌∷◌, Some, None, refl, sym, ap, ◌∙◌, subst, inl, inr}
use Rattle.std.proofs.Common.{◌++◌}
use Rattle.std.specs.Prelude.{◌⊎◌}
use Rattle.tx_journal.specs.Image.{cpu_of_event}
use Rattle.tx_journal.specs.declared.events.Event.{Event}
use Rattle.tx_journal.specs.declared.events.Event.TheVariants as event
use Rattle.tx_meaning.specs.declared.outcome.Outcome.{Outcome}
use Rattle.tx_meaning.specs.Limits.{Setting}
use Rattle.tx_meaning.specs.Idle.{idle}
use Rattle.tx_meaning.specs.Meaning.{IsSetting, meaning}
use Rattle.tx_meaning.specs.State.{State, cpus_of}
use Rattle.tx_meaning.specs.Turn.{Turned, happen}
use Rattle.tx_meaning.proofs.Books.{turn_booked, external_booked, idle_or_not}
use Rattle.tx_home.specs.Kept.{Kept, kept_beginning}
use Rattle.tx_home.specs.Keeping.{keeping, keeping_from}
use Rattle.tx_home.specs.Turn.{k_happen, k_idle, k_turn, k_turn_where}
use Rattle.tx_meaning.specs.Views.{AreKnown}
use Rattle.tx_home.proofs.Events.{keeping_is, keeping_good, happens_alike, held_so}
use Rattle.tx_home.proofs.Moves.{IsGood}
use Rattle.tx_home.proofs.KeepingRoom.{AllWithin}
use Rattle.tx_home.proofs.Turning.{idle_is}
use Rattle.tx_opacity.proofs.Stopped.{Between, between, some_stop}
use Rattle.tx_home.specs.Works.{Works, kept_by}
use Rattle.tx_machine.specs.Machine.{Stands, nobody}

-- ---- what is true

pub record Shown (m : Setting) (events : List Event) (k : Kept) : Type 0 where
  pub good : IsGood m k
  pub within : AllWithin k.state.held
  pub between : Between m k
  pub is : meaning m events ≡ k.state

pub shown : (m : Setting) (w : Works) (left : ℕ) → Stands m w left → Shown m w.events (kept_by (nobody m) w)
shown m w left s = subst (Shown m w.events) (sym s.kept) record {
  good = keeping_good m s.setting w.events s.events.known;
  within = (held_so m s.setting w.events s.events.known).sound.within;
  between = between m w.events (some_stop m s.setting);
  is = keeping_is m s.setting w.events s.events.known;
}

-- ---- one event more

keeping_more_from : (m : Setting) (events : List Event) (e : Event) (k : Kept)
    → keeping_from m (events ++ e ∷ []) k ≡ (k_happen m e (keeping_from m events k)).kept
unfolding keeping_from
keeping_more_from m [] e k = refl
keeping_more_from m (x ∷ rest) e k = keeping_more_from m rest e (k_happen m x k).kept

pub keeping_more : (m : Setting) (events : List Event) (e : Event)
    → keeping m (events ++ e ∷ []) ≡ (k_happen m e (keeping m events)).kept
keeping_more m events e = keeping_more_from m events e (kept_beginning m)

-- it is idle and changes nothing, or it is recorded
module _ (m : Setting) (s : IsSetting m) (events : List Event) (known : AreKnown m events) where
  abbrev now : Kept
  now = keeping m events

  idle_turn : (i : ℕ) (o : Outcome) → k_idle m now i ≡ Some o → (k_happen m (event.Turn i) now).kept ≡ now
  unfolding k_happen k_turn
  idle_turn i o e = ap (λ x. (k_turn_where x m i now).kept) e

  pub same_state : (e : Event) → cpu_of_event e < cpus_of m
      → (k_happen m e now).kept.state ≡ (happen m e (meaning m events)).state
  same_state e within = ap (λ (t : Turned). t.state) (sym (happens_alike m s events e known within))

  told_events : (meaning m events).events ≡ now.state.events
  told_events = ap (λ (t : State). t.events) (keeping_is m s events known)

  counted : (i : ℕ) → i < cpus_of m → k_idle m now i ≡ None
      → (k_happen m (event.Turn i) now).kept.state.events ≡ now.state.events ++ event.Turn i ∷ []
  unfolding happen
  counted i within e =
      let not_idle : idle m (meaning m events) i ≡ None =
      ap (λ (t : State). idle m t i) (keeping_is m s events known)
      ∙ idle_is m s i now (keeping_good m s events known).truth ∙ e in
      ap (λ (t : State). t.events) (same_state (event.Turn i) within)
      ∙ (turn_booked m i (meaning m events) not_idle).recorded
      ∙ ap (λ es. es ++ event.Turn i ∷ []) told_events

  -- a turn that is not idle, and every event from outside
  abbrev pub IsRecorded : Event → Type 0
  IsRecorded (event.Turn i) = k_idle m now i ≡ None
  IsRecorded (event.External i) = Unit {0}

  pub recorded : (e : Event) → cpu_of_event e < cpus_of m → IsRecorded e
      → (k_happen m e now).kept.state.events ≡ now.state.events ++ e ∷ []
  recorded (event.Turn i) within e = counted i within e
  recorded (event.External i) within e =
      ap (λ (t : State). t.events) (same_state (event.External i) within)
      ∙ (external_booked m i (meaning m events)).recorded
      ∙ ap (λ es. es ++ event.External i ∷ []) told_events

  pub recorded_or_idle : (e : Event) → cpu_of_event e < cpus_of m
      → ((k_happen m e now).kept ≡ now) ⊎ ((k_happen m e now).kept.state.events ≡ now.state.events ++ e ∷ [])
  recorded_or_idle (event.Turn i) within =
      idle_or_not (k_idle m now i)
      (λ o. (k_idle m now i ≡ o) → ((k_happen m (event.Turn i) now).kept ≡ now)
      ⊎ ((k_happen m (event.Turn i) now).kept.state.events ≡ now.state.events ++ event.Turn i ∷ []))
      (λ o is e. inl (idle_turn i o is)) (λ none e. inr (counted i within none)) refl
  recorded_or_idle (event.External i) within = inr (recorded (event.External i) within tt)
