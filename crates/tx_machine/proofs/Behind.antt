-- What holds behind one event more of a machine.
use Rattle.std.proofs.Common.{◌≡◌, ℕ, ◌+◌, ◌<◌, ◌≤◌, Bool, List, Option, None, true, [], subst}
use Rattle.std.specs.Prelude.{◌⊎◌}
use Rattle.tx_journal.specs.Image.{cpu_of_event}
use Rattle.tx_journal.specs.declared.events.Event.{Event}
use Rattle.tx_meaning.specs.Limits.{Setting}
use Rattle.tx_meaning.specs.Meaning.{meaning}
use Rattle.tx_meaning.specs.Queues.{QueueMoves}
use Rattle.tx_meaning.specs.State.{State, cpus_of, is_head}
use Rattle.tx_meaning.specs.Stretches.{counted, is_counted_turn}
use Rattle.tx_meaning.specs.Turn.{happen}
use Rattle.tx_meaning.specs.Heads.{head_turns}
use Rattle.tx_meaning.specs.Views.{GoesOnWith, KeepsViews}
use Rattle.tx_meaning.specs.declared.asking.Reject.{Reject}
use Rattle.tx_opacity.specs.Opacity.{SeesOneRun}
use Rattle.tx_headline.specs.Queue.{QueueChanges}
use Rattle.tx_headline.proofs.Bounds.{turns_of_head}
use Rattle.tx_home.specs.Works.{Works}
use Rattle.tx_machine.specs.Machine.{Seen, Stands, setting_of, state_of, event_of}
use Rattle.tx_machine.proofs.Laws.{history_grows, views_stay, one_run, queue_at_its_ends, few_turns_of_heads}
use Rattle.tx_machine.proofs.Laws.{unrejected_head, queue_with_reasons}

-- the event comes to a CPU that there is, and what it makes is what the recorded events mean then
pub record Comes (m : Setting) (w : Works) (remaining : ℕ) (e : Event) (after : State) : Type 0 where
  pub stands : Stands m w remaining
  pub known : cpu_of_event e < cpus_of m
  pub means : (happen m e (meaning m w.events)).state ≡ after

module _ (m : Setting) (w : Works) (remaining : ℕ) (e : Event) (after : State) (comes : Comes m w remaining e after)
    (r : Option Reject) (away : List Bool) (old : Seen)
    (is : record { image = m.image; limits = m.limits; events = w.events; reject = r; away = away } ≡ old) where
  pub grows : GoesOnWith (state_of old).history after.history
  grows =
      subst (λ (s : Seen). GoesOnWith (state_of s).history after.history) is
      (subst (λ (t : State). GoesOnWith (meaning m w.events).history t.history) comes.means
      (history_grows m w _ comes.stands e comes.known))

  pub keeps_views : KeepsViews (setting_of old) (state_of old) after
  keeps_views =
      subst (λ (s : Seen). KeepsViews (setting_of s) (state_of s) after) is
      (subst (KeepsViews m (meaning m w.events)) comes.means (views_stay m w _ comes.stands e comes.known))

  pub sees_one_run : SeesOneRun (setting_of old) (state_of old) after
  sees_one_run =
      subst (λ (s : Seen). SeesOneRun (setting_of s) (state_of s) after) is
      (subst (SeesOneRun m (meaning m w.events)) comes.means (one_run m w _ comes.stands e comes.known))

  pub moves_queue : QueueMoves (state_of old).queue after.queue
  moves_queue =
      subst (λ (s : Seen). QueueMoves (state_of s).queue after.queue) is
      (subst (λ (t : State). QueueMoves (meaning m w.events).queue t.queue) comes.means
      (queue_at_its_ends m w _ comes.stands e comes.known))

  pub changes_queue : QueueChanges (setting_of old) (state_of old) e
  changes_queue =
      subst (λ (s : Seen). QueueChanges (setting_of s) (state_of s) e) is
      (queue_with_reasons m w _ comes.stands e comes.known)

  pub head_alone : (i : ℕ) → is_counted_turn (setting_of old) (state_of old) e i ≡ true
      → ((state_of old).queue ≡ []) ⊎ (is_head (state_of old) i ≡ true)
  head_alone =
      subst (λ (s : Seen). (i : ℕ) → is_counted_turn (setting_of s) (state_of s) e i ≡ true
      → ((state_of s).queue ≡ []) ⊎ (is_head (state_of s) i ≡ true)) is (turns_of_head m (meaning m w.events) e)

  pub few_of_head : (i : ℕ) → head_turns (setting_of old) old.events i
      + counted (is_counted_turn (setting_of old) (state_of old) e i) ≤ 34
  few_of_head i =
      subst (λ (s : Seen). head_turns (setting_of s) s.events i
      + counted (is_counted_turn (setting_of s) (state_of s) e i) ≤ 34) is
      (few_turns_of_heads m w _ comes.stands e comes.known i)

  pub head_unrejected : is_head (state_of old) (cpu_of_event e) ≡ true → (event_of old e).reject ≡ None
  head_unrejected =
      subst (λ (s : Seen). is_head (state_of s) (cpu_of_event e) ≡ true → (event_of s e).reject ≡ None) is
      (unrejected_head m (meaning m w.events) e)
