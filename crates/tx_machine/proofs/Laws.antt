-- What holds behind every event.
use Rattle.std.proofs.Common.{◌≡◌, ℕ, ◌+◌, ◌*◌, ◌<◌, ◌≤◌, Bool, true, false, [], ◌∷◌, None, ap, ◌∙◌, subst, refl}
use Rattle.std.proofs.lemmas.List.Elements.{All-nil, All-cons, All-push}
use Rattle.tx_journal.specs.Image.{cpu_of_event}
use Rattle.tx_journal.specs.declared.events.Event.{Event}
use Rattle.tx_journal.specs.declared.events.Event.TheVariants as event
use Rattle.tx_serial.specs.History.{IsLegal}
use Rattle.tx_meaning.specs.Hits.{hits}
use Rattle.tx_meaning.specs.Limits.{Setting}
use Rattle.tx_meaning.specs.Meaning.{meaning}
use Rattle.tx_meaning.specs.Queues.{QueueMoves}
use Rattle.tx_meaning.specs.State.{State, cpus_of, is_head, is_live}
use Rattle.tx_meaning.specs.Changes.{with_event}
use Rattle.tx_meaning.specs.Stretches.{stretch_of, left, bound, attempt_turns, counted, is_counted_turn}
use Rattle.tx_meaning.specs.Turn.{happen, interrupting}
use Rattle.tx_meaning.proofs.Heads.{head_unrejected}
use Rattle.tx_meaning.proofs.Queues.{queue_moves}
use Rattle.tx_home.specs.Kept.{Kept}
use Rattle.tx_home.specs.Turn.{k_happen}
use Rattle.tx_meaning.specs.Views.{GoesOnWith, KeepsViews, HoldsTouched}
use Rattle.tx_home.proofs.Events.{legal, grows_only, views_kept, touched_held}
use Rattle.tx_meaning.specs.Heads.{head_turns}
use Rattle.tx_opacity.proofs.Heads.{heads_in_all}
use Rattle.tx_opacity.proofs.Meant.{stops}
use Rattle.tx_opacity.proofs.Stretched.{ages_within}
use Rattle.tx_ladder.specs.Waiting.{waits_in}
use Rattle.tx_opacity.specs.Opacity.{SeesOneRun}
use Rattle.tx_opacity.proofs.Opaque.{opaque}
use Rattle.tx_headline.specs.Queue.{QueueChanges, others_before}
use Rattle.tx_headline.proofs.Bounds.{turns_left, ages_short}
use Rattle.tx_headline.proofs.Queue.{queue_changes, before_most}
use Rattle.tx_home.specs.Works.{Works, kept_by}
use Rattle.tx_machine.specs.Machine.{Stands, nobody}
use Rattle.tx_machine.proofs.Most.{meaning_more}
use Rattle.tx_machine.proofs.Read.{reads_state}
use Rattle.tx_machine.proofs.Happened.{tells}

-- the events that are recorded behind an event mean what the event makes of what was before
pub means : (m : Setting) (w later : Works) (before after : ℕ) → Stands m w before → Stands m later after
    → (e : Event) → cpu_of_event e < cpus_of m
    → kept_by (nobody m) later ≡ (k_happen m e (kept_by (nobody m) w)).kept
    → meaning m later.events ≡ (happen m e (meaning m w.events)).state
means m w later before after s t e within is =
    reads_state m later after t ∙ ap (λ (k : Kept). k.state) is
    ∙ ap (λ r. r.state) (tells m w before s e within)

pub interrupted_by : (live : Bool) (m : Setting) (i : ℕ) (s : State) → (interrupting live m i s).reject ≡ None
interrupted_by true m i s = refl
interrupted_by false m i s = refl

-- the head of the stop queue is never rejected
pub unrejected_head : (m : Setting) (s : State) (e : Event) → is_head s (cpu_of_event e) ≡ true
    → (happen m e s).reject ≡ None
unfolding happen
unrejected_head m s (event.Turn i) head = head_unrejected m s i head
unrejected_head m s (event.External i) head = interrupted_by (is_live s i) m i (with_event (event.External i) s)

-- of a machine
module _ (m : Setting) (w : Works) (remaining : ℕ) (s : Stands m w remaining) where
  pub is_legal : IsLegal m.image (meaning m w.events).history
  is_legal = legal m s.setting w.events s.events.known

  pub is_held : HoldsTouched m (meaning m w.events)
  is_held = touched_held m s.setting w.events s.events.known

  pub few_hits : (i : ℕ) → hits m.image (meaning m w.events).history i ≤ m.image.parms.stop
  few_hits i = (stops m w.events s.setting s.events.known).counted.few i

  pub few_turns_left : (i : ℕ) → (stretch_of m w.events i).is_open ≡ true
      → (stretch_of m w.events i).age + left m (meaning m w.events) i
      ≤ bound m.image.parms + attempt_turns m.image.parms * (stretch_of m w.events i).externals
  few_turns_left i is = ages_within m w.events i s.setting s.events.known is

  pub some_turns_left : (i : ℕ) → (stretch_of m w.events i).is_open ≡ true → 1 ≤ left m (meaning m w.events) i
  some_turns_left i is = turns_left m w.events i s.setting s.events.known is

  pub short_ages : (i : ℕ) → (stretch_of m w.events i).is_open ≡ true
      → (stretch_of m w.events i).age
      < bound m.image.parms + attempt_turns m.image.parms * (stretch_of m w.events i).externals
  short_ages i is = ages_short m w.events i s.setting s.events.known is

  pub few_before : (i : ℕ) → waits_in (meaning m w.events).queue i ≡ true
      → others_before i (meaning m w.events).queue < cpus_of m
  few_before i waits = before_most m s.setting w.events s.events.known i waits

-- behind one event more
module _ (m : Setting) (w : Works) (remaining : ℕ) (s : Stands m w remaining) (e : Event)
    (within : cpu_of_event e < cpus_of m) where
  pub history_grows : GoesOnWith (meaning m w.events).history (happen m e (meaning m w.events)).state.history
  history_grows =
      subst (λ (t : State). GoesOnWith (meaning m w.events).history t.history) (meaning_more m w.events e)
      (grows_only m s.setting w.events (e ∷ []) s.events.known
      (All-cons (λ x. cpu_of_event x < cpus_of m) e [] within (All-nil (λ x. cpu_of_event x < cpus_of m))))

  pub views_stay : KeepsViews m (meaning m w.events) (happen m e (meaning m w.events)).state
  views_stay = views_kept m s.setting w.events e s.events.known within

  pub one_run : SeesOneRun m (meaning m w.events) (happen m e (meaning m w.events)).state
  one_run = opaque m s.setting w.events e s.events.known within

  pub few_turns_of_heads : (i : ℕ) → head_turns m w.events i
      + counted (is_counted_turn m (meaning m w.events) e i) ≤ 34
  few_turns_of_heads i = heads_in_all m s.setting i w.events e s.events.known

  pub queue_at_its_ends : QueueMoves (meaning m w.events).queue (happen m e (meaning m w.events)).state.queue
  queue_at_its_ends = queue_moves m e (meaning m w.events)

  pub queue_with_reasons : QueueChanges m (meaning m w.events) e
  queue_with_reasons =
      queue_changes m s.setting w.events e
      (All-push (λ x. cpu_of_event x < cpus_of m) w.events e s.events.known within)
