-- One event more, at the end of a run.
use Rattle.std.proofs.Common.{◌≡◌, ℕ, List, [], ◌∷◌, ◌++◌, refl, ◌∙◌}
use Rattle.tx_journal.specs.declared.events.Event.{Event}
use Rattle.tx_meaning.specs.Limits.{Setting}
use Rattle.tx_meaning.specs.Meaning.{meaning, meaning_from}
use Rattle.tx_meaning.specs.State.{State, beginning}
use Rattle.tx_meaning.specs.Stretches.{Stretch, closed, stretch_of, stretch_from, stretch_after}
use Rattle.tx_meaning.specs.Turn.{happen}
use Rattle.tx_bounds.specs.Kept.{Kept, kept_beginning}
use Rattle.tx_bounds.specs.Keeping.{keeping, keeping_from}
use Rattle.tx_bounds.specs.Turn.{k_happen}

module _ (m : Setting) where
  pub meant_from : (events more : List Event) (s : State)
      → meaning_from m (events ++ more) s ≡ meaning_from m more (meaning_from m events s)
  unfolding meaning_from
  meant_from [] more s = refl
  meant_from (x ∷ rest) more s = meant_from rest more (happen m x s).state

  -- the meaning of events that go on
  pub meant_on : (events more : List Event)
      → meaning m (events ++ more) ≡ meaning_from m more (meaning m events)
  meant_on events more = meant_from events more beginning

  pub one_meant : (e : Event) (s : State) → meaning_from m (e ∷ []) s ≡ (happen m e s).state
  unfolding meaning_from
  one_meant e s = refl

  pub meant_more : (events : List Event) (e : Event)
      → meaning m (events ++ e ∷ []) ≡ (happen m e (meaning m events)).state
  meant_more events e = meant_on events (e ∷ []) ∙ one_meant e (meaning m events)

  kept_from : (events : List Event) (e : Event) (k : Kept)
      → keeping_from m (events ++ e ∷ []) k ≡ (k_happen m e (keeping_from m events k)).kept
  unfolding keeping_from
  kept_from [] e k = refl
  kept_from (x ∷ rest) e k = kept_from rest e (k_happen m x k).kept

  -- what is kept
  pub kept_more : (events : List Event) (e : Event)
      → keeping m (events ++ e ∷ []) ≡ (k_happen m e (keeping m events)).kept
  kept_more events e = kept_from events e (kept_beginning m)

  stretched_from : (events : List Event) (e : Event) (i : ℕ) (s : State) (stretch : Stretch)
      → stretch_from m i (events ++ e ∷ []) s stretch
      ≡ stretch_after m (meaning_from m events s) e i (stretch_from m i events s stretch)
  unfolding stretch_from meaning_from
  stretched_from [] e i s stretch = refl
  stretched_from (x ∷ rest) e i s stretch =
      stretched_from rest e i (happen m x s).state (stretch_after m s x i stretch)

  -- a CPU's stretch
  pub stretched_more : (events : List Event) (e : Event) (i : ℕ)
      → stretch_of m (events ++ e ∷ []) i ≡ stretch_after m (meaning m events) e i (stretch_of m events i)
  stretched_more events e i = stretched_from events e i beginning closed
