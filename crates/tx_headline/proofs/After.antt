-- Events that are known, and what one of them leaves of a CPU.
use Rattle.std.proofs.Common.{◌≡◌, ℕ, ◌<◌, List, [], ◌∷◌, ◌++◌, sym, ap, ◌∙◌, subst, append_assoc}
use Rattle.tx_journal.specs.Image.{cpu_of_event}
use Rattle.tx_journal.specs.declared.events.Event.{Event}
use Rattle.tx_meaning.specs.Limits.{Setting}
use Rattle.tx_meaning.specs.Meaning.{IsSetting, meaning}
use Rattle.tx_meaning.specs.State.{cpus_of}
use Rattle.tx_meaning.specs.Stretches.{stretch_of}
use Rattle.tx_meaning.specs.Turn.{happen}
use Rattle.tx_meaning.specs.Views.{AreKnown}
use Rattle.tx_bounds.specs.Kept.{Kept}
use Rattle.tx_bounds.specs.Keeping.{keeping}
use Rattle.tx_bounds.specs.Turn.{k_happen}
use Rattle.tx_bounds.proofs.Events.{keeping_is, keeping_good}
use Rattle.tx_bounds.proofs.OwnTurns.{After}
use Rattle.tx_bounds.proofs.Stopped.{between, some_stop}
use Rattle.tx_bounds.proofs.Stretched.{after_event, held_over, some_starve, cost_of, most_of}
use Rattle.tx_headline.proofs.Lists.{all_first, all_later}
use Rattle.tx_headline.proofs.Runs.{meant_more, kept_more}

module _ (m : Setting) where
  abbrev IsKnown : Event → Type 0
  IsKnown e = cpu_of_event e < cpus_of m

  pub known_first : (events rest : List Event) → AreKnown m (events ++ rest) → AreKnown m events
  known_first events rest known = all_first IsKnown events rest known

  pub known_later : (events rest : List Event) → AreKnown m (events ++ rest) → AreKnown m rest
  known_later events rest known = all_later IsKnown events rest known

  -- the same events, with one of them moved to the first part
  pub known_moved : (events : List Event) (e : Event) (rest : List Event) → AreKnown m (events ++ e ∷ rest)
      → AreKnown m ((events ++ e ∷ []) ++ rest)
  known_moved events e rest known = subst (AreKnown m) (sym (append_assoc events (e ∷ []) rest)) known

module _ (m : Setting) (s : IsSetting m) (events : List Event) (e : Event)
    (known : AreKnown m (events ++ e ∷ [])) where
  abbrev k : Kept
  k = keeping m events

  abbrev u : Kept
  u = (k_happen m e k).kept

  -- the events before are known
  pub first_known : AreKnown m events
  first_known = known_first m events (e ∷ []) known

  -- what the event comes to, and what it leaves, is what is kept
  pub kept_before : meaning m events ≡ k.state
  kept_before = keeping_is m s events first_known

  pub kept_behind : (happen m e (meaning m events)).state ≡ u.state
  kept_behind = sym (meant_more m events e) ∙ keeping_is m s (events ++ e ∷ []) known
      ∙ ap (λ (x : Kept). x.state) (kept_more m events e)

  -- what it leaves of a CPU
  pub left_behind : (c : ℕ)
      → After m c (stretch_of m events c).is_open (cost_of m k e c) (most_of m k e c) k.state u
  left_behind c =
      let over = held_over m s c (some_starve m s) events first_known in
      after_event m s c (stretch_of m events c).is_open (some_starve m s) e k
      (keeping_good m s events first_known).truth (between m events (some_stop m s)) over.holds over.calm
