-- Planned schedules are of CPUs that there are.
use Rattle.std.proofs.Common.{ℕ, ◌<◌, Bool, true, false, List, [], ◌∷◌, Option, Some, None, sym}
use Rattle.std.proofs.Common.{subst}
use Rattle.std.specs.Prelude.{if◌then◌else◌}
use Rattle.std.proofs.lemmas.List.Elements.{All-nil, All-cons}
use Rattle.tx_journal.specs.Image.{IsImage, cpu_of_event}
use Rattle.tx_journal.specs.declared.events.Event.{Event}
use Rattle.tx_meaning.specs.Limits.{Setting}
use Rattle.tx_meaning.specs.Schedules.{AreReadyTurns, IsReadyTurn, planned, planned_by}
use Rattle.tx_meaning.specs.State.{State, beginning, cpus_of}
use Rattle.tx_meaning.specs.Turn.{happen}
use Rattle.tx_meaning.proofs.Schedules.{drawn_leads, round_leads}
use Rattle.tx_meaning.specs.Views.{AreKnown}

module _ (m : Setting) where
  known_by : (s : State) (e : Event) → IsReadyTurn m s e → cpu_of_event e < cpus_of m
  known_by s e r = subst (λ (x : Event). cpu_of_event x < cpus_of m) (sym r.turn) r.known

  pub ready_are_known : (events : List Event) (s : State) → AreReadyTurns m events s → AreKnown m events
  ready_are_known [] s ready = All-nil (λ x. cpu_of_event x < cpus_of m)
  ready_are_known (e ∷ rest) s ready =
      All-cons (λ x. cpu_of_event x < cpus_of m) e rest (known_by s e ready.0)
      (ready_are_known rest (happen m e s).state ready.1)

  made_known : (seed : Option ℕ) → AreKnown m (planned_by seed m)
  made_known (Some seed) = ready_are_known _ beginning (drawn_leads m seed)
  made_known None = ready_are_known _ beginning (round_leads m)

  pub given_or_made : (given : Bool) (seed : Option ℕ) → AreKnown m m.image.schedule
      → AreKnown m (if given then m.image.schedule else planned_by seed m)
  given_or_made true seed known = known
  given_or_made false seed known = made_known seed

pub planned_known : (m : Setting) (seed : Option ℕ) → IsImage m.image → AreKnown m (planned m seed)
planned_known m seed image = given_or_made m m.image.scheduled seed image.known
