-- A run that is looked at behind each of its recorded events.
use Rattle.std.specs.Prelude.{◌≡◌, ℕ, ◌+◌, ◌-◌, ◌<◌, ◌≤◌, List, length, take, min, get_or, refl}
use Rattle.std.specs.Coded.{Coded, code_by, coded×, coded_ℕ, coded_list}
use Rattle.tx_journal.specs.contracts.events.Event as event
use Rattle.tx_journal.specs.Content.{Content, content_code}
use Rattle.tx_journal.specs.declared.events.Event.{Event}
use Rattle.tx_meaning.specs.Limits.{RunLimits, Setting}
use Rattle.tx_meaning.specs.Meaning.{meaning}
use Rattle.tx_meaning.specs.State.{State}
use Rattle.tx_machine.specs.Machine.{Seen, setting_of}
use Rattle.step_changes.specs.Seen.{Sight}
use Rattle.step_changes.specs.Steps.{forward_by, back_by}
use Rattle.step_changes.specs.declared.view.Step.{Step}
use Rattle.tx_step.specs.Sights.{sight_of}

-- its image, its limits, the recorded events, and how many of them are behind
pub record Traced : Type 0 where
  pub image : Content
  pub limits : RunLimits
  pub events : List Event
  pub position : ℕ

abbrev pub setting_in : Traced → Setting
setting_in t = record { image = t.image; limits = t.limits }

-- what the events behind the position mean
abbrev pub state_at : Traced → State
state_at t = meaning (setting_in t) (take t.position t.events)

-- a run with all its events ahead
abbrev pub at_start : Content → RunLimits → List Event → Traced
at_start image limits events = record {
  image = image;
  limits = limits;
  events = (meaning (record { image = image; limits = limits }) events).events;
  position = 0;
}

abbrev pub moved_to : ℕ → Traced → Traced
moved_to position t = record t { position = position }

-- so many forward, to the end at most, and so many back, to the start at most
abbrev pub forward_from : ℕ → Traced → Traced
forward_from n t = moved_to (min (t.position + n) (length t.events)) t

abbrev pub back_from : ℕ → Traced → Traced
back_from n t = moved_to (t.position - n) t

-- ---- a code, by which the check tells values apart

abbrev limits_code : Coded RunLimits
limits_code =
    code_by (ℕ × (ℕ × ℕ)) (coded× coded_ℕ (coded× coded_ℕ coded_ℕ))
    (λ l. (l.turns, (l.tick, l.externals)))
    (λ p. record { turns = p.0; tick = p.1.0; externals = p.1.1 })
    (λ _. refl)

abbrev pub traced_code : Coded Traced
traced_code =
    code_by (Content × (RunLimits × (List Event × ℕ)))
    (coded× content_code (coded× limits_code (coded× (coded_list event.the_row.coded) coded_ℕ)))
    (λ t. (t.image, (t.limits, (t.events, t.position))))
    (λ p. record { image = p.0; limits = p.1.0; events = p.1.1.0; position = p.1.1.1 })
    (λ _. refl)

-- ---- what is kept

-- what is shown behind so many of the events
abbrev pub sight_behind : Setting → List Event → ℕ → Sight
sight_behind m events p = sight_of m (meaning m (take p events))

-- a step leads over the event at a place, forward and back
pub record IsStepAt (m : Setting) (events : List Event) (p : ℕ) (s : Step) : Type 0 where
  pub forward : forward_by s (sight_behind m events p) ≡ sight_behind m events (p + 1)
  pub back : back_by s (sight_behind m events (p + 1)) ≡ sight_behind m events p

-- each step leads over the event at its place
abbrev pub AreSteps : Setting → List Event → List Step → Type 0
AreSteps m events steps = (p : ℕ) (s : Step) → p < length steps → get_or steps p s ≡ s → IsStepAt m events p s

-- there is a step for each event, and what is shown is what is shown behind those that are behind
pub record IsTraced (machine : Seen) (sight : Sight) (steps : List Step) (position : ℕ) : Type 0 where
  pub count : length steps ≡ length machine.events
  pub lead : AreSteps (setting_of machine) machine.events steps
  pub within : position ≤ length steps
  pub shown : sight ≡ sight_behind (setting_of machine) machine.events position
