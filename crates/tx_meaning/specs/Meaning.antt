-- What events mean.
use Rattle.std.specs.Prelude.{◌<◌, ◌≤◌, Bool, true, false, List, [], ◌∷◌, All, count_by}
use Rattle.tx_serial.specs.Image.{IsImage, cpu_of_event}
use Rattle.tx_serial.specs.Event.{Event}
use Rattle.tx_serial.specs.Event.TheVariants.{Turn, External}
use Rattle.tx_meaning.specs.Limits.{Setting, AreAllowed}
use Rattle.tx_meaning.specs.State.{State, beginning, cpus_of}
use Rattle.tx_meaning.specs.Turn.{happen}

-- the state after events, one after the other
unfoldable pub meaning_from : Setting → List Event → State → State
meaning_from m [] s = s
meaning_from m (e ∷ rest) s = meaning_from m rest (happen m e s).state

-- the state of a machine that starts from its image, after events
abbrev pub meaning : Setting → List Event → State
meaning m events = meaning_from m events beginning

-- ---- what events there may be

abbrev pub is_external : Event → Bool
is_external (Turn i) = false
is_external (External i) = true

-- an image, and limits
pub record IsSetting (m : Setting) : Type 0 where
  pub image : IsImage m.image
  pub limits : AreAllowed m.limits

-- events of CPUs that there are, and no more interruptions from outside than may come
pub record AreEvents (m : Setting) (events : List Event) : Type 0 where
  pub known : All (λ e. cpu_of_event e < cpus_of m) events
  pub externals : count_by is_external events ≤ m.limits.externals
