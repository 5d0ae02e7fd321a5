-- What shares count, and what a race makes of a machine.
use Rattle.std.specs.Prelude.{◌≡◌, ℕ, ◌+◌, length, count_by, if◌then◌else◌}
use Rattle.tx_journal.specs.Content.{Content}
use Rattle.tx_meaning.specs.IdleOutcomes.{is_idle_outcome}
use Rattle.tx_meaning.specs.Meaning.{is_external}
use Rattle.tx_meaning.specs.declared.outcome.Outcome.{Outcome}
use Rattle.tx_schedule.specs.Machine.{Seen, setting_of}
use Rattle.tx_schedule.specs.DeclaredLending.Home.{Home}
use Rattle.tx_schedule.specs.DeclaredLending.Home.TheVariants as home

-- one share for the worker of each CPU, and a last one for the thread that called
abbrev pub shares_for : Content → ℕ
shares_for image = length image.cpus + 1

-- how many events are recorded by a turn with this outcome
abbrev pub recorded_by : Outcome → ℕ
recorded_by o = if is_idle_outcome o then 0 else 1

-- how many turns a run that came home so has made
abbrev pub taken_in : Home → ℕ
taken_in (home.Taken k) = k
taken_in (home.Discarded place kept given) = 0

-- the same image and the same limits
abbrev pub IsOfSameRun : Seen → Seen → Type 0
IsOfSameRun before after = setting_of after ≡ setting_of before

-- no event came from outside
abbrev pub HasTurnsAlone : Seen → Type 0
HasTurnsAlone machine = count_by is_external machine.events ≡ 0
