-- How a listing is run.
use Rattle.std.specs.Prelude.{ℕ, ◌≤◌, count_by}
use Rattle.tx_journal.specs.Content.{Content}
use Rattle.tx_meaning.specs.Limits.{Setting}
use Rattle.tx_meaning.specs.Meaning.{is_external}
use Rattle.tx_meaning.specs.Limits.{turn_limit, tick_limit}

-- as many interruptions from outside may come as the listing's schedule has
abbrev pub externals_in : Content → ℕ
externals_in image = count_by is_external image.schedule

-- so many counted turns for each CPU, and this time between two ticks
abbrev pub running : Content → ℕ → ℕ → Setting
running image turns tick =
    record { image = image; limits = record { turns = turns; tick = tick; externals = externals_in image } }

-- the turns and the tick of a run that names neither
abbrev pub usual_turns : ℕ
usual_turns = 200000

abbrev pub AreLimits : ℕ → ℕ → Type 0
AreLimits turns tick = (1 ≤ turns) × (turns ≤ turn_limit) × (tick ≤ tick_limit)
