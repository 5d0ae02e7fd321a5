-- How long a machine runs, and what no event of it changes.
use Rattle.std.specs.Prelude.{ℕ, ◌≤◌}
use Rattle.tx_serial.specs.Content.{Content}

-- the counted turns of each CPU, the turns from one tick to the next, which is 0 where there are none, and
-- the
-- external events
pub record RunLimits : Type 0 where
  pub turns : ℕ
  pub tick : ℕ
  pub externals : ℕ

-- the most counted turns of a CPU, the longest time between two ticks, and the most external events
abbrev pub turn_limit : ℕ
turn_limit = 200000

abbrev pub tick_limit : ℕ
tick_limit = 1000000

abbrev pub external_limit : ℕ
external_limit = 4194304

pub record AreAllowed (limits : RunLimits) : Type 0 where
  pub some_turn : 1 ≤ limits.turns
  pub few_turns : limits.turns ≤ turn_limit
  pub few_ticks : limits.tick ≤ tick_limit
  pub few_externals : limits.externals ≤ external_limit

-- what a machine starts from
pub record Setting : Type 0 where
  pub image : Content
  pub limits : RunLimits
