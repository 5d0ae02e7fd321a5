-- What a CPU needs to act in its turn.
use Rattle.std.specs.Prelude.{ℕ, ◌<◌, length, is_some, Bool, Option, Some, None}
use Rattle.z_regs.specs.declared.waiting.Waiting.{Waiting}
use Rattle.tx_works.specs.Works.{Works, Seat, seats_of, kept_by}
use Rattle.tx_works.specs.Ready.{MayAsk, HasTurn, owed}

-- whether an interruption waits, and whether that has a diagnostic block
abbrev pub block_awaited : Option Waiting → Option Bool
block_awaited None = None
block_awaited (Some waiting) = Some (is_some waiting.block)

-- it may ask; there is room for one entry more than may come of all live attempts; and its turn is counted
pub record MayAct (i : ℕ) (w : Works) (rest : Seat) : Type 0 where
  pub asks : MayAsk (length w.slots) i (kept_by rest w)
  pub room : owed w (kept_by rest w) < w.room
  pub turn : HasTurn (seats_of rest w.slots i) 128
