-- What is shown is what a replay of the history leaves.
use Rattle.std.specs.Prelude.{◌≡◌, ℕ, false, Some}
use Rattle.tx_serial.specs.Flat.{FlatState}
use Rattle.tx_serial.specs.History.{replay}
use Rattle.tx_meaning.specs.Limits.{Setting}
use Rattle.tx_meaning.specs.State.{State, is_live, flat_of, cpu_of}

-- The history of the state, replayed from the image on flat storage, comes to an end. What is shown of storage,
-- of blocks and of interruptions is what it leaves there; and so is each CPU without a live attempt.
pub record IsReplayed (m : Setting) (s : State) : Type 0 where
  pub after : FlatState
  pub replayed : replay m.image s.history ≡ Some after
  pub storage : (flat_of m s).storage ≡ after.storage
  pub pending : (flat_of m s).pending ≡ after.pending
  pub waiting : (flat_of m s).waiting ≡ after.waiting
  pub cpus : (i : ℕ) → is_live s i ≡ false → cpu_of m s i ≡ after.cpus i
