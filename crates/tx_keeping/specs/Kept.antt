-- What a machine keeps: its state, and beside it all that the meaning computes from the history.
use Rattle.std.specs.Prelude.{ℕ, Bool, ◌&&◌, is_none, List}
use Rattle.tx_footprint.specs.Touched.{Sets}
use Rattle.tx_ladder.specs.Rungs.{Standing, fresh}
use Rattle.interrogate.specs.declared.kinds.Asker.{Asker}
use Rattle.tx_ladder.specs.Rungs as ladder
use Rattle.tx_serial.specs.Flat.{Storage, FlatState, at_put}
use Rattle.tx_serial.specs.History.{start_of}
use Rattle.tx_progress.specs.Local.{Local, Beside, settled, flat_from}
use Rattle.tx_meaning.specs.Limits.{Setting}
use Rattle.tx_meaning.specs.State.{State, beginning, is_live, is_head}
use Rattle.tx_meaning.specs.Idle as meaning

-- the state; storage; what is kept of each CPU; and where each stands on the retry ladder
pub record Kept : Type 0 where
  pub state : State
  pub storage : Storage
  pub locals : ℕ → Local
  pub standings : ℕ → Standing

abbrev pub text_of : Setting → List ℕ
text_of m = (start_of m.image).text

unfoldable pub kept_beginning : Setting → Kept
kept_beginning m = record {
  state = beginning;
  storage = (start_of m.image).storage;
  locals = λ i. settled ((start_of m.image).cpus i);
  standings = λ i. fresh m.image.parms;
}

-- ---- what is read of it

abbrev pub kept_flat : Setting → Kept → FlatState
kept_flat m k = flat_from (text_of m) k.storage k.locals

abbrev pub kept_footprint : Kept → ℕ → Sets
kept_footprint k i = (k.locals i).attempt.footprint

abbrev pub kept_asker : Kept → ℕ → Asker
kept_asker k i =
    record { head = is_head k.state i; late = is_live k.state i && ladder.is_late (k.standings i) }

abbrev pub kept_finished : Kept → ℕ → Bool
kept_finished k i =
    let local = k.locals i in
    is_none local.pending && meaning.has_ended local.attempt.cpu.state local.attempt.cpu.prefix

-- ---- what is changed in it

abbrev pub with_state : State → Kept → Kept
with_state s k = record k { state = s }

abbrev pub with_standing : ℕ → Standing → Kept → Kept
with_standing i standing k = record k { standings = at_put k.standings i standing }

-- one CPU with storage beside it
abbrev pub beside : Kept → ℕ → Beside
beside k i = record { local = k.locals i; storage = k.storage }

abbrev pub with_beside : ℕ → Beside → Kept → Kept
with_beside i b k = record k { locals = at_put k.locals i b.local; storage = b.storage }
