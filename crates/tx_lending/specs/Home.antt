-- Turns that a CPU has made away, and what the machine is behind them once they are brought home.
use Rattle.std.specs.Prelude.{◌≡◌, ℕ, suc, ◌<◌, true, List, ◌++◌, replicate, Option}
use Rattle.line_table.specs.declared.table.Mode.{Mode}
use Rattle.tx_journal.specs.declared.events.Event.{Event}
use Rattle.tx_journal.specs.declared.events.Event.TheVariants.{Turn}
use Rattle.tx_serial.specs.Flat.{Storage}
use Rattle.tx_progress.specs.Local.{Beside}
use Rattle.tx_progress.specs.Progress as progress
use Rattle.tx_meaning.specs.Limits.{Setting}
use Rattle.tx_meaning.specs.Meaning.{meaning}
use Rattle.tx_meaning.specs.Turn.{happen, turned}
use Rattle.tx_meaning.specs.declared.outcome.Outcome.TheVariants.{Executed}
use Rattle.tx_keeping.specs.Keeping.{keeping}
use Rattle.tx_keeping.specs.Kept.{Kept, text_of}
use Rattle.tx_lending.specs.Away.{GoAway, ran, touched, stored}
use Rattle.tx_lending.specs.Places.{LookAlike, over}
use Rattle.tx_lending.specs.Stranger.{GoesOnLike, SeeAlike, gone_on, upon, waiting}
use Rattle.tx_lending.specs.Turns.{MayMake, with_turns}

-- What as many turns of a CPU behind some events come to: the machine is this then, the events with them mean its
-- state, and each of them is executed, with no reject.
pub record IsNow (m : Setting) (events : List Event) (i k : ℕ) (now : Kept) : Type 0 where
  pub kept : keeping m (events ++ replicate k (Turn i)) ≡ now
  pub meant : meaning m (events ++ replicate k (Turn i)) ≡ now.state
  pub each : (j : ℕ) → j < k → happen m (Turn i) (meaning m (events ++ replicate j (Turn i)))
      ≡ turned (meaning m (events ++ replicate (suc j) (Turn i))) Executed

-- ---- turns of a CPU as the machine has it

-- a CPU of the machine, beside storage of its own
abbrev pub lent : Kept → ℕ → Storage → Beside
lent t i own = record { local = t.locals i; storage = own }

-- So many turns of a CPU were made on storage of its own, each by an instruction that may be made away and with the
-- lines that it needed. The CPU is in the machine as it was, and may have as many turns there; and wherever those
-- have looked, it sees the same byte over the machine's storage as it has seen over its own before the first.
pub record MayComeHome (m : Setting) (i k : ℕ) (own : Storage) (t : Kept) : Type 0 where
  pub needed : ℕ → Option Mode
  pub may : MayMake m i k needed t
  pub away : GoAway (text_of m) needed k (lent t i own)
  pub alike : LookAlike (touched (text_of m) k (lent t i own)) (t.locals i).attempt.overlay own t.storage

-- what is left of the CPU, and of the machine's storage: what has been stored is laid over it
abbrev pub brought : Setting → ℕ → ℕ → Storage → Kept → Beside
brought m i k own t =
    let reached = ran (text_of m) k (lent t i own) in
    record {
      local = reached.local;
      storage = over (stored (text_of m) k (lent t i own)) reached.storage t.storage;
    }

-- the machine behind them
abbrev pub brought_home : Setting → ℕ → ℕ → Storage → Kept → Kept
brought_home m i k own t = with_turns i k (brought m i k own t) t

-- ---- turns of another CPU, inside a transaction

-- So many turns were made by a CPU from somewhere else, inside a transaction, beside storage of its own. That of the
-- machine goes on like it, may have as many turns there, and sees the same bytes wherever they have looked.
pub record MayBeTaken (m : Setting) (i k : ℕ) (from : Beside) (t : Kept) : Type 0 where
  pub needed : ℕ → Option Mode
  pub may : MayMake m i k needed t
  pub live : progress.is_live from.local.attempt ≡ true
  pub away : GoAway (text_of m) needed k from
  pub like : GoesOnLike from.local.attempt (t.locals i).attempt
  pub alike : SeeAlike (touched (text_of m) k from) from.local.attempt.overlay from.storage
      (t.locals i).attempt.overlay t.storage

-- the CPU of the machine has gone on as that one has, with what that has stored over its own stores that wait
abbrev pub taken : Setting → ℕ → ℕ → Beside → Kept → Beside
taken m i k from t =
    let own = t.locals i in
    record {
      local = gone_on (ran (text_of m) k from).local
          (upon (waiting (text_of m) k from) own.attempt.overlay) own;
      storage = t.storage;
    }

abbrev pub with_taken : Setting → ℕ → ℕ → Beside → Kept → Kept
with_taken m i k from t = with_turns i k (taken m i k from t) t
