-- Lines that are the texts of a legal history, and the first line that is the text of no entry that fits.
use Rattle.std.specs.Prelude.{◌≡◌, ◌≢◌, ℕ, ◌+◌, ◌<◌, List, [], length, map, take, get_or, All, Some}
use Rattle.tx_journal.specs.Content.{Content}
use Rattle.tx_journal.specs.Lines.{entry_text}
use Rattle.tx_journal.specs.Sound.{IsSound}
use Rattle.tx_journal.specs.declared.entries.Entry.{Entry}
use Rattle.tx_serial.specs.Flat.{FlatState}
use Rattle.tx_serial.specs.History.{replay}
use Rattle.history_laws.specs.Fitting.{Fits}
use Rattle.tx_replay.specs.declared.ends.Ends.{Ends}
use Rattle.tx_replay.specs.declared.replaying.ReplayFault.{ReplayFault}
use Rattle.tx_replay.specs.declared.replaying.ReplayFault.TheVariants.{Memory, Entry as AtEntry}
use Rattle.tx_replay.specs.Ends.{AreEnds}

-- these are entries that a machine can write, one line is the text of each, and applied in order from the
-- image on they leave the state
pub record IsReplay (image : Content) (lines : List (List ℕ)) (entries : List Entry) (after : FlatState)
    : Type 0 where
  pub sound : All IsSound entries
  pub texts : map entry_text entries ≡ lines
  pub replayed : replay image entries ≡ Some after

-- the lines have a history, which leaves the state and has ended so many transactions
pub record IsReplayed (image : Content) (lines : List (List ℕ)) (after : FlatState) (ends : Ends) : Type 0 where
  pub entries : List Entry
  pub replay : IsReplay image lines entries after
  pub ended : AreEnds entries (length image.cpus) ends

-- the line is the text of no such entry that can come next
abbrev pub NoneFits : FlatState → List ℕ → Type 0
NoneFits f line = (entry : Entry) → IsSound entry → Fits f entry → entry_text entry ≢ line

-- the lines before the one with this number, counted from 1, are the texts of a legal history, behind which
-- no entry has that line
pub record IsFirstMisfit (image : Content) (lines : List (List ℕ)) (number : ℕ) : Type 0 where
  pub before : ℕ
  pub counted : number ≡ before + 1
  pub within : before < length lines
  pub entries : List Entry
  pub after : FlatState
  pub replays : IsReplay image (take before lines) entries after
  pub none : NoneFits after (get_or lines before [])

-- what is answered where there is no history
abbrev pub IsRefused : Content → List (List ℕ) → ReplayFault → Type 0
IsRefused image lines Memory = Unit {0}
IsRefused image lines (AtEntry number) = IsFirstMisfit image lines number
