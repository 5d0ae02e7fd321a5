-- The machine that keeps, over events; and what joins it with the meaning.
use Rattle.std.specs.Prelude.{◌≡◌, ℕ, ◌≤◌, true, List, [], ◌∷◌, Some, None, is_some}
use Rattle.line_table.specs.declared.table.Mode.TheVariants.{Exclusive}
use Rattle.line_table.specs.Holders.{IsSound}
use Rattle.tx_ladder.specs.Rungs.{Standing}
use Rattle.tx_journal.specs.declared.events.Event.{Event}
use Rattle.tx_serial.specs.History.{replay}
use Rattle.tx_progress.specs.Reached.{IsFollowed}
use Rattle.tx_meaning.specs.Limits.{Setting}
use Rattle.tx_meaning.specs.State.{is_live, standing_of, cpus_of}
use Rattle.tx_keeping.specs.Kept.{Kept, kept_beginning, kept_flat}
use Rattle.tx_keeping.specs.Turn.{k_happen}

unfoldable pub keeping_from : Setting → List Event → Kept → Kept
keeping_from m [] k = k
keeping_from m (e ∷ rest) k = keeping_from m rest (k_happen m e k).kept

-- all that is kept after events
abbrev pub keeping : Setting → List Event → Kept
keeping m events = keeping_from m events (kept_beginning m)

-- ---- what is kept is what the meaning computes

-- a CPU stands on the ladder as the history says; its kind is told while its attempt is live
pub record IsStanding (kept computed : Standing) (live : Type 0) : Type 0 where
  pub parms : kept.parms ≡ computed.parms
  pub aborts : kept.aborts ≡ computed.aborts
  pub kind : live → kept.constrained ≡ computed.constrained
  pub given : kept.rejects_given ≡ computed.rejects_given
  pub refused : kept.requests_rejected ≡ computed.requests_rejected

-- storage and the CPUs are those of the history, each attempt is that of its run, and each CPU stands where the
-- history says
pub record IsTrue_to (m : Setting) (k : Kept) : Type 0 where
  pub replayed : replay m.image k.state.history ≡ Some (kept_flat m k)
  pub count : (i : ℕ) → (k.state.numbers i).completed ≡ (k.locals i).attempt.count
  pub followed : (i : ℕ) → IsFollowed (kept_flat m k) i (k.locals i)
  pub standing : (i : ℕ) → IsStanding (k.standings i) (standing_of m k.state i) (is_live k.state i ≡ true)

-- holders are sound, and hold what live attempts have touched: what is stored exclusively, what is fetched at
-- least shared
pub record IsHeld (m : Setting) (k : Kept) : Type 0 where
  pub sound : IsSound k.state.held
  pub stored : (i line : ℕ) → (k.locals i).attempt.footprint.stored line ≡ true
      → k.state.held i line ≡ Some Exclusive
  pub fetched : (i line : ℕ) → (k.locals i).attempt.footprint.fetched line ≡ true
      → is_some (k.state.held i line) ≡ true
  pub known : (i line : ℕ) → cpus_of m ≤ i → k.state.held i line ≡ None
