-- The conflict aborts that are kept are those that the history counts.
use Rattle.std.proofs.Common.{List, sym, subst}
use Rattle.tx_journal.specs.declared.events.Event.{Event}
use Rattle.tx_meaning.specs.Hits.{hits}
use Rattle.tx_meaning.specs.Limits.{Setting}
use Rattle.tx_meaning.specs.Meaning.{IsSetting, meaning}
use Rattle.tx_meaning.specs.State.{State, is_live}
use Rattle.tx_keeping.specs.Keeping.{keeping, IsTrue_to}
use Rattle.tx_meaning.specs.Views.{AreKnown}
use Rattle.tx_keeping.proofs.Truth.{true_to}
use Rattle.tx_keeping.proofs.Events.{keeping_is, keeping_good}
use Rattle.tx_bounds.proofs.Stopping.{Stopping, counted_same}
use Rattle.tx_bounds.proofs.Stopped.{between, some_stop}

abbrev pub StopsAt : Setting → State → Type 0
StopsAt m s = Stopping m.image.parms.stop (hits m.image s.history) s.queue (is_live s)

pub kept_stops : (m : Setting) (events : List Event) → IsSetting m → AreKnown m events
    → StopsAt m (keeping m events).state
kept_stops m events s known =
    let k = keeping m events in
    let b = between m events (some_stop m s) in
    let truth : IsTrue_to m k = true_to m k (keeping_good m s events known).truth in
    record {
      counted = counted_same m.image.parms.stop (λ x. (k.standings x).aborts) (hits m.image k.state.history)
          k.state.queue b.is.counted (λ x. sym (truth.standing x).aborts);
      behind = b.is.behind;
    }

pub stops : (m : Setting) (events : List Event) → IsSetting m → AreKnown m events
    → StopsAt m (meaning m events)
stops m events s known = subst (StopsAt m) (sym (keeping_is m s events known)) (kept_stops m events s known)
