-- Whatever the events, what happens is one serial history.
use Rattle.std.proofs.Common.{◌<◌, List, [], ◌∷◌, ◌++◌, subst}
use Rattle.std.specs.Prelude.{All}
use Rattle.std.proofs.lemmas.List.Elements.{All-nil, All-cons, All-head, All-push}
use Rattle.tx_journal.specs.Image.{cpu_of_event}
use Rattle.tx_journal.specs.declared.events.Event.{Event}
use Rattle.tx_meaning.specs.Limits.{Setting}
use Rattle.tx_meaning.specs.Meaning.{IsSetting, meaning}
use Rattle.tx_meaning.specs.State.{State, cpus_of}
use Rattle.tx_meaning.proofs.Queues.{queue_moves}
use Rattle.tx_meaning.specs.Views.{AreKnown, GoesOnWith}
use Rattle.tx_keeping.proofs.Events.{legal, grows_only, views_kept, touched_held}
use Rattle.tx_bounds.proofs.Meant.{stops}
use Rattle.tx_bounds.proofs.Stretched.{ages_within}
use Rattle.tx_bounds.proofs.Heads.{heads_in_all}
use Rattle.tx_report.proofs.Opaque.{opaque}
use Rattle.tx_headline.proofs.Bounds.{turns_left, ages_short, turns_of_head}
use Rattle.tx_headline.proofs.Lists.{all_first, all_later}
use Rattle.tx_headline.proofs.Queue.{queue_changes, before_most}
use Rattle.tx_headline.proofs.After.{known_first}
use Rattle.tx_headline.proofs.Commits.{commits}
use Rattle.tx_headline.proofs.Served.{served}
use Rattle.tx_report.proofs.Laws.{unrejected_head}
use Rattle.tx_report.proofs.Most.{meaning_more}
use Rattle.run_answers.proofs.Replays.{replayed}
use Rattle.run_answers.specs.Serial.{IsSerial, IsSerialRun, IsOrderly, IsBounded}

-- ---- runs

module _ (m : Setting) (s : IsSetting m) where
  bounded : (events : List Event) → AreKnown m events → IsBounded m events
  bounded events known = record {
    few = λ i. (stops m events s known).counted.few i;
    some_left = λ i is. turns_left m events i s known is;
    turns = λ i is. ages_within m events i s known is;
    ages = λ i is. ages_short m events i s known is;
  }

  serial : (events : List Event) → AreKnown m events → IsSerial m events
  serial events known = record {
    legal = legal m s events known;
    shown = replayed m (meaning m events) (legal m s events known);
    held = touched_held m s events known;
    bounded = bounded events known;
  }

  abbrev GrowsFrom : List Event → State → Type 0
  GrowsFrom before after = GoesOnWith (meaning m before).history after.history

  orderly : (before : List Event) (e : Event) → AreKnown m before → cpu_of_event e < cpus_of m
      → IsOrderly m before e
  orderly before e known within =
      let P : Event → Type 0 = λ x. cpu_of_event x < cpus_of m in
      record {
        grows = subst (GrowsFrom before) (meaning_more m before e)
            (grows_only m s before (e ∷ []) known (All-cons P e [] within (All-nil P)));
        views = views_kept m s before e known within;
        opaque = opaque m s before e known within;
        queue = queue_moves m e (meaning m before);
        reasons = queue_changes m s before e (All-push P before e known within);
        behind_few = λ i waits. before_most m s before known i waits;
        head_alone = λ i is. turns_of_head m (meaning m before) e i is;
        unrejected = unrejected_head m (meaning m before) e;
        heads = λ i. heads_in_all m s i before e known;
      }

  pub serial_run : (events : List Event) → AreKnown m events → IsSerialRun m events
  serial_run events known = record {
    whole = serial events known;
    each = λ before rest e is.
        let P : Event → Type 0 = λ x. cpu_of_event x < cpus_of m in
        let all : All P (before ++ e ∷ rest) = subst (All P) is known in
        let first = all_first P before (e ∷ rest) all in
        let within = All-head P e rest (all_later P before (e ∷ rest) all) in
        (serial (before ++ e ∷ []) (All-push P before e first within), orderly before e first within);
    commits = λ before since rest e is i opens quiet none enough.
        commits m s i before since e
        (known_first m ((before ++ e ∷ []) ++ since) rest (subst (AreKnown m) is known)) opens quiet enough none;
    serves = λ before since rest is i quiet waits enough.
        served m s i before since (known_first m (before ++ since) rest (subst (AreKnown m) is known)) quiet waits
        enough;
  }
