-- How many events can be recorded.
use Rattle.std.proofs.Common.{◌≡◌, ℕ, ◌+◌, ◌≤◌, List, [], ◌∷◌, ◌++◌, length, refl}
use Rattle.std.proofs.Common.{arith}
use Rattle.std.specs.Prelude.{count_by, cond}
use Rattle.std.proofs.lemmas.List.Sums.{sum_by-append}
use Rattle.tx_journal.specs.declared.events.Event.{Event}
use Rattle.tx_journal.specs.declared.events.Event.TheVariants as event
use Rattle.tx_meaning.specs.Limits.{Setting}
use Rattle.tx_meaning.specs.Meaning.{meaning, meaning_from, is_external}
use Rattle.tx_meaning.specs.Room.{is_turn}
use Rattle.tx_meaning.specs.State.{State, beginning}
use Rattle.tx_meaning.specs.Turn.{happen}
use Rattle.tx_meaning.proofs.Books.{few_turns, all_externals}
use Rattle.tx_meaning.proofs.Room.{room}
use Rattle.tx_meaning.specs.Views.{AreKnown}
use Rattle.tx_machine.specs.Machine.{most_events}

abbrev if_turn : Event → ℕ
if_turn e = cond (is_turn e) 1 0

abbrev if_external : Event → ℕ
if_external e = cond (is_external e) 1 0

-- an event is a turn, or comes from outside
one_event : (e : Event) (rest : List Event) → length rest ≡ count_by is_turn rest + count_by is_external rest
    → length (e ∷ rest) ≡ count_by is_turn (e ∷ rest) + count_by is_external (e ∷ rest)
one_event (event.Turn i) rest same =
    omega (
      arith,
      sum_by-append if_turn (event.Turn i ∷ []) rest,
      sum_by-append if_external (event.Turn i ∷ []) rest,
      same,
    )
one_event (event.External i) rest same =
    omega (
      arith,
      sum_by-append if_turn (event.External i ∷ []) rest,
      sum_by-append if_external (event.External i ∷ []) rest,
      same,
    )

pub by_kinds : (events : List Event) → length events ≡ count_by is_turn events + count_by is_external events
by_kinds [] = refl
by_kinds (e ∷ rest) = one_event e rest (by_kinds rest)

meaning_more_from : (m : Setting) (events : List Event) (e : Event) (s : State)
    → meaning_from m (events ++ e ∷ []) s ≡ (happen m e (meaning_from m events s)).state
unfolding meaning_from
meaning_more_from m [] e s = refl
meaning_more_from m (x ∷ rest) e s = meaning_more_from m rest e (happen m x s).state

pub meaning_more : (m : Setting) (events : List Event) (e : Event)
    → meaning m (events ++ e ∷ []) ≡ (happen m e (meaning m events)).state
meaning_more m events e = meaning_more_from m events e beginning

pub at_most : (m : Setting) (events : List Event) → AreKnown m events
    → count_by is_external events ≤ m.limits.externals → length (meaning m events).events ≤ most_events m
at_most m events known externals =
    let kinds = by_kinds (meaning m events).events in
    let turns = few_turns m events known in
    let outside = all_externals m events in
    omega (arith, kinds, turns, outside, externals)

-- every entry of the history is owed to an event of its own
pub entries_at_most : (m : Setting) (events : List Event) → AreKnown m events
    → length (meaning m events).history ≤ length (meaning m events).events
entries_at_most m events known =
    let live = room m events known in
    omega (arith, live)
