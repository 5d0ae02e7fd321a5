-- One column more, and all of them.
use Rattle.std.proofs.Common.{◌≡◌, ℕ, ◌+◌, ◌-◌, ◌<◌, ◌≤◌, Some, length, ap, ap₂, sym, ◌∙◌, subst, arith}
use Rattle.std.specs.Prelude.{slice_get}
use Rattle.tx_meaning.specs.State.{State}
use Rattle.tx_step.specs.Machine.{setting_of}
use Rattle.tx_watch.specs.Replay.{Replays}
use Rattle.tx_watch.specs.Window.{start_of, turns_in, entries_behind}
use Rattle.tx_watch.proofs.Replaying.{replays_on, may_happen}
use Rattle.tx_watch.proofs.watching.watch_all.Goals as goal

-- what is gained, by what there was and what there is
gained : (a o s t s_is t_is : ℕ) → a + s ≡ o + t → o ≤ a → s ≡ s_is → t ≡ t_is → a ≡ o + (t_is - s_is)
gained a o s t s_is t_is same more e f = omega arith

pub watch-requires-clause-external : goal.watch-requires-clause-external
watch-requires-clause-external c external =
    let events = c.args.machine.now.events in
    let k = c.start-start.result + c.loop-column.column in
    let recorded : length c.events.result.now ≡ length events = ap length c.events.ensures.recorded in
    let within : k < length events = omega arith in
    let place : c.start-start.result + c.from.result ≡ k = omega arith in
    let at : slice_get events k ≡ Some c.event_at.result =
    ap (slice_get events) (sym place) ∙ c.event_at.ensures.event in
    may_happen c.args.machine.now k c.loop-column.replay c.loop-column.invariant.replays c.event_at.result
    within at external c.event_at.ensures.few

pub loop-column-preserved : goal.loop-column-preserved
loop-column-preserved c =
    let machine = c.args.machine.now in
    let k = c.start-start.result + c.loop-column.column in
    let recorded : length c.events.result.now ≡ length machine.events = ap length c.events.ensures.recorded in
    let within : k < length machine.events = omega arith in
    let place : c.start-start.result + c.from.result ≡ k = omega arith in
    let at : slice_get machine.events k ≡ Some c.event_at.result =
    ap (slice_get machine.events) (sym place) ∙ c.event_at.ensures.event in
    let next : k + 1 ≡ c.start-start.result + (c.loop-column.column + 1) = omega arith in
    record {
      replays =
          subst (λ n. Replays machine n c.watch.new.replay) next
          (replays_on machine k c.loop-column.replay c.loop-column.invariant.replays c.event_at.result within
          at c.watch.new.replay c.in_ok-watch.ensures.machine c.in_ok-watch.ensures.state);
      marks = omega (arith, c.in_ok-watch.ensures.marks, c.loop-column.invariant.marks);
      entries = omega (arith, c.in_ok-watch.ensures.entries, c.loop-column.invariant.entries);
      more = omega (arith, c.in_ok-watch.ensures.more, c.loop-column.invariant.more);
    }

pub returns-clause-entries : goal.returns-clause-entries
returns-clause-entries c =
    let m = setting_of c.args.machine.now in
    let events = c.args.machine.now.events in
    let n = length events in
    let recorded : length c.events.result.now ≡ n = ap length c.events.ensures.recorded in
    let last : c.loop-column.column ≡ c.turns-column-end.result = omega arith in
    let start : c.start-start.result ≡ start_of c.args.window n =
    c.start-start.ensures.value ∙ ap (start_of c.args.window) recorded in
    let turns : c.turns-column-end.result ≡ turns_in c.args.window n =
    c.turns-column-end.ensures.value ∙ ap (turns_in c.args.window) recorded in
    let there : c.start-start.result + c.loop-column.column
    ≡ start_of c.args.window n + turns_in c.args.window n =
    ap₂ (λ x y. x + y) start (last ∙ turns) in
    gained _ _ _ _ (entries_behind m events (start_of c.args.window n))
    (entries_behind m events (start_of c.args.window n + turns_in c.args.window n))
    c.loop-column.invariant.entries c.loop-column.invariant.more
    (ap (λ (s : State). length s.history) c.requires.state)
    (ap (λ (s : State). length s.history) c.loop-column.invariant.replays.state
    ∙ ap (entries_behind m events) there)
