-- A turn is recorded and counted first.
use Rattle.std.proofs.Common.{◌≡◌, ◌<◌, sym, ap, subst, ◌∙◌, arith, length}
use Rattle.tx_journal.specs.declared.events.Event.TheVariants.{Turn}
use Rattle.tx_meaning.specs.Limits.{Setting, RunLimits}
use Rattle.tx_meaning.specs.Changes.{with_event}
use Rattle.tx_keeping.specs.Kept.{Kept, with_state}
use Rattle.tx_keeping.proofs.Turning.{turn_left}
use Rattle.tx_works.specs.Ready.{MayAsk, MayTurn}
use Rattle.tx_works.specs.Steps.{k_counted}
use Rattle.tx_works.specs.Turned.{turned_as}
use Rattle.tx_works.specs.Works.{Works, kept_by}
use Rattle.tx_works.proofs.Turns.{counted_turn_may}
use Rattle.tx_works.proofs.Lined.{same-text, turned-on, may-act}
use Rattle.tx_works.proofs.works.Works.turn.Goals as goal

pub count_turn-requires-clause-few : goal.count_turn-requires-clause-few
count_turn-requires-clause-few c rest =
    let m : Setting = record { image = c.args.program.now; limits = c.args.limits } in
    let k = kept_by rest c.args.self.now in
    let left = turn_left m k c.args.cpu (c.requires.ready rest) in
    let most = c.limits.invariant.few_turns in
    let same = ap (λ (l : RunLimits). l.turns) c.limits.view_is in
    subst (λ (w : Works). ((kept_by rest w).state.numbers c.args.cpu).turns < 200000) (sym c.note.ensures)
    (omega arith)

pub counted_turn-requires-clause-turns : goal.counted_turn-requires-clause-turns
counted_turn-requires-clause-turns c rest limits =
    let m : Setting = record { image = c.args.program.now; limits = c.args.limits } in
    let k = kept_by rest c.args.self.now in
    subst (λ (q : Kept). MayTurn (record { image = c.args.program.now; limits = limits }) c.args.cpu q)
    (sym (c.count_turn.ensures.value rest ∙ ap (λ (w : Works). k_counted c.args.cpu (kept_by rest w))
    c.note.ensures))
    (same-text c.args.program.now c.args.limits limits c.args.cpu
    (with_state (with_event (Turn c.args.cpu) (k_counted c.args.cpu k).state) k)
    (counted_turn_may m c.args.cpu k (c.requires.turns rest)))

pub counted_turn-requires-clause-acts : goal.counted_turn-requires-clause-acts
counted_turn-requires-clause-acts c rest =
    let m : Setting = record { image = c.args.program.now; limits = c.args.limits } in
    let k = kept_by rest c.args.self.now in
    let cpus : length c.args.program.now.cpus ≡ length c.count_turn.new.self.slots =
    c.requires.cpus ∙ sym (c.count_turn.ensures.books.size.cpus ∙ ap (λ (w : Works). length w.slots) c.note.ensures) in
    may-act c.args.cpu c.args.self.now c.note.new.self c.count_turn.new.self rest
    (subst (λ n. MayAsk n c.args.cpu (kept_by rest c.count_turn.new.self)) cpus
    (subst (λ (q : Kept). MayTurn m c.args.cpu q)
    (sym (c.count_turn.ensures.value rest ∙ ap (λ (w : Works). k_counted c.args.cpu (kept_by rest w))
    c.note.ensures))
    (counted_turn_may m c.args.cpu k (c.requires.turns rest))).asks)
    (c.requires.room rest) c.note.ensures (c.count_turn.ensures.value rest) c.count_turn.ensures.books
    (c.count_turn.ensures.turn rest)

pub returns-clause-value : goal.returns-clause-value
returns-clause-value c rest =
    let m : Setting = record { image = c.args.program.now; limits = c.args.limits } in
    turned-on m (kept_by rest c.args.self.now) (kept_by rest c.count_turn.new.self) c.args.cpu
    (turned_as (kept_by rest c.counted_turn.new.self) c.counted_turn.new.turned)
    (c.requires.ready rest)
    (c.count_turn.ensures.value rest ∙ ap (λ (w : Works). k_counted c.args.cpu (kept_by rest w))
    c.note.ensures)
    (c.counted_turn.ensures.value rest)
