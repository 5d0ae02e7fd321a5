-- One turn more than attempts, instructions and questions are for.
use Rattle.std.proofs.Common.{◌+◌, ◌<◌, sym, subst, length}
use Rattle.std.proofs.lemmas.List.{get_or-set_same}
use Rattle.tx_works.specs.Ready.{HasTurn}
use Rattle.tx_works.specs.Works.{Seat, Works}
use Rattle.tx_works.specs.contracts.slot.Slot.{the_view}
use Rattle.tx_works.proofs.Lined.{has-turn}
use Rattle.tx_works.proofs.works.Works.count_turn.Goals as goal

pub returns-clause-turn : goal.returns-clause-turn
returns-clause-turn c rest =
    let s = the_view c.slot.inside in
    let known : c.args.cpu < length c.self.inside.slots.items =
    subst (λ (w : Works). c.args.cpu < length w.slots) (sym c.self.view_is) c.requires.cpu in
    subst (λ (s : Seat). HasTurn s 128)
    (sym (get_or-set_same c.self.inside.slots.items c.args.cpu
    (record s { tally = record (s.tally) { turns = s.tally.turns + 1 } }) rest known))
    (has-turn s c.slot.invariant)
