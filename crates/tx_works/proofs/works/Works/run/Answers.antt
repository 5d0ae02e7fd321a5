-- What the instruction leaves of the CPU and of storage, and what it tells.
use Rattle.std.proofs.Common.{refl, ap, ◌∙◌}
use Rattle.tx_progress.specs.Local.{Beside}
use Rattle.tx_progress.specs.Doing.{Executed, executed}
use Rattle.tx_works.specs.contracts.slot.Slot.{the_view}
use Rattle.tx_works.specs.contracts.works.Works as works
use Rattle.tx_works.proofs.Seats.{beside-is, left-is, no_seat, executed-counted}
use Rattle.tx_works.proofs.Running.{at-prepared, at-few, at-count, seated}
use Rattle.tx_works.proofs.works.Works.run.Goals as goal

pub execute-requires-clause-prepared : goal.execute-requires-clause-prepared
execute-requires-clause-prepared c =
    at-prepared (works.the_view c.self.inside) c.args.self.now c.args.cpu (the_view c.slot.inside)
    c.index_mut-slot.result.now c.self.view_is c.requires.cpu (c.slot.view_is ∙ c.index_mut-slot.ensures.value)
    c.args.instr.now c.args.need.now (c.requires.may no_seat)

pub execute-requires-clause-count : goal.execute-requires-clause-count
execute-requires-clause-count c =
    at-count (works.the_view c.self.inside) c.args.self.now c.args.cpu (the_view c.slot.inside)
    c.index_mut-slot.result.now c.self.view_is c.requires.cpu (c.slot.view_is ∙ c.index_mut-slot.ensures.value)
    c.args.instr.now c.args.need.now (c.requires.may no_seat) c.slot.invariant.turns

pub invariant_of-slot : goal.invariant_of-slot
invariant_of-slot c =
    let s = the_view c.slot.inside in
    let few = at-few (works.the_view c.self.inside) c.args.self.now c.args.cpu s c.index_mut-slot.result.now
    c.self.view_is c.requires.cpu (c.slot.view_is ∙ c.index_mut-slot.ensures.value) c.args.instr.now c.args.need.now
    (c.requires.may no_seat) in
    executed-counted s (record s { cpu = c.execute.new.cpu }) c.args.instr.now c.args.need.now
    c.self.inside.lines c.execute.new.self c.slot.invariant refl few
    (ap (λ (e : Executed). e.after) c.execute.ensures.value)

pub returns-clause-told : goal.returns-clause-told
returns-clause-told c rest =
    ap (λ (e : Executed). e.told) c.execute.ensures.value
    ∙ ap (λ (b : Beside). (executed c.args.instr.now c.args.need.now b).told)
    (beside-is rest (works.the_view c.self.inside) c.args.self.now c.args.cpu (the_view c.slot.inside)
    (seated (works.the_view c.self.inside) c.args.self.now c.args.cpu (the_view c.slot.inside)
    c.index_mut-slot.result.now c.self.view_is c.requires.cpu (c.slot.view_is ∙ c.index_mut-slot.ensures.value)))

pub returns-clause-value : goal.returns-clause-value
returns-clause-value c rest =
    let s = the_view c.slot.inside in
    left-is rest (works.the_view c.self.inside) c.args.self.now c.args.cpu s
    (record s { cpu = c.execute.new.cpu }) c.execute.new.self
    (λ (b : Beside). (executed c.args.instr.now c.args.need.now b).after)
    (seated (works.the_view c.self.inside) c.args.self.now c.args.cpu s
    c.index_mut-slot.result.now c.self.view_is c.requires.cpu (c.slot.view_is ∙ c.index_mut-slot.ensures.value))
    refl refl (ap (λ (e : Executed). e.after) c.execute.ensures.value) c.execute.ensures.held
