-- What a plain instruction leaves of the CPU and of storage in a transaction, and what it tells.
use Rattle.std.proofs.Common.{refl, ap, ◌∙◌}
use Rattle.tx_progress.specs.Local.{Beside}
use Rattle.tx_progress.specs.Doing.{Executed, executed}
use Rattle.tx_works.specs.contracts.slot.Slot.{the_view}
use Rattle.tx_works.specs.contracts.works.Works as works
use Rattle.tx_works.proofs.Seats.{beside-is, left-is, no_seat, executed-counted}
use Rattle.tx_works.specs.Executing.{operand_by}
use Rattle.tx_works.proofs.Running.{at-live, at-prepared, at-few, at-count, seated}
use Rattle.tx_works.proofs.works.Works.run_plainly.Goals as goal

pub execute_plainly-requires-clause-prepared : goal.execute_plainly-requires-clause-prepared
execute_plainly-requires-clause-prepared c =
    at-prepared (works.the_view c.self.inside) c.args.self.now c.args.cpu (the_view c.slot.inside)
    c.index_mut-slot.result.now c.self.view_is c.requires.cpu (c.slot.view_is ∙ c.index_mut-slot.ensures.value)
    c.args.plain.now.ready.now.instr (operand_by c.args.plain.now.ready.now.shape c.args.plain.now.first) (c.requires.may no_seat)

pub execute_plainly-requires-clause-count : goal.execute_plainly-requires-clause-count
execute_plainly-requires-clause-count c =
    at-count (works.the_view c.self.inside) c.args.self.now c.args.cpu (the_view c.slot.inside)
    c.index_mut-slot.result.now c.self.view_is c.requires.cpu (c.slot.view_is ∙ c.index_mut-slot.ensures.value)
    c.args.plain.now.ready.now.instr (operand_by c.args.plain.now.ready.now.shape c.args.plain.now.first) (c.requires.may no_seat) c.slot.invariant.turns

pub execute_plainly-requires-clause-live : goal.execute_plainly-requires-clause-live
execute_plainly-requires-clause-live c =
    at-live (works.the_view c.self.inside) c.args.self.now c.args.cpu (the_view c.slot.inside)
    c.index_mut-slot.result.now c.self.view_is c.requires.cpu (c.slot.view_is ∙ c.index_mut-slot.ensures.value)
    (c.requires.live no_seat)

pub invariant_of-slot : goal.invariant_of-slot
invariant_of-slot c =
    let s = the_view c.slot.inside in
    let few = at-few (works.the_view c.self.inside) c.args.self.now c.args.cpu s c.index_mut-slot.result.now
    c.self.view_is c.requires.cpu (c.slot.view_is ∙ c.index_mut-slot.ensures.value) c.args.plain.now.ready.now.instr (operand_by c.args.plain.now.ready.now.shape c.args.plain.now.first)
    (c.requires.may no_seat) in
    executed-counted s (record s { cpu = c.execute_plainly.new.cpu }) c.args.plain.now.ready.now.instr (operand_by c.args.plain.now.ready.now.shape c.args.plain.now.first)
    c.self.inside.lines c.execute_plainly.new.self c.slot.invariant refl few
    (ap (λ (e : Executed). e.after) c.execute_plainly.ensures.value)

pub returns-clause-told : goal.returns-clause-told
returns-clause-told c rest =
    ap (λ (e : Executed). e.told) c.execute_plainly.ensures.value
    ∙ ap (λ (b : Beside). (executed c.args.plain.now.ready.now.instr (operand_by c.args.plain.now.ready.now.shape c.args.plain.now.first) b).told)
    (beside-is rest (works.the_view c.self.inside) c.args.self.now c.args.cpu (the_view c.slot.inside)
    (seated (works.the_view c.self.inside) c.args.self.now c.args.cpu (the_view c.slot.inside)
    c.index_mut-slot.result.now c.self.view_is c.requires.cpu (c.slot.view_is ∙ c.index_mut-slot.ensures.value)))

pub returns-clause-value : goal.returns-clause-value
returns-clause-value c rest =
    let s = the_view c.slot.inside in
    left-is rest (works.the_view c.self.inside) c.args.self.now c.args.cpu s
    (record s { cpu = c.execute_plainly.new.cpu }) c.execute_plainly.new.self
    (λ (b : Beside). (executed c.args.plain.now.ready.now.instr (operand_by c.args.plain.now.ready.now.shape c.args.plain.now.first) b).after)
    (seated (works.the_view c.self.inside) c.args.self.now c.args.cpu s
    c.index_mut-slot.result.now c.self.view_is c.requires.cpu (c.slot.view_is ∙ c.index_mut-slot.ensures.value))
    refl refl (ap (λ (e : Executed). e.after) c.execute_plainly.ensures.value) c.execute_plainly.ensures.held
