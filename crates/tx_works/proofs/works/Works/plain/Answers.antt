-- The next instruction of the CPU in its seat.
use Rattle.std.proofs.Common.{◌≡◌, ◌<◌, length, sym, subst, ◌∙◌}
use Rattle.std.specs.Prelude.{get_or, IfSome}
use Rattle.std.specs.FinSet.{items}
use Rattle.std.proofs.lemmas.List.{get_or_default}
use Rattle.tx_serial.specs.Fate.{Goes}
use Rattle.tx_serial.specs.Flat.{Storage}
use Rattle.tx_serial.specs.History.{start_of}
use Rattle.tx_progress.specs.Trial.{fate_by_progress}
use Rattle.tx_lines.specs.Parts.{local_of}
use Rattle.tx_lines.specs.Storages.{storage_of}
use Rattle.tx_program.specs.Shapes.{touched_by}
use Rattle.tx_lines.specs.Quiet.{IsQuiet}
use Rattle.tx_works.specs.Works.{Works, Seat}
use Rattle.tx_works.proofs.works.Works.plain.Goals as goal

pub returns-clause-quiet : goal.returns-clause-quiet
returns-clause-quiet c rest =
    let cpu = c.args.cpu in
    let lt : cpu < _ = subst (λ (w : Works). cpu < length w.slots) (sym c.self.view_is) c.requires in
    let there = c.behind-self.view_is ∙ c.index.ensures ∙ get_or_default _ cpu _ rest lt in
    subst (λ (w : Works). IfSome c.plain.result (λ p. IsQuiet (local_of (get_or w.slots cpu rest).cpu)))
    c.self.view_is
    (subst (λ (s : Seat). IfSome c.plain.result (λ p. IsQuiet (local_of s.cpu))) there c.plain.ensures.quiet)

pub returns-clause-goes : goal.returns-clause-goes
unfolding start_of
returns-clause-goes c rest limits =
    let cpu = c.args.cpu in
    let text = items c.args.program.now.guard in
    let storage : Storage = storage_of c.args.program.now.storage in
    let lt : cpu < _ = subst (λ (w : Works). cpu < length w.slots) (sym c.self.view_is) c.requires in
    let there = c.behind-self.view_is ∙ c.index.ensures ∙ get_or_default _ cpu _ rest lt in
    subst (λ (w : Works). IfSome c.plain.result (λ p.
    fate_by_progress text storage (local_of (get_or w.slots cpu rest).cpu).attempt
    ≡ Goes p.ready.now.instr (touched_by p.ready.now.shape.touch p.first p.ready.now.shape.size)))
    c.self.view_is
    (subst (λ (s : Seat). IfSome c.plain.result (λ p. fate_by_progress text storage (local_of s.cpu).attempt
    ≡ Goes p.ready.now.instr (touched_by p.ready.now.shape.touch p.first p.ready.now.shape.size))) there
    c.plain.ensures.goes)
