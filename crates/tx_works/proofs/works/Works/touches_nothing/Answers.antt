-- That the next instruction of the CPU in its seat has no operand.
use Rattle.std.proofs.Common.{◌≡◌, ◌<◌, length, sym, subst, ◌∙◌}
use Rattle.std.specs.Prelude.{get_or}
use Rattle.std.specs.FinSet.{items}
use Rattle.std.proofs.lemmas.List.{get_or_default}
use Rattle.tx_serial.specs.Fate.{Goes}
use Rattle.tx_serial.specs.Flat.{Storage}
use Rattle.tx_serial.specs.History.{start_of}
use Rattle.tx_progress.specs.Trial.{fate_by_progress}
use Rattle.tx_lines.specs.Parts.{local_of}
use Rattle.tx_lines.specs.Storages.{storage_of}
use Rattle.tx_works.specs.Works.{Works, Seat}
use Rattle.tx_works.proofs.works.Works.touches_nothing.Goals as goal

pub returns : goal.returns
unfolding start_of
returns c rest limits i need so goes =
    let cpu = c.args.cpu in
    let text = items c.args.program.now.guard in
    let storage : Storage = storage_of c.args.program.now.storage in
    let lt : cpu < _ = subst (λ (w : Works). cpu < length w.slots) (sym c.self.view_is) c.requires in
    let there = c.behind-self.view_is ∙ c.index.ensures ∙ get_or_default _ cpu _ rest lt in
    c.touches_nothing.ensures i need so
    (subst (λ (s : Seat). fate_by_progress text storage (local_of s.cpu).attempt ≡ Goes i need) (sym there)
    (subst (λ (w : Works). fate_by_progress text storage (local_of (get_or w.slots cpu rest).cpu).attempt ≡ Goes i need)
    (sym c.self.view_is) goes))
