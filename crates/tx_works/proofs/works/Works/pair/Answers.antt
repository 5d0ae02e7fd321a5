-- The next instruction of the CPU in its seat, where it has two blocks of bytes.
use Rattle.std.proofs.Common.{◌≡◌, ◌<◌, length, sym, subst, ◌∙◌}
use Rattle.std.specs.Prelude.{get_or, IfSome}
use Rattle.std.specs.FinSet.{items}
use Rattle.std.proofs.lemmas.List.{get_or_default}
use Rattle.tx_serial.specs.Fate.{Goes}
use Rattle.tx_serial.specs.Flat.{Storage}
use Rattle.tx_serial.specs.History.{start_of}
use Rattle.tx_progress.specs.Trial.{fate_by_progress}
use Rattle.tx_lines.specs.Pairs.{pair_ranges}
use Rattle.tx_lines.specs.Parts.{local_of}
use Rattle.tx_lines.specs.Storages.{storage_of}
use Rattle.tx_works.specs.Works.{Works, Seat}
use Rattle.tx_works.proofs.works.Works.pair.Goals as goal

pub returns : goal.returns
unfolding start_of
returns c rest limits =
    let cpu = c.args.cpu in
    let text = items c.args.program.now.guard in
    let storage : Storage = storage_of c.args.program.now.storage in
    let lt : cpu < _ = subst (λ (w : Works). cpu < length w.slots) (sym c.self.view_is) c.requires in
    let there = c.behind-self.view_is ∙ c.index.ensures ∙ get_or_default _ cpu _ rest lt in
    subst (λ (w : Works). IfSome c.pair.result (λ p.
    fate_by_progress text storage (local_of (get_or w.slots cpu rest).cpu).attempt
    ≡ Goes p.instr.now (pair_ranges p.store p.first p.second p.size)))
    c.self.view_is
    (subst (λ (s : Seat). IfSome c.pair.result (λ p. fate_by_progress text storage (local_of s.cpu).attempt
    ≡ Goes p.instr.now (pair_ranges p.store p.first p.second p.size))) there
    c.pair.ensures)
