-- What the CPU in its seat says of it.
use Rattle.std.proofs.Common.{◌<◌, length, sym, ap, subst, ◌∙◌}
use Rattle.std.specs.Prelude.{get_or}
use Rattle.std.proofs.lemmas.List.{get_or_default}
use Rattle.tx_lines.specs.Going.{GoesThere}
use Rattle.tx_lines.specs.Parts.{local_of}
use Rattle.tx_works.specs.Executing.{operand_by}
use Rattle.tx_works.specs.Works.{Works, Seat}
use Rattle.tx_works.proofs.Seats.{no_seat}
use Rattle.tx_works.proofs.works.Works.goes_there.Goals as goal

pub goes_there-requires-clause-bare : goal.goes_there-requires-clause-bare
goes_there-requires-clause-bare c =
    let cpu = c.args.cpu in
    let lt : cpu < _ = subst (λ (w : Works). cpu < length w.slots) (sym c.self.view_is) c.requires.cpu in
    let there = c.behind-self.view_is ∙ c.index.ensures ∙ get_or_default _ cpu _ no_seat lt in
    ap (λ (s : Seat). (local_of s.cpu).attempt.cpu.prefix) there
    ∙ ap (λ (w : Works). (local_of (get_or w.slots cpu no_seat).cpu).attempt.cpu.prefix) c.self.view_is
    ∙ c.requires.bare no_seat

pub returns : goal.returns
returns c rest so =
    let cpu = c.args.cpu in
    let i = c.args.plain.now.ready.now.instr in
    let need = operand_by c.args.plain.now.ready.now.shape c.args.plain.now.first in
    let lt : cpu < _ = subst (λ (w : Works). cpu < length w.slots) (sym c.self.view_is) c.requires.cpu in
    let there = c.behind-self.view_is ∙ c.index.ensures ∙ get_or_default _ cpu _ rest lt in
    subst (λ (w : Works). GoesThere (local_of (get_or w.slots cpu rest).cpu).attempt i need) c.self.view_is
    (subst (λ (s : Seat). GoesThere (local_of s.cpu).attempt i need) there (c.goes_there.ensures so))
