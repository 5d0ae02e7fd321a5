use Rattle.std.proofs.Common.{ap, sym, ◌∙◌, subst}
use Rattle.std.specs.Prelude.{All}
use Rattle.std.specs.FinSet.{items}
use Rattle.z_instr.specs.Operands.{IsSmall}
use Rattle.z_instr.specs.Access.{accessible_pages, text_pages}
use Rattle.z_instr.specs.Table.{Entry}
use Rattle.z_regs.specs.declared.ranges.Range.{Range}
use Rattle.z_touch.specs.Refusals.{span_of}
use Rattle.z_touch.proofs.Reach.{small_ranges, denied_is, answer_fits, answer_refused}
use Rattle.z_touch.proofs.access.accessible.Goals as goal

pub denied-requires-clause-small : goal.denied-requires-clause-small
denied-requires-clause-small c =
    subst (All (λ (r : Range). IsSmall (span_of r))) (sym c.requires)
    (small_ranges _
    (c.operands_are_small.ensures.size c.args.instr.now c.args.image.now.general c.args.image.now.condition))

pub returns-in-None : goal.returns-in-None
returns-in-None c =
    let denied =
    denied_is c.args.instr.now c.args.image.now.general c.args.image.now.condition c.args.depth
    (accessible_pages c.args.image.now.prefix)
    (text_pages c.args.image.now.prefix
    (items c.args.guard.now)) c.demand.result c.args.operands.now
    (c.demand.ensures ∙ ap (λ (e : Entry). e.demand) c.line.ensures.row) c.requires in
    answer_fits _ c.args.instr.now tt (sym c.in-None.is ∙ c.denied.ensures ∙ denied)

pub returns-in-Some : goal.returns-in-Some
returns-in-Some c =
    let denied =
    denied_is c.args.instr.now c.args.image.now.general c.args.image.now.condition c.args.depth
    (accessible_pages c.args.image.now.prefix)
    (text_pages c.args.image.now.prefix
    (items c.args.guard.now)) c.demand.result c.args.operands.now
    (c.demand.ensures ∙ ap (λ (e : Entry). e.demand) c.line.ensures.row) c.requires in
    answer_refused _ c.args.instr.now tt c.in-Some.code c.exception.result (sym c.in-Some.is
    ∙ c.denied.ensures ∙ denied) c.exception.ensures
