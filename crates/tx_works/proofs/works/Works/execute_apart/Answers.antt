-- The operand is the one that the shape says.
use Rattle.std.proofs.Common.{List, sym, ap, subst, ◌∙◌}
use Rattle.z_regs.specs.declared.ranges.Range.{Range}
use Rattle.tx_lines.specs.Plans.{IsPrepared}
use Rattle.tx_keeping.specs.Turn.{k_executing}
use Rattle.tx_works.specs.Works.{kept_by}
use Rattle.tx_works.proofs.works.Works.execute_apart.Goals as goal

pub execute-requires-clause-prepared : goal.execute-requires-clause-prepared
execute-requires-clause-prepared c rest =
    let k = kept_by rest c.args.self.now in
    subst (λ (need : List Range). IsPrepared (k.locals c.args.cpu).attempt c.args.plain.now.ready.now.instr need)
    (sym c.add_operand.ensures) (c.requires.prepared rest)

pub returns-clause-value : goal.returns-clause-value
returns-clause-value c rest =
    c.execute.ensures.value rest
    ∙ ap (λ (need : List Range). k_executing c.args.cpu c.args.plain.now.ready.now.instr need
    (kept_by rest c.args.self.now)) c.add_operand.ensures
