use Rattle.std.proofs.Common.{◌∙◌, sym, ap, Ok}
use Rattle.z_text.specs.Labels.{value_in}
use Rattle.z_operands.specs.Values.{value_in_line, wanted}
use Rattle.z_operands.proofs.Atoms.{no_operands}
use Rattle.z_operands.proofs.values.read_operands.Goals as goal

pub returns-then-tokens-first : goal.returns-then-tokens-first
returns-then-tokens-first c =
    ap (wanted c.args.malformed) (no_operands
    (value_in_line c.args.line.now (value_in c.args.labels.now) c.args.here) c.args.tokens.now
    c.args.first c.if-tokens-first.true)
    ∙ ap Ok (sym c.clear.ensures.items)
