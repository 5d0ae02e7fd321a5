-- A starved attempt is aborted.
use Rattle.std.proofs.Common.{sym, ap, ◌∙◌}
use Rattle.tx_keeping.specs.Turn.{k_refused_turn}
use Rattle.tx_works.specs.Works.{kept_by}
use Rattle.tx_works.proofs.works.Works.refuse.Goals as goal

pub starve-requires-clause-starved : goal.starve-requires-clause-starved
starve-requires-clause-starved c rest = sym (c.requires.starved rest) ∙ c.if-refused.true

pub returns-clause-value : goal.returns-clause-value
returns-clause-value c rest =
    let k = kept_by rest c.args.self.now in
    ap (λ b. k_refused_turn b c.args.cpu c.args.refused.reject k)
    (sym c.if-refused.false ∙ c.requires.starved rest)
