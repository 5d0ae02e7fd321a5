use Rattle.std.proofs.Common.{subst}
use Rattle.tx_works.specs.Kept.{beside}
use Rattle.tx_works.specs.Away.{GoAway}
use Rattle.tx_works.specs.Marks.{mode_in}
use Rattle.tx_works.specs.Works.{Works, kept_by}
use Rattle.tx_home.proofs.taking.take.Goals as goal

pub returns-clause-away : goal.returns-clause-away
returns-clause-away c rest text agree =
    let r = c.args.run.now in
    subst (λ (w : Works). GoAway text (mode_in r.made.needed) r.made.steps (beside (kept_by rest w) r.cpu))
    c.note_turns.ensures (c.bring.ensures.away rest text agree)
