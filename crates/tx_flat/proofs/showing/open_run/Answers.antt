use Rattle.std.proofs.lemmas.Option.{IfSome_then}
use Rattle.tx_flat.proofs.showing.open_run.Goals as goal

pub returns-clause-open : goal.returns-clause-open
returns-clause-open c =
    IfSome_then c.shown.result c.shown.ensures.open
    (λ r is f i storage text cpu. is f.storage _ (c.in_ok-a.ensures f i storage text cpu))
