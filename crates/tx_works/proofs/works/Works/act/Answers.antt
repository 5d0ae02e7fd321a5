-- Plainly, or in its order.
use Rattle.tx_meaning.specs.Limits.{Setting}
use Rattle.tx_works.specs.Turned.{turned_as}
use Rattle.tx_works.specs.Works.{kept_by}
use Rattle.tx_works.proofs.Lined.{acting-next}
use Rattle.tx_works.proofs.works.Works.act.Goals as goal

pub go_plainly-requires-clause-goes : goal.go_plainly-requires-clause-goes
go_plainly-requires-clause-goes c rest limits = c.in-Some.ensures.goes rest limits

pub returns-in-Some-clause-value : goal.returns-in-Some-clause-value
returns-in-Some-clause-value c rest limits =
    let m : Setting = record { image = c.args.program.now; limits = limits } in
    let k = kept_by rest c.args.self.now in
    let quiet = c.in-Some.ensures.quiet rest in
    acting-next m c.args.cpu k (k.locals c.args.cpu).pending (k.locals c.args.cpu).waiting
    (turned_as (kept_by rest c.go_plainly.new.self) c.go_plainly.new.turned) quiet.pending quiet.waiting
    (c.go_plainly.ensures.value rest limits)
