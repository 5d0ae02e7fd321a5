-- The one line of some bytes, and none of no bytes.
use Rattle.std.proofs.Common.{ap, arith}
use Rattle.tx_works.proofs.Plainly.{no-need, fetched-need, stored-need, fetched-below, stored-below, is_untouched, untouched-need}
use Rattle.tx_works.proofs.getting.operand_need.Goals as goal

pub returns-then-shape-eq0-clause-none : goal.returns-then-shape-eq0-clause-none
returns-then-shape-eq0-clause-none c prefix bare =
    no-need c.args.shape.touch c.args.first c.args.shape.size prefix bare (omega (arith, c.if-shape-eq0.true))

pub returns-in-Fetch-clause-some : goal.returns-in-Fetch-clause-some
returns-in-Fetch-clause-some c prefix bare =
    fetched-need c.args.shape.touch c.args.first c.args.shape.size prefix c.in-Fetch.is bare
    (omega (arith, c.if-shape-eq0.false)) c.requires

pub returns-in-Fetch-clause-in_storage : goal.returns-in-Fetch-clause-in_storage
returns-in-Fetch-clause-in_storage c =
    let below = fetched-below c.args.shape.touch c.args.first c.args.shape.size c.in-Fetch.is c.requires in
    omega (arith, below)

pub returns-in-Store-clause-some : goal.returns-in-Store-clause-some
returns-in-Store-clause-some c prefix bare =
    stored-need c.args.shape.touch c.args.first c.args.shape.size prefix c.in-Store.is bare
    (omega (arith, c.if-shape-eq0.false)) c.requires

pub returns-in-Store-clause-in_storage : goal.returns-in-Store-clause-in_storage
returns-in-Store-clause-in_storage c =
    let below = stored-below c.args.shape.touch c.args.first c.args.shape.size c.in-Store.is c.requires in
    omega (arith, below)

pub returns-in-Nothing-clause-none : goal.returns-in-Nothing-clause-none
returns-in-Nothing-clause-none c prefix bare =
    untouched-need c.args.shape.touch c.args.first c.args.shape.size prefix (ap is_untouched c.in-Nothing.is)

pub returns-in-Other-clause-none : goal.returns-in-Other-clause-none
returns-in-Other-clause-none c prefix bare =
    untouched-need c.args.shape.touch c.args.first c.args.shape.size prefix (ap is_untouched c.in-Other.is)
