use Rattle.tx_private.proofs.Turned.{turned_ready}
use Rattle.tx_private.proofs.running.rest.Goals as goal

pub returns-clause-turned : goal.returns-clause-turned
returns-clause-turned c = (c.restart.ensures.turned c.args.image.now.prefix c.args.storage.now c.turn.ensures).turned

pub returns-clause-ready : goal.returns-clause-ready
returns-clause-ready c =
    turned_ready c.args.image.now.prefix c.args.storage.now c.restart.new.a c.args.image.now.prefix_in
    (c.restart.ensures.turned c.args.image.now.prefix c.args.storage.now c.turn.ensures)
