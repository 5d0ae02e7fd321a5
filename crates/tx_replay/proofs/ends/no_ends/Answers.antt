use Rattle.tx_replay.proofs.Counted.{no_end}
use Rattle.tx_replay.proofs.ends.no_ends.Goals as goal

pub returns : goal.returns
returns c = no_end c.args.cpus _ c.in_ok-commits.ensures c.in_ok-aborts.ensures
