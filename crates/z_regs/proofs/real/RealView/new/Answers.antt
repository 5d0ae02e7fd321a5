-- All of storage is seen.
use Rattle.z_regs.proofs.Exchange.{length-seen}
use Rattle.z_regs.proofs.real.RealView.new.Goals as goal

pub returns-clause-size : goal.returns-clause-size
returns-clause-size g c =
    length-seen c.args.prefix (g.V.Bytes.bytes c.args.below) c.requires.prefix_in c.requires.sized
