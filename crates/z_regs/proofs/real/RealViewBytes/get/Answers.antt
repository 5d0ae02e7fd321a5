-- All of storage is seen.
use Rattle.std.proofs.Common.{◌<◌, subst}
use Rattle.z_regs.proofs.Exchange.{length-seen}
use Rattle.z_regs.proofs.real.RealViewBytes.get.Goals as goal

pub byte-requires : goal.byte-requires
byte-requires g c =
    let view = c.args.self.now in
    subst (λ n. c.args.address < n) (length-seen view.prefix _ view.prefix_in view.sized) c.requires
