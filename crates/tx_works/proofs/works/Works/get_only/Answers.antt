-- The only line that a turn needs is all that it needs.
use Rattle.std.proofs.Common.{length, [], ◌∷◌, refl, arith}
use Rattle.tx_works.specs.Works.{kept_by}
use Rattle.tx_works.specs.Asks.{rejected_in}
use Rattle.tx_works.proofs.Leaves.{leaves_at_most}
use Rattle.tx_works.proofs.Granted.{any_at, ready_for_fewer, one_got}
use Rattle.tx_works.proofs.works.Works.get_only.Goals as goal

pub get_line-requires-clause-among : goal.get_line-requires-clause-among
get_line-requires-clause-among c = any_at (c.args.need.line ∷ []) 0 (omega arith)

pub get_line-requires-clause-ready : goal.get_line-requires-clause-ready
get_line-requires-clause-ready c rest =
    ready_for_fewer 16 128 c.args.cpu c.args.self.now (kept_by rest c.args.self.now) (omega arith)
    (c.requires.ready rest)

pub returns-clause-kept : goal.returns-clause-kept
returns-clause-kept c rest m cpus =
    one_got m c.args.cpu c.args.need (kept_by rest c.args.self.now) (kept_by rest c.get_line.new.self)
    (rejected_in c.get_line.result) (c.get_line.ensures.kept rest m (c.args.need ∷ []) cpus refl)

pub returns-clause-leaves : goal.returns-clause-leaves
returns-clause-leaves c rest =
    leaves_at_most (length c.args.self.now.slots) 16 128 c.args.cpu (kept_by rest c.args.self.now)
    (kept_by rest c.get_line.new.self) (omega arith) (c.get_line.ensures.leaves rest)
