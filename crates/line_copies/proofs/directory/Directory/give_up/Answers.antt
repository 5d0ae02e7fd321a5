use Rattle.std.proofs.Common.{None}
use Rattle.line_copies.proofs.Exclusive.{found_again}
use Rattle.line_copies.proofs.directory.Directory.give_up.Goals as goal

pub invariant_of-self : goal.invariant_of-self
invariant_of-self c =
    found_again c.self.inside.table c.give_up.new.self c.self.inside.exclusive.items c.args.cpu c.args.line None
    c.find_exclusive.result c.self.invariant c.requires.line c.give_up.ensures.cpus c.give_up.ensures.held
    c.find_exclusive.ensures
