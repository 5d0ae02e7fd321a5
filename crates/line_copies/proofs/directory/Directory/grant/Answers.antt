use Rattle.std.proofs.Common.{Some}
use Rattle.line_copies.proofs.Exclusive.{found_again}
use Rattle.line_copies.proofs.directory.Directory.grant.Goals as goal

pub invariant_of-self : goal.invariant_of-self
invariant_of-self c =
    found_again c.self.inside.table c.grant.new.self c.self.inside.exclusive.items c.args.cpu c.args.line (Some c.args.mode)
    c.find_exclusive.result c.self.invariant c.requires.line c.grant.ensures.cpus c.grant.ensures.held
    c.find_exclusive.ensures
