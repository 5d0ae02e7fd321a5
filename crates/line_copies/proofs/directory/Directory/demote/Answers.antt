use Rattle.std.proofs.Common.{Some}
use Rattle.line_table.specs.declared.table.Mode.TheVariants.{Shared}
use Rattle.line_copies.proofs.Exclusive.{found_again}
use Rattle.line_copies.proofs.directory.Directory.demote.Goals as goal

pub invariant_of-self : goal.invariant_of-self
invariant_of-self c =
    found_again c.self.inside.table c.demote.new.self c.self.inside.exclusive.items c.args.cpu c.args.line (Some Shared)
    c.find_exclusive.result c.self.invariant c.requires.line c.demote.ensures.cpus c.demote.ensures.held
    c.find_exclusive.ensures
