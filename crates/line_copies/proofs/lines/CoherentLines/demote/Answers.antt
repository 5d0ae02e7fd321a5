use Rattle.std.proofs.Common.{Some, refl, sym, ap, ◌∙◌, arith}
use Rattle.line_table.specs.declared.table.Mode.TheVariants.{Shared}
use Rattle.line_table.specs.Holders.{mode_in}
use Rattle.line_copies.specs.Seen.{copied, holders_in}
use Rattle.line_copies.proofs.Change.{IsMove}
use Rattle.line_copies.proofs.Moves.{demoting, no_change, table_seen, table_kept, IsWrittenBack}
use Rattle.line_copies.proofs.Moves.{written_back_of}
use Rattle.line_copies.proofs.lines.CoherentLines.demote.Goals as goal

back : (c : goal.After-demote) → IsWrittenBack c.self.inside.storage c.write_back.new.storage
    c.self.inside.table
    c.self.inside.copies.items c.args.cpu c.args.line
back c =
    written_back_of c.self.inside.storage c.write_back.new.storage c.self.inside.table c.deref.result.now
    c.self.inside.copies.items c.args.cpu c.args.line c.deref.ensures.value c.write_back.ensures.kept
    c.write_back.ensures.bytes c.write_back.ensures.clean

move : (c : goal.After-demote) → IsMove c.self.inside.table.cpus (mode_in c.self.inside.table)
    (copied c.self.inside.copies.items) c.write_back.new.storage c.args.cpu c.args.line (Some Shared)
    (copied c.self.inside.copies.items c.args.cpu c.args.line)
move c =
    demoting c.self.inside.table.cpus (mode_in c.self.inside.table) (copied c.self.inside.copies.items)
    c.write_back.new.storage c.args.cpu c.args.line (back c).kept.coherent
    (omega (arith, c.requires.cpu, ap (λ v. v.cpus) c.self.view_is)) (back c).clean
    (λ e. c.requires.held (ap (λ v. holders_in v c.args.cpu c.args.line) (sym c.self.view_is) ∙ e))

pub returns-clause-bytes : goal.returns-clause-bytes
returns-clause-bytes c =
    table_seen c.self.inside.table c.demote.new.self c.self.inside.copies.items c.self.inside.copies.items
    c.write_back.new.storage c.args.cpu c.args.line (Some Shared)
    (copied c.self.inside.copies.items c.args.cpu c.args.line) c.demote.ensures.cpus c.demote.ensures.held
    (no_change (copied c.self.inside.copies.items) c.args.cpu c.args.line) (move c)
    ∙ (back c).bytes
    ∙ ap (λ v. v.bytes) c.self.view_is

pub invariant_of-self : goal.invariant_of-self
invariant_of-self c =
    table_kept c.self.inside.table c.demote.new.self c.self.inside.copies.items c.self.inside.copies.items
    c.write_back.new.storage c.args.cpu c.args.line (Some Shared)
    (copied c.self.inside.copies.items c.args.cpu c.args.line) c.demote.ensures.cpus c.demote.ensures.held
    (no_change (copied c.self.inside.copies.items) c.args.cpu c.args.line) (move c) c.requires.line refl
    (back c).kept
