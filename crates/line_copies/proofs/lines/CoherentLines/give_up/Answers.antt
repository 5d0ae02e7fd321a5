use Rattle.std.proofs.Common.{◌<◌, List, length, set, None, sym, ap, ◌∙◌, arith, Option, ℕ}
use Rattle.std.proofs.lemmas.List.{length-set}
use Rattle.line_table.specs.Holders.{mode_in}
use Rattle.l1_data.specs.Copies.{Copies, with_copy}
use Rattle.line_copies.specs.Seen.{copied, holders_in}
use Rattle.line_copies.proofs.Change.{IsMove, IsChange}
use Rattle.line_copies.proofs.Moves.{giving_up, table_seen, table_kept, IsWrittenBack, written_back_of}
use Rattle.line_copies.proofs.Shown.{copied_at, copied_set}
use Rattle.line_copies.proofs.lines.CoherentLines.give_up.Goals as goal

back : (c : goal.After-self-1) → IsWrittenBack c.self.inside.storage c.write_back.new.storage
    c.self.inside.table
    c.self.inside.copies.items c.args.cpu c.args.line
back c =
    written_back_of c.self.inside.storage c.write_back.new.storage c.self.inside.table c.deref.result.now
    c.self.inside.copies.items c.args.cpu c.args.line c.deref.ensures.value c.write_back.ensures.kept
    c.write_back.ensures.bytes c.write_back.ensures.clean

in_range : (c : goal.After-self-1) → c.args.cpu < c.self.inside.table.cpus
in_range c = omega (arith, c.requires.cpu, ap (λ v. v.cpus) c.self.view_is)

move : (c : goal.After-self-1) → IsMove c.self.inside.table.cpus (mode_in c.self.inside.table)
    (copied c.self.inside.copies.items) c.write_back.new.storage c.args.cpu c.args.line None None
move c =
    giving_up c.self.inside.table.cpus (mode_in c.self.inside.table) (copied c.self.inside.copies.items)
    c.write_back.new.storage c.args.cpu c.args.line (back c).kept.coherent (in_range c) (back c).clean
    (λ e. c.requires.held (ap (λ v. holders_in v c.args.cpu c.args.line) (sym c.self.view_is) ∙ e))

change : (c : goal.After-self-1) → IsChange (Option (List ℕ))
    (copied (set c.self.inside.copies.items c.args.cpu c.drop_line.new.self)) (copied
    c.self.inside.copies.items)
    c.args.cpu c.args.line None
change c =
    let below : c.args.cpu < length c.self.inside.copies.items = omega (
      arith,
      in_range c,
      (back
          c).kept.each,
    ) in
    copied_set c.self.inside.copies.items c.args.cpu c.args.line c.drop_line.new.self None below
    (c.drop_line.ensures ∙ ap (λ (k : Copies). with_copy k c.args.line None)
    (copied_at c.self.inside.copies.items c.args.cpu c.index_mut.result.now below c.index_mut.ensures.value))

pub returns-clause-bytes : goal.returns-clause-bytes
returns-clause-bytes c =
    table_seen c.self.inside.table c.give_up.new.self c.self.inside.copies.items
    (set c.self.inside.copies.items c.args.cpu c.drop_line.new.self)
    c.write_back.new.storage c.args.cpu c.args.line None None c.give_up.ensures.cpus c.give_up.ensures.held
    (change c)
    (move c)
    ∙ (back c).bytes
    ∙ ap (λ v. v.bytes) c.self.view_is

pub invariant_of-self : goal.invariant_of-self
invariant_of-self c =
    table_kept c.self.inside.table c.give_up.new.self c.self.inside.copies.items
    (set c.self.inside.copies.items c.args.cpu c.drop_line.new.self)
    c.write_back.new.storage c.args.cpu c.args.line None None c.give_up.ensures.cpus c.give_up.ensures.held
    (change c)
    (move c) c.requires.line (length-set c.self.inside.copies.items c.args.cpu c.drop_line.new.self) (back
    c).kept
