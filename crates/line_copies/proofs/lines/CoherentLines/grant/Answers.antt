use Rattle.std.proofs.Common.{◌<◌, ℕ, List, length, set, Option, Some, refl, sym, ap, ◌∙◌, arith}
use Rattle.std.proofs.lemmas.List.{length-set}
use Rattle.std.proofs.lemmas.Option.{same_Some}
use Rattle.line_table.specs.Holders.{mode_in, against}
use Rattle.l1_data.specs.Copies.{Copies, with_copy}
use Rattle.line_copies.specs.Coherence.{line_in}
use Rattle.line_copies.specs.Seen.{Seen, copied, holders_in}
use Rattle.line_copies.proofs.Change.{IsMove, IsChange}
use Rattle.line_copies.proofs.Moves.{granting, table_seen, table_kept, IsWrittenBack, written_back_of}
use Rattle.line_copies.proofs.Shown.{copied_at, copied_set}
use Rattle.line_copies.proofs.lines.CoherentLines.grant.Goals as goal

back : (c : goal.After-grant) → IsWrittenBack c.self.inside.storage c.write_back.new.storage
    c.self.inside.table
    c.self.inside.copies.items c.args.cpu c.args.line
back c =
    written_back_of c.self.inside.storage c.write_back.new.storage c.self.inside.table c.deref.result.now
    c.self.inside.copies.items c.args.cpu c.args.line c.deref.ensures.value c.write_back.ensures.kept
    c.write_back.ensures.bytes c.write_back.ensures.clean

in_range : (c : goal.After-grant) → c.args.cpu < c.self.inside.table.cpus
in_range c = omega (arith, c.requires.cpu, ap (λ v. v.cpus) c.self.view_is)

move : (c : goal.After-grant) → IsMove c.self.inside.table.cpus (mode_in c.self.inside.table)
    (copied c.self.inside.copies.items) c.write_back.new.storage c.args.cpu c.args.line (Some c.args.mode)
    (Some (line_in c.write_back.new.storage c.args.line))
move c =
    granting c.self.inside.table.cpus (mode_in c.self.inside.table) (copied c.self.inside.copies.items)
    c.write_back.new.storage c.args.cpu c.args.line (back c).kept.coherent (in_range c) (back c).clean
    c.args.mode
    (Some (line_in c.write_back.new.storage c.args.line))
    (ap (λ (v : Seen). against v.cpus (holders_in v) c.args.cpu c.args.line c.args.mode) c.self.view_is
    ∙ c.requires.free)
    refl
    (λ b e. sym (same_Some (line_in c.write_back.new.storage c.args.line) b e))

change : (c : goal.After-grant) → IsChange (Option (List ℕ))
    (copied (set c.self.inside.copies.items c.args.cpu c.copy_from_storage.new.l1)) (copied
    c.self.inside.copies.items)
    c.args.cpu c.args.line (Some (line_in c.write_back.new.storage c.args.line))
change c =
    let below : c.args.cpu < length c.self.inside.copies.items = omega (
      arith,
      in_range c,
      (back
          c).kept.each,
    ) in
    copied_set c.self.inside.copies.items c.args.cpu c.args.line c.copy_from_storage.new.l1
    (Some (line_in c.write_back.new.storage c.args.line)) below
    (c.copy_from_storage.ensures
    ∙ ap (λ (k : Copies). with_copy k c.args.line (Some (line_in c.write_back.new.storage c.args.line)))
    (copied_at c.self.inside.copies.items c.args.cpu c.index_mut.result.now below c.index_mut.ensures.value))

pub returns-clause-bytes : goal.returns-clause-bytes
returns-clause-bytes c =
    table_seen c.self.inside.table c.grant.new.self c.self.inside.copies.items
    (set c.self.inside.copies.items c.args.cpu c.copy_from_storage.new.l1)
    c.write_back.new.storage c.args.cpu c.args.line (Some c.args.mode)
    (Some (line_in c.write_back.new.storage c.args.line)) c.grant.ensures.cpus c.grant.ensures.held (change c)
    (move c)
    ∙ (back c).bytes
    ∙ ap (λ v. v.bytes) c.self.view_is

pub invariant_of-self : goal.invariant_of-self
invariant_of-self c =
    table_kept c.self.inside.table c.grant.new.self c.self.inside.copies.items
    (set c.self.inside.copies.items c.args.cpu c.copy_from_storage.new.l1)
    c.write_back.new.storage c.args.cpu c.args.line (Some c.args.mode)
    (Some (line_in c.write_back.new.storage c.args.line)) c.grant.ensures.cpus c.grant.ensures.held (change c)
    (move c) c.requires.line (length-set c.self.inside.copies.items c.args.cpu c.copy_from_storage.new.l1)
    (back c).kept
