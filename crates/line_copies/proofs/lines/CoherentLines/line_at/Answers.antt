use Rattle.std.proofs.Common.{◌≡◌, ◌+◌, ◌-◌, ◌*◌, take, drop, sym, ap, ◌∙◌, arith, is_some}
use Rattle.line_table.specs.Holders.{mode_in}
use Rattle.l1_data.specs.Copies.{Copies}
use Rattle.line_copies.specs.Coherence.{line_in}
use Rattle.line_copies.specs.Seen.{copied}
use Rattle.line_copies.proofs.Flat.{holder_is}
use Rattle.line_copies.proofs.Shown.{copied_at, line_in_copy, line_in_storage}
use Rattle.line_copies.proofs.lines.CoherentLines.line_at.Goals as goal

pub index-requires : goal.index-requires
index-requires c =
    omega (
      arith,
      c.self.invariant.each,
      (holder_is c.self.inside.table.cpus (λ cpu. mode_in c.self.inside.table cpu c.args.line)
          c.in-Some.holder
          (sym c.in-Some.ensures)).0,
    )

pub copy_of-requires : goal.copy_of-requires
copy_of-requires c =
    let held = holder_is c.self.inside.table.cpus (λ cpu. mode_in c.self.inside.table cpu c.args.line)
    c.in-Some.holder (sym c.in-Some.ensures) in
    ap (λ (k : Copies). is_some (k c.args.line))
    (copied_at c.self.inside.copies.items c.in-Some.holder c.index.result.now (omega (
      arith,
      held.0,
      c.self.invariant.each,
    ))
    c.index.ensures)
    ∙ c.self.invariant.coherent.there c.in-Some.holder c.args.line held.0 ∙ ap is_some held.1

pub returns-in-Some-clause-bytes : goal.returns-in-Some-clause-bytes
returns-in-Some-clause-bytes c =
    let held = holder_is c.self.inside.table.cpus (λ cpu. mode_in c.self.inside.table cpu c.args.line)
    c.in-Some.holder (sym c.in-Some.ensures) in
    line_in_copy c.self.inside.table.cpus (mode_in c.self.inside.table) (copied c.self.inside.copies.items)
    c.self.inside.storage c.in-Some.holder c.args.line c.copy_of.result.now (sym c.in-Some.ensures)
    (ap (λ (k : Copies). k c.args.line) (sym (copied_at c.self.inside.copies.items c.in-Some.holder
    c.index.result.now
    (omega (arith, held.0, c.self.invariant.each)) c.index.ensures)) ∙ c.copy_of.ensures.copy)
    c.copy_of.ensures.size
    (omega (arith, c.self.invariant.size, c.requires))
    ∙ ap (λ bytes. line_in bytes c.args.line) (ap (λ v. v.bytes) c.self.view_is)

pub returns-in-None-clause-bytes : goal.returns-in-None-clause-bytes
returns-in-None-clause-bytes c =
    let size : c.args.line * 256 + 256 - c.args.line * 256 ≡ 256 = omega arith in
    ap (λ n. take n (drop (c.args.line * 256) c.as_slice.result.now)) size
    ∙ ap (λ bytes. line_in bytes c.args.line) c.as_slice.ensures.bytes
    ∙ line_in_storage c.self.inside.table.cpus (mode_in c.self.inside.table) (copied
    c.self.inside.copies.items)
    c.self.inside.storage c.args.line (sym c.in-None.ensures) (omega (
      arith,
      c.self.invariant.size,
      c.requires,
    ))
    ∙ ap (λ bytes. line_in bytes c.args.line) (ap (λ v. v.bytes) c.self.view_is)
