use Rattle.std.proofs.Common.{◌<◌, sym, ap, ◌∙◌, arith}
use Rattle.line_table.specs.Holders.{mode_in}
use Rattle.l1_data.specs.Copies.{Copies}
use Rattle.line_copies.specs.Coherence.{line_in}
use Rattle.line_copies.specs.Seen.{copied}
use Rattle.line_copies.proofs.Shown.{copied_at}
use Rattle.line_copies.proofs.Moves.{line_of_holder}
use Rattle.line_copies.proofs.lines.CoherentLines.line_for.Goals as goal

pub returns-in-Some-find-clause-bytes : goal.returns-in-Some-find-clause-bytes
returns-in-Some-find-clause-bytes c =
    let seen : c.in-Some.cpu < c.args.self.now.cpus = rw c.in-Some.is at c.requires.cpu in
    let low : c.in-Some.cpu < c.self.inside.table.cpus = omega
    (arith, seen, ap (λ v. v.cpus) c.self.view_is) in
    line_of_holder c.self.inside.table.cpus (mode_in c.self.inside.table) (copied c.self.inside.copies.items)
    c.self.inside.storage c.in-Some.cpu c.args.line c.in-Some-find.copy.now c.self.invariant.coherent low
    (ap (λ (k : Copies). k c.args.line) (sym (copied_at c.self.inside.copies.items c.in-Some.cpu
    c.index.result.now
    (omega (arith, low, c.self.invariant.each)) c.index.ensures)) ∙ c.in-Some-find.ensures.copy)
    (omega (arith, c.requires.line, c.self.invariant.size))
    ∙ ap (λ v. line_in v.bytes c.args.line) c.self.view_is
