-- A range in one line is held where this line is.
use Rattle.std.proofs.Common.{◌/◌, ℕ, sym, ap, ◌∙◌}
use Rattle.tx_lines.specs.Owned.{holders_in}
use Rattle.line_table.specs.declared.table.Mode.{Mode}
use Rattle.tx_meaning.specs.Asking.{is_there}
use Rattle.tx_works.proofs.Held.{held-in-line}
use Rattle.tx_works.proofs.works.Works.holds_range.Goals as goal

pub returns-in-Some : goal.returns-in-Some
returns-in-Some c held =
    let modes = holders_in c.args.self.now.lines c.args.cpu in
    held-in-line modes c.args.range c.in-Some.ensures.within
    (ap (λ (mode : Mode). is_there mode (modes (c.args.range.first / 256))) (sym c.in-Some.ensures.mode)
    ∙ ap (λ (line : ℕ). is_there c.in-Some.need.mode (modes line)) (sym c.in-Some.ensures.line)
    ∙ sym c.is_there.ensures ∙ held)
