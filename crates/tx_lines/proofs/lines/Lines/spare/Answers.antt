-- A line that the CPU does not hold is passed over; one that it holds is unused or not.
use Rattle.std.proofs.Common.{◌<◌, ap, sym, ◌∙◌, arith, is_some}
use Rattle.line_table.specs.Sizes.{storage_lines}
use Rattle.tx_footprint.specs.Touched.{sets_of}
use Rattle.tx_lines.specs.Owned.{holders_in}
use Rattle.tx_lines.specs.Next.{first_of}
use Rattle.tx_lines.specs.Spare.{may_give_up}
use Rattle.tx_lines.proofs.Next.{found_next, passed_one, found_none, keeps_none, keeps_held}
use Rattle.tx_lines.proofs.lines.Lines.spare.Goals as goal

pub returns-then-is_free-clause-value : goal.returns-then-is_free-clause-value
returns-then-is_free-clause-value c =
    let held = holders_in c.args.self.now in
    let sets = sets_of c.args.footprint.now in
    let needed = c.args.needed.now in
    let found = (c.in-Some.ensures).found in
    found_next (may_give_up held c.args.cpu sets needed) storage_lines c.loop-line.at c.in-Some.line
    ((c.in-Some.ensures).in_range) found.from_on
    (λ k low high. keeps_none held c.args.cpu sets needed k
    (sym (ap (λ v. holders_in v c.args.cpu k) c.self.view_is) ∙ found.first k low high))
    (keeps_held held c.args.cpu sets needed c.in-Some.line
    (sym (ap (λ v. is_some (holders_in v c.args.cpu c.in-Some.line)) c.self.view_is) ∙ found.held)
    ∙ sym (c.if-is_free.ensures))
    ∙ sym (ap first_of c.loop-line.invariant.0)

pub loop-line-preserved : goal.loop-line-preserved
loop-line-preserved c =
    let held = holders_in c.args.self.now in
    let sets = sets_of c.args.footprint.now in
    let needed = c.args.needed.now in
    let found = (c.in-Some.ensures).found in
    let within : c.in-Some.line < storage_lines = (c.in-Some.ensures).in_range in (
      c.loop-line.invariant.0
          ∙ passed_one (may_give_up held c.args.cpu sets needed) storage_lines c.loop-line.at c.in-Some.line within
          found.from_on
          (λ k low high. keeps_none held c.args.cpu sets needed k
          (sym (ap (λ v. holders_in v c.args.cpu k) c.self.view_is) ∙ found.first k low high))
          (keeps_held held c.args.cpu sets needed c.in-Some.line
          (sym (ap (λ v. is_some (holders_in v c.args.cpu c.in-Some.line)) c.self.view_is) ∙ found.held)
          ∙ sym (c.if-is_free.ensures)),
      omega arith,
    )

pub returns-clause-value : goal.returns-clause-value
returns-clause-value c =
    let held = holders_in c.args.self.now in
    let sets = sets_of c.args.footprint.now in
    let needed = c.args.needed.now in
    found_none (may_give_up held c.args.cpu sets needed) storage_lines c.loop-line.at c.loop-line.invariant.1
    (λ k low. keeps_none held c.args.cpu sets needed k
    (sym (ap (λ v. holders_in v c.args.cpu k) c.self.view_is) ∙ (c.in_default.ensures).none k low))
    ∙ sym (ap first_of c.loop-line.invariant.0)
