-- Of a line in a text page nothing changes.
use Rattle.std.proofs.Common.{◌/◌, sym, ap, ◌∙◌}
use Rattle.std.specs.Prelude.{nat_eq}
use Rattle.std.specs.FinSet.{items}
use Rattle.std.specs.FinSet as set
use Rattle.std.specs.List.{list_any}
use Rattle.z_touch.proofs.SmallRanges.{any-items}
use Rattle.tx_marks.specs.Own.{bytes_at, line_bytes}
use Rattle.tx_run.proofs.BytesLined.{kept-line, taken-line}
use Rattle.tx_run.proofs.steps.Steps.take_line.Goals as goal

pub returns-then-has-clause-bytes : goal.returns-then-has-clause-bytes
returns-then-has-clause-bytes c a =
    let page = c.args.line / 16 in
    let guard = c.args.program.now.guard in
    kept-line (nat_eq (a / 256) c.args.line) (list_any (nat_eq page) (items guard))
    (line_bytes c.args.bytes.now a) (bytes_at c.args.self.now.own.now a)
    (any-items guard page ∙ ap (λ s. set.contains s page) (sym c.guard.ensures) ∙ sym c.has.ensures.there
    ∙ c.if-has.true)

pub returns-clause-made : goal.returns-clause-made
returns-clause-made c =
    let page = c.args.line / 16 in
    let guard = c.args.program.now.guard in
    c.copy_line.ensures.made (items guard) c.args.program.now.storage
    (any-items guard page ∙ ap (λ s. set.contains s page) (sym c.guard.ensures) ∙ sym c.has.ensures.there
    ∙ c.if-has.false) c.requires.made

pub returns-clause-bytes : goal.returns-clause-bytes
returns-clause-bytes c a =
    let page = c.args.line / 16 in
    let guard = c.args.program.now.guard in
    c.copy_line.ensures.bytes a
    ∙ taken-line (nat_eq (a / 256) c.args.line) (list_any (nat_eq page) (items guard))
    (line_bytes c.args.bytes.now a) (bytes_at c.args.self.now.own.now a)
    (any-items guard page ∙ ap (λ s. set.contains s page) (sym c.guard.ensures) ∙ sym c.has.ensures.there
    ∙ c.if-has.false)
