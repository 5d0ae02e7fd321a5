use Rattle.std.proofs.Common.{Decides, ◌+◌, ◌∷◌, take, ◌∙◌, ap, subst, arith}
use Rattle.std.specs.Prelude.{replicate, min}
use Rattle.report_form.specs.declared.words.Name.TheVariants as name
use Rattle.report_form.specs.declared.words.Word.TheVariants.{Fixed, Event}
use Rattle.report_form.specs.Spelling.{Spelled}
use Rattle.report_form.proofs.EntryLines.{events_are}
use Rattle.report_form.proofs.rows.is_events.Goals as goal

pub returns : goal.returns
returns c =
    subst (λ ws. Decides c.is_spelled.result (Spelled ws c.args.line.now))
    (ap (λ n. take (n + 2) (Fixed name.Empty ∷ Fixed name.Sched ∷ replicate 16 (Event c.args.last))) c.min.ensures
    ∙ events_are c.args.last (min c.args.count 16) (omega arith))
    c.is_spelled.ensures
