-- What the instruction has told, and what is made of it.
use Rattle.std.proofs.Common.{sym, ap, ◌∙◌}
use Rattle.tx_progress.specs.Doing.{executed}
use Rattle.tx_progress.specs.declared.done.Done.TheVariants as done
use Rattle.tx_keeping.specs.Kept.{beside}
use Rattle.tx_works.specs.Works.{Works, kept_by}
use Rattle.tx_works.proofs.Acts.{stepped-outside, paused-outside, interrupted-outside, began-outside}
use Rattle.tx_works.proofs.Acts.{outside_so, left-attempts}
use Rattle.tx_works.proofs.Running.{outside-done}
use Rattle.tx_works.proofs.works.Works.tell_outside.Goals as goal

pub count_begin-requires-clause-counts : goal.count_begin-requires-clause-counts
count_begin-requires-clause-counts c rest =
    let was = c.requires.left rest in
    left-attempts c.args.cpu (executed was.instr was.need (beside was.before c.args.cpu)).after was.before
    (kept_by rest c.args.self.now) was.by.left was.by.may.begins

pub returns-in-Began-clause-value : goal.returns-in-Began-clause-value
returns-in-Began-clause-value c rest i need k by =
    began-outside c.args.cpu c.is_constrained-constrained.result k (kept_by rest c.args.self.now)
    (kept_by rest c.count_begin.new.self) i need c.without_reject.result
    (record { counted = by.counted; live_is = by.live_is }) (by.may.rested by.live_is)
    (sym c.in-Began.is ∙ by.told_is) by.left (c.is_constrained-constrained.ensures rest)
    (c.count_begin.ensures.value rest) c.without_reject.ensures
    ∙ outside-done c.args.cpu i need k by.live_is

pub returns-in-Stepped-clause-value : goal.returns-in-Stepped-clause-value
returns-in-Stepped-clause-value c rest i need k by =
    stepped-outside c.args.cpu k (kept_by rest c.args.self.now) (kept_by rest c.write.new.self) i need
    c.without_reject-in-Stepped.result (record { counted = by.counted; live_is = by.live_is })
    (sym c.in-Stepped.is ∙ by.told_is) by.left (ap (λ (w : Works). kept_by rest w) c.write.ensures)
    c.without_reject-in-Stepped.ensures
    ∙ outside-done c.args.cpu i need k by.live_is

pub returns-in-Paused-clause-value : goal.returns-in-Paused-clause-value
returns-in-Paused-clause-value c rest i need k by =
    paused-outside c.args.cpu c.in-Paused.turns k (kept_by rest c.args.self.now)
    (kept_by rest c.write-in-Paused.new.self) (kept_by rest c.delay.new.self) i need
    c.without_reject-in-Paused.result (record { counted = by.counted; live_is = by.live_is })
    (sym c.in-Paused.is ∙ by.told_is) by.left (ap (λ (w : Works). kept_by rest w) c.write-in-Paused.ensures)
    (c.delay.ensures.value rest) c.without_reject-in-Paused.ensures
    ∙ outside-done c.args.cpu i need k by.live_is

pub returns-in-Interrupted-clause-value : goal.returns-in-Interrupted-clause-value
returns-in-Interrupted-clause-value c rest i need k by =
    interrupted-outside c.args.cpu c.in-Interrupted.code k (kept_by rest c.args.self.now)
    (kept_by rest c.write-in-Interrupted.new.self) i need c.without_reject-in-Interrupted.result
    (record { counted = by.counted; live_is = by.live_is }) (sym c.in-Interrupted.is ∙ by.told_is) by.left
    (ap (λ (w : Works). kept_by rest w) c.write-in-Interrupted.ensures) c.without_reject-in-Interrupted.ensures
    ∙ outside-done c.args.cpu i need k by.live_is

pub returns-in-Committed-clause-value : goal.returns-in-Committed-clause-value
returns-in-Committed-clause-value c rest i need k by =
    absurd (outside_so c.args.cpu k i need (done.Committed c.in-Committed.field-0)
    (record { counted = by.counted; live_is = by.live_is }) (sym c.in-Committed.is ∙ by.told_is))

pub returns-in-Ended-clause-value : goal.returns-in-Ended-clause-value
returns-in-Ended-clause-value c rest i need k by =
    absurd (outside_so c.args.cpu k i need (done.Ended c.in-Ended.field-0)
    (record { counted = by.counted; live_is = by.live_is }) (sym c.in-Ended.is ∙ by.told_is))
