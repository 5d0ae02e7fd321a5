-- What the instruction has told, and what is made of it.
use Rattle.std.proofs.Common.{sym, ap, ◌∙◌}
use Rattle.tx_progress.specs.Doing.{executed}
use Rattle.tx_progress.specs.declared.done.Done.TheVariants as done
use Rattle.tx_keeping.specs.Kept.{beside}
use Rattle.tx_keeping.specs.Turn.{k_inside, next_address}
use Rattle.tx_works.specs.Turned.{turned_as}
use Rattle.tx_works.specs.Works.{kept_by}
use Rattle.tx_works.proofs.Acts.{
  stepped-inside,
  committed-inside,
  ended-inside,
  ended-live,
  ended-may,
  inside_so,
}
use Rattle.tx_works.proofs.Running.{inside-done}
use Rattle.tx_works.proofs.works.Works.tell_inside.Goals as goal

pub returns-in-Stepped-clause-value : goal.returns-in-Stepped-clause-value
returns-in-Stepped-clause-value c rest i need k by at =
    stepped-inside c.args.cpu (next_address k c.args.cpu) k (kept_by rest c.args.self.now) i need
    c.without_reject.result (record { counted = by.counted; live_is = by.live_is })
    (sym c.in-Stepped.is ∙ by.told_is) by.left c.without_reject.ensures
    ∙ inside-done c.args.cpu i need k by.live_is

pub returns-in-Committed-clause-value : goal.returns-in-Committed-clause-value
returns-in-Committed-clause-value c rest i need k by at =
    committed-inside c.args.cpu (next_address k c.args.cpu) c.in-Committed.count k (kept_by rest c.args.self.now)
    (kept_by rest c.commit.new.self) i need c.without_reject-in-Committed.result
    (record { counted = by.counted; live_is = by.live_is }) (sym c.in-Committed.is ∙ by.told_is) by.left
    (c.commit.ensures.value rest) c.without_reject-in-Committed.ensures
    ∙ inside-done c.args.cpu i need k by.live_is

pub end_by-requires-clause-live : goal.end_by-requires-clause-live
end_by-requires-clause-live c rest =
    let was = c.requires.left rest in
    ended-live c.args.cpu c.in-Ended.why was.before (kept_by rest c.args.self.now) was.instr was.need
    (record { counted = was.by.counted; live_is = was.by.live_is }) (sym c.in-Ended.is ∙ was.by.told_is) was.by.left

pub end_by-requires-clause-climbs : goal.end_by-requires-clause-climbs
end_by-requires-clause-climbs c rest =
    let was = c.requires.left rest in
    ended-may c.args.cpu c.in-Ended.why was.before (kept_by rest c.args.self.now) was.instr was.need
    (sym c.in-Ended.is ∙ was.by.told_is)

pub returns-in-Ended-clause-value : goal.returns-in-Ended-clause-value
returns-in-Ended-clause-value c rest i need k by at =
    let e = executed i need (beside k c.args.cpu) in
    ended-inside c.args.cpu c.args.at c.in-Ended.why k (kept_by rest c.args.self.now) i need
    (turned_as (kept_by rest c.end_by.new.self) c.end_by.new.turned) (sym c.in-Ended.is ∙ by.told_is) by.left
    (c.end_by.ensures.value rest)
    ∙ ap (λ at. k_inside c.args.cpu at e.after k e.told) at
    ∙ inside-done c.args.cpu i need k by.live_is

pub returns-in-Began-clause-value : goal.returns-in-Began-clause-value
returns-in-Began-clause-value c rest i need k by at =
    absurd (inside_so c.args.cpu k i need done.Began (record { counted = by.counted; live_is = by.live_is })
    (sym c.in-Began.is ∙ by.told_is))

pub returns-in-Paused-clause-value : goal.returns-in-Paused-clause-value
returns-in-Paused-clause-value c rest i need k by at =
    absurd (inside_so c.args.cpu k i need (done.Paused c.in-Paused.field-0)
    (record { counted = by.counted; live_is = by.live_is }) (sym c.in-Paused.is ∙ by.told_is))

pub returns-in-Interrupted-clause-value : goal.returns-in-Interrupted-clause-value
returns-in-Interrupted-clause-value c rest i need k by at =
    absurd (inside_so c.args.cpu k i need (done.Interrupted c.in-Interrupted.field-0)
    (record { counted = by.counted; live_is = by.live_is }) (sym c.in-Interrupted.is ∙ by.told_is))
