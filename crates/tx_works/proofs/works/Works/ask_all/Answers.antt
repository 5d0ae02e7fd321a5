-- Each question leaves what the next one asks; those below the place stand against the request no longer.
use Rattle.std.proofs.Common.{◌+◌, ◌<◌, ◌≤◌, length, sym, ◌∙◌, arith, rules}
use Rattle.tx_works.specs.Works.{kept_by}
use Rattle.tx_works.specs.Asks.{rejected_in}
use Rattle.tx_works.proofs.Leaves.{leaves_at_most}
use Rattle.tx_works.proofs.Questions.{asking_begins, first_asked, asked_other, asked_stands}
use Rattle.tx_works.proofs.Questions.{asked_on}
use Rattle.tx_works.proofs.Questions.{leaves_on, head_on, asking_goes_on, asked_some, asked_none}
use Rattle.tx_works.proofs.Questions.{nobody_left, later}
use Rattle.tx_works.proofs.Questions.{some_rejected, none_rejected}
use Rattle.tx_works.proofs.Granted.{ready_after, ready_for_fewer}
use Rattle.tx_works.proofs.works.Works.ask_all.Goals as goal

pub loop-holder-init : goal.loop-holder-init
loop-holder-init c = asking_begins c.args.cpu c.args.need c.args.self.now

pub ask-refused-requires-clause-holder : goal.ask-refused-requires-clause-holder
ask-refused-requires-clause-holder c =
    let first = first_asked c.args.cpu c.args.need c.args.self.now c.loop-holder.self c.loop-holder.at
    c.in-Some.holder c.loop-holder.invariant c.in-Some.ensures.value in
    omega (arith, first.high, c.loop-holder.invariant.size.cpus)

pub ask-refused-requires-clause-other : goal.ask-refused-requires-clause-other
ask-refused-requires-clause-other c =
    asked_other c.args.cpu c.args.need c.args.self.now c.loop-holder.self c.loop-holder.at c.in-Some.holder
    c.loop-holder.invariant c.in-Some.ensures.value

pub ask-refused-requires-clause-stands : goal.ask-refused-requires-clause-stands
ask-refused-requires-clause-stands c =
    asked_stands c.args.cpu c.args.need c.args.self.now c.loop-holder.self c.loop-holder.at c.in-Some.holder
    c.loop-holder.invariant c.in-Some.ensures.value

pub ask-refused-requires-clause-ready : goal.ask-refused-requires-clause-ready
ask-refused-requires-clause-ready c rest =
    let first = first_asked c.args.cpu c.args.need c.args.self.now c.loop-holder.self c.loop-holder.at
    c.in-Some.holder c.loop-holder.invariant c.in-Some.ensures.value in
    let few : 1 + c.loop-holder.at ≤ 16 =
    omega (arith, first.low, first.high, c.loop-holder.invariant.size.cpus, c.in-Some.ensures.few) in
    ready_after c.loop-holder.at 1 c.args.cpu rest c.args.self.now c.loop-holder.self
    c.loop-holder.invariant.size (c.loop-holder.invariant.leaves rest)
    (ready_for_fewer (1 + c.loop-holder.at) 16 c.args.cpu c.args.self.now (kept_by rest c.args.self.now) few
    (c.requires.ready rest))

pub returns-then-is_some-clause-kept : goal.returns-then-is_some-clause-kept
returns-then-is_some-clause-kept c rest =
    let r = rejected_in c.ask-refused.result in
    asked_some c.args.cpu c.args.need
    (later c.args.cpu c.args.need c.args.self.now c.loop-holder.self c.ask-refused.new.self c.loop-holder.at
    c.in-Some.holder r c.requires.cpu c.loop-holder.invariant c.in-Some.ensures.value
    c.ask-refused.ensures.size
    c.ask-refused.ensures.kept) _ (kept_by rest c.ask-refused.new.self) r
    (some_rejected c.ask-refused.result ∙ sym c.is_some.ensures ∙ c.if-is_some.true)
    (asked_on c.args.cpu c.args.need c.args.self.now c.loop-holder.self c.ask-refused.new.self
    c.loop-holder.at
    c.in-Some.holder r c.requires.cpu c.loop-holder.invariant c.in-Some.ensures.value
    c.ask-refused.ensures.size
    c.ask-refused.ensures.kept rest)

pub returns-then-is_some-clause-leaves : goal.returns-then-is_some-clause-leaves
returns-then-is_some-clause-leaves c rest =
    let few : length c.args.self.now.slots ≤ 16 =
    omega (arith, c.loop-holder.invariant.size.cpus, c.in-Some.ensures.few) in
    leaves_on c.args.cpu c.args.need c.args.self.now c.loop-holder.self c.ask-refused.new.self
    c.loop-holder.at
    c.in-Some.holder (rejected_in c.ask-refused.result) c.requires.cpu c.loop-holder.invariant
    c.in-Some.ensures.value c.ask-refused.ensures.size c.ask-refused.ensures.kept few rest

pub returns-then-is_some-clause-refused : goal.returns-then-is_some-clause-refused
returns-then-is_some-clause-refused c rest some =
    head_on c.args.cpu c.args.need c.args.self.now c.loop-holder.self c.ask-refused.new.self c.loop-holder.at
    c.in-Some.holder (rejected_in c.ask-refused.result) c.requires.cpu c.loop-holder.invariant
    c.in-Some.ensures.value c.ask-refused.ensures.size c.ask-refused.ensures.kept rest
    (some_rejected c.ask-refused.result ∙ some)

pub overflow_add-at : goal.overflow_add-at
overflow_add-at c =
    let first = first_asked c.args.cpu c.args.need c.args.self.now c.loop-holder.self c.loop-holder.at
    c.in-Some.holder c.loop-holder.invariant c.in-Some.ensures.value in
    let small : c.in-Some.holder < 16 =
    omega (arith, first.high, c.loop-holder.invariant.size.cpus, c.in-Some.ensures.few) in
    search (rules, small)

pub loop-holder-smaller : goal.loop-holder-smaller
loop-holder-smaller c =
    let first = first_asked c.args.cpu c.args.need c.args.self.now c.loop-holder.self c.loop-holder.at
    c.in-Some.holder c.loop-holder.invariant c.in-Some.ensures.value in
    omega (arith, first.low, first.high)

pub loop-holder-preserved : goal.loop-holder-preserved
loop-holder-preserved c =
    asking_goes_on c.args.cpu c.args.need c.args.self.now c.loop-holder.self c.ask-refused.new.self
    c.loop-holder.at
    c.in-Some.holder (rejected_in c.ask-refused.result) c.requires.cpu c.loop-holder.invariant
    c.in-Some.ensures.value c.ask-refused.ensures.size c.ask-refused.ensures.kept
    (none_rejected c.ask-refused.result (sym c.is_some.ensures ∙ c.if-is_some.false))

pub returns-clause-kept : goal.returns-clause-kept
returns-clause-kept c rest =
    asked_none c.args.cpu c.args.need c.args.self.now c.loop-holder.self c.loop-holder.at
    c.loop-holder.invariant
    c.in_default.ensures.value rest

pub returns-clause-free : goal.returns-clause-free
returns-clause-free c none =
    nobody_left c.args.cpu c.args.need c.args.self.now c.loop-holder.self c.loop-holder.at
    c.loop-holder.invariant
    c.in_default.ensures.value

pub returns-clause-leaves : goal.returns-clause-leaves
returns-clause-leaves c rest =
    leaves_at_most (length c.args.self.now.slots) c.loop-holder.at 16 c.args.cpu
    (kept_by rest c.args.self.now)
    (kept_by rest c.loop-holder.self)
    (omega (
      arith,
      c.loop-holder.invariant.within,
      c.loop-holder.invariant.size.cpus,
      c.in_default.ensures.few,
    ))
    (c.loop-holder.invariant.leaves rest)
