-- Each line leaves what the next one asks.
use Rattle.std.proofs.Common.{◌≡◌, ◌+◌, ◌*◌, ◌≤◌, length, map, refl, sym, ap}
use Rattle.std.proofs.Common.{◌∙◌, arith}
use Rattle.tx_needs.specs.Needs.{need_at}
use Rattle.tx_meaning.specs.declared.asking.Need.{Need}
use Rattle.tx_meaning.specs.Needs.{needs_of}
use Rattle.tx_keeping.specs.Asking.{k_get_line}
use Rattle.tx_works.specs.Works.{kept_by}
use Rattle.tx_works.specs.Asks.{rejected_in}
use Rattle.tx_works.proofs.Leaves.{leaves_at_most}
use Rattle.tx_works.proofs.Questions.{some_rejected, none_rejected}
use Rattle.tx_needs.proofs.NeededLines.{mapped_lines}
use Rattle.tx_works.proofs.Granted.{still_few, ready_after, ready_for_fewer, got_on}
use Rattle.tx_works.proofs.Granted.{getting_leaves}
use Rattle.tx_works.proofs.Granted.{getting_goes_on, get_refused, all_got}
use Rattle.tx_works.proofs.works.Works.get_each.Goals as goal

pub get_line-refused-requires-clause-few : goal.get_line-refused-requires-clause-few
get_line-refused-requires-clause-few c rest =
    still_few (length c.args.self.now.slots) (c.loop-line.line-index * 16) c.args.cpu c.args.lines.now
    (kept_by rest c.args.self.now) (kept_by rest c.loop-line.self) (c.loop-line.invariant.leaves rest)
    (c.requires.few rest)

pub get_line-refused-requires-clause-ready : goal.get_line-refused-requires-clause-ready
get_line-refused-requires-clause-ready c rest =
    let at = c.loop-line.line-index in
    let few : 16 + at * 16 ≤ 128 = omega (arith, c.loop-line-test.true, c.requires.most) in
    ready_after (at * 16) 16 c.args.cpu rest c.args.self.now c.loop-line.self c.loop-line.invariant.size
    (c.loop-line.invariant.leaves rest)
    (ready_for_fewer (16 + at * 16) 128 c.args.cpu c.args.self.now (kept_by rest c.args.self.now) few
    (c.requires.ready rest))

pub returns-then-is_some-clause-kept : goal.returns-then-is_some-clause-kept
returns-then-is_some-clause-kept c rest m cpus =
    let r = rejected_in c.get_line-refused.result in
    let those : map (λ (need : Need). need.line) (needs_of c.args.ranges.now) ≡ c.args.lines.now =
    sym (ap (map (λ (need : Need). need.line)) c.requires.needed)
    ∙ mapped_lines (need_at c.args.ranges.now) (λ line. refl) c.args.lines.now in
    get_refused m c.args.cpu (needs_of c.args.ranges.now) _ _ (kept_by rest c.get_line-refused.new.self) r
    (some_rejected c.get_line-refused.result ∙ sym c.is_some.ensures ∙ c.if-is_some.true)
    (got_on c.args.cpu c.args.ranges.now c.args.lines.now c.args.self.now c.loop-line.self
    c.get_line-refused.new.self c.loop-line.line-index r c.requires.needed c.loop-line-test.true
    c.loop-line.invariant c.get_line-refused.ensures.size c.get_line-refused.ensures.leaves
    (λ rest m cpus. c.get_line-refused.ensures.kept rest m (needs_of c.args.ranges.now) cpus those
    ∙ ap (λ need. k_get_line m c.args.cpu (needs_of c.args.ranges.now) need (kept_by rest c.loop-line.self))
    c.need_for.ensures) rest m cpus)

pub returns-then-is_some-clause-leaves : goal.returns-then-is_some-clause-leaves
returns-then-is_some-clause-leaves c =
    let those : map (λ (need : Need). need.line) (needs_of c.args.ranges.now) ≡ c.args.lines.now =
    sym (ap (map (λ (need : Need). need.line)) c.requires.needed)
    ∙ mapped_lines (need_at c.args.ranges.now) (λ line. refl) c.args.lines.now in
    getting_leaves c.args.cpu c.args.ranges.now c.args.lines.now c.args.self.now c.loop-line.self
    c.get_line-refused.new.self c.loop-line.line-index (rejected_in c.get_line-refused.result)
    c.requires.needed
    c.loop-line-test.true c.loop-line.invariant c.get_line-refused.ensures.size
    c.get_line-refused.ensures.leaves
    (λ rest m cpus. c.get_line-refused.ensures.kept rest m (needs_of c.args.ranges.now) cpus those
    ∙ ap (λ need. k_get_line m c.args.cpu (needs_of c.args.ranges.now) need (kept_by rest c.loop-line.self))
    c.need_for.ensures) c.requires.most

pub loop-line-preserved : goal.loop-line-preserved
loop-line-preserved c =
    let those : map (λ (need : Need). need.line) (needs_of c.args.ranges.now) ≡ c.args.lines.now =
    sym (ap (map (λ (need : Need). need.line)) c.requires.needed)
    ∙ mapped_lines (need_at c.args.ranges.now) (λ line. refl) c.args.lines.now in
    getting_goes_on c.args.cpu c.args.ranges.now c.args.lines.now c.args.self.now c.loop-line.self
    c.get_line-refused.new.self c.loop-line.line-index (rejected_in c.get_line-refused.result)
    c.requires.needed
    c.loop-line-test.true c.loop-line.invariant c.get_line-refused.ensures.size
    c.get_line-refused.ensures.leaves
    (λ rest m cpus. c.get_line-refused.ensures.kept rest m (needs_of c.args.ranges.now) cpus those
    ∙ ap (λ need. k_get_line m c.args.cpu (needs_of c.args.ranges.now) need (kept_by rest c.loop-line.self))
    c.need_for.ensures)
    (none_rejected c.get_line-refused.result (sym c.is_some.ensures ∙ c.if-is_some.false))

pub returns-clause-kept : goal.returns-clause-kept
returns-clause-kept c =
    all_got c.args.cpu c.args.ranges.now c.args.lines.now c.args.self.now c.loop-line.self
    c.loop-line.line-index c.requires.needed c.loop-line-test.false c.loop-line.invariant

pub returns-clause-leaves : goal.returns-clause-leaves
returns-clause-leaves c rest =
    leaves_at_most (length c.args.self.now.slots) (c.loop-line.line-index * 16) 128 c.args.cpu
    (kept_by rest c.args.self.now) (kept_by rest c.loop-line.self)
    (omega (arith, c.loop-line.auto.line-index-end, c.requires.most)) (c.loop-line.invariant.leaves rest)
