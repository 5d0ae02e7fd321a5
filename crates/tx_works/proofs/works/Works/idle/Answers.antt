-- Halted, spent, or kept back.
use Rattle.std.proofs.Common.{◌≡◌, ◌<◌, ◌≤◌, sym, ap, ◌∙◌, arith}
use Rattle.tx_meaning.specs.Limits.{RunLimits}
use Rattle.tx_works.specs.Works.{kept_by}
use Rattle.tx_works.proofs.Idling.{halted-is, spent-is, back-is}
use Rattle.tx_works.proofs.works.Works.idle.Goals as goal

pub returns-then-is_finished : goal.returns-then-is_finished
returns-then-is_finished c rest image =
    halted-is (record { image = image; limits = c.args.limits }) (kept_by rest c.args.self.now) c.args.cpu
    (sym (c.is_finished.ensures rest) ∙ c.if-is_finished.true)

pub returns-then-limits-turns : goal.returns-then-limits-turns
returns-then-limits-turns c rest image =
    let k = kept_by rest c.args.self.now in
    let turns : c.limits.inside.turns ≡ c.args.limits.turns = ap (λ (l : RunLimits). l.turns)
    c.limits.view_is in
    let mine = c.turns.ensures rest in
    let spent : c.args.limits.turns ≤ (k.state.numbers c.args.cpu).turns = omega arith in
    spent-is (record { image = image; limits = c.args.limits }) k c.args.cpu
    (sym (c.is_finished.ensures rest) ∙ c.if-is_finished.false) spent

pub returns : goal.returns
returns c rest image =
    let k = kept_by rest c.args.self.now in
    let turns : c.limits.inside.turns ≡ c.args.limits.turns = ap (λ (l : RunLimits). l.turns)
    c.limits.view_is in
    let mine = c.turns.ensures rest in
    let few : (k.state.numbers c.args.cpu).turns < c.args.limits.turns = omega arith in
    back-is (record { image = image; limits = c.args.limits }) k c.args.cpu c.kept_back.result
    (sym (c.is_finished.ensures rest) ∙ c.if-is_finished.false) few c.kept_back.ensures
