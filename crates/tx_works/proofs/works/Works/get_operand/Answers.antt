-- The one line that it needs is asked for, or it needs none.
use Rattle.std.proofs.Common.{◌≡◌, map, List, [], ◌∷◌, sym, ap, ◌∙◌, arith}
use Rattle.tx_meaning.specs.declared.asking.Need.{Need}
use Rattle.tx_meaning.specs.Needs.{operand_needs}
use Rattle.tx_keeping.specs.Asking.{k_get_lines}
use Rattle.tx_program.specs.Shapes.{touched_by}
use Rattle.tx_works.specs.Works.{kept_by}
use Rattle.tx_works.proofs.Granted.{few_needed}
use Rattle.tx_works.proofs.Plainly.{nothing-needed}
use Rattle.tx_works.proofs.works.Works.get_operand.Goals as goal

pub get_only-requires-clause-few : goal.get_only-requires-clause-few
get_only-requires-clause-few c rest =
    let k = kept_by rest c.args.self.now in
    let shape = c.args.shape in
    let needs = operand_needs (k.locals c.args.cpu).attempt.cpu.prefix (touched_by shape.touch c.args.first shape.size) in
    let those : map (λ (need : Need). need.line) needs ≡ c.in-Some.need.line ∷ [] =
    ap (map (λ (need : Need). need.line))
    (c.in-Some.ensures.some (k.locals c.args.cpu).attempt.cpu.prefix (c.requires.bare rest)) in
    few_needed c.args.cpu needs (c.in-Some.need.line ∷ []) k those (c.requires.holds rest)

pub returns-in-Some-clause-kept : goal.returns-in-Some-clause-kept
returns-in-Some-clause-kept c rest m cpus =
    let k = kept_by rest c.args.self.now in
    c.get_only.ensures.kept rest m cpus
    ∙ ap (λ (needs : List Need). k_get_lines m c.args.cpu needs k)
    (sym (c.in-Some.ensures.some (k.locals c.args.cpu).attempt.cpu.prefix (c.requires.bare rest)))

pub returns-in-Some-clause-turn : goal.returns-in-Some-clause-turn
returns-in-Some-clause-turn c rest =
    let turn = c.requires.turn rest in
    let left = (c.get_only.ensures.leaves rest).counts 0 record {
      attempts = turn.attempts;
      completed = turn.completed;
      asked = omega (arith, turn.asked);
    } in
    record { attempts = left.attempts; completed = left.completed; asked = left.asked }

pub returns-clause-kept : goal.returns-clause-kept
returns-clause-kept c rest m cpus =
    let k = kept_by rest c.args.self.now in
    nothing-needed m c.args.cpu k _
    (c.in_default.ensures.none (k.locals c.args.cpu).attempt.cpu.prefix (c.requires.bare rest))
