-- What is not marked stays.
use Rattle.std.proofs.Common.{◌≡◌, ◌<◌, true, ap, subst, ◌∙◌, length}
use Rattle.tx_progress.specs.Doing.{executed}
use Rattle.tx_progress.specs.Progress.{is_live}
use Rattle.tx_cpu.specs.Parts.{Parts, local_of}
use Rattle.tx_run.specs.Made.{Made, now}
use Rattle.tx_run.specs.contracts.steps.Steps.{the_view}
use Rattle.tx_run.proofs.Starting.{executed-starts, executed-by}
use Rattle.tx_run.proofs.steps.Steps.execute.Goals as goal

pub returns-clause-start : goal.returns-clause-start
returns-clause-start c =
    let i = c.args.instr.now in
    let need = c.args.need.now in
    let whole = ap the_view c.self-inside.view_is ∙ c.self.view_is in
    executed-starts c.args.self.now _ i need
    (ap (λ (m : Made). m.start) whole)
    (ap (λ (m : Made). m.own.before) whole)
    (ap (λ (m : Made). m.own.touched) whole)
    (executed-by _ i need c.deref_mut.result.now _ _ c.execute.ensures.value c.deref_mut.ensures.value
    ∙ ap (λ (m : Made). (executed i need (now m)).after) whole)
    c.requires.plain
    (subst (λ (p : Parts). is_live (local_of p).attempt ≡ true → 0 < length (local_of p).attempt.nest)
    c.reached.ensures c.is_sound.ensures.opens)
    c.requires.touched
