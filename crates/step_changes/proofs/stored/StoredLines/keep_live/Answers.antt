-- The lines of a live attempt pass the test.
use Rattle.std.proofs.Common.{rules, ◌∙◌, ap}
use Rattle.std.proofs.lemmas.Fn.{filter_same}
use Rattle.step_changes.specs.Stored.{has, may_be_live}
use Rattle.step_changes.specs.declared.stored.StoredLine.{StoredLine}
use Rattle.step_changes.proofs.Lined.{kept_has}
use Rattle.step_changes.proofs.stored.StoredLines.keep_live.Goals as goal

pub returns : goal.returns
returns c i n live there =
    let cpus = c.args.cpus.now in
    let test = λ (l : StoredLine). may_be_live cpus l.cpu in
    let kept = filter_same _ test _ (λ x b f k. search rules) _ _ c.retain.ensures.filtered in
    ap (λ l. has l i n) kept
    ∙ kept_has test i n (λ l is. ap (may_be_live cpus) is ∙ live) c.self.inside.lines.items
    (ap (λ l. has l i n) c.self.view_is ∙ there)
