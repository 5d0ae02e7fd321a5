use Rattle.z_text.proofs.Added.{other_added, other_kept, on_error}
use Rattle.z_text.proofs.labels.Labels.add_other.Goals as goal

pub returns-in_err-insert-clause-err : goal.returns-in_err-insert-clause-err
returns-in_err-insert-clause-err c =
    on_error c.from_residual-in_err-insert.result _
    (λ q. other_kept c.args.self.now c.insert.new.self q c.in_err-insert.ensures.err)

pub returns-clause-ok : goal.returns-clause-ok
returns-clause-ok c = λ q.
    other_added c.args.self.now c.insert.new.self c.args.name.now c.args.value c.in_ok-key.key q c.requires
    c.in_ok-key.ensures.items c.in_ok-insert.ensures.entries
