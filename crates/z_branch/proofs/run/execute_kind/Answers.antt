use Rattle.std.proofs.Common.{refl, ap, ◌∙◌}
use Rattle.z_instr.specs.Layout.{form_length}
use Rattle.z_instr.specs.Table.{Entry}
use Rattle.z_instr.specs.declared.kind.Kind.TheVariants.{Branch}
use Rattle.z_effect.proofs.Storeless.{executes}
use Rattle.z_branch.proofs.run.execute_kind.Goals as goal

pub returns-clause-does : goal.returns-clause-does
returns-clause-does g c depth =
    executes depth c.length_in-n.result c.args.instr.now
    (Branch c.args.kind.now) _ _ _ _ _ c.args.instr.now.op.known
    (c.length_in-n.ensures ∙ ap (λ (e : Entry). form_length e.form) c.line.ensures.row)
    c.requires.kind
    refl
    (λ bytes. refl)
    c.run.ensures
