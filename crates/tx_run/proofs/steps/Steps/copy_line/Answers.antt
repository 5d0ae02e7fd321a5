-- No byte of text changes, and there is no step.
use Rattle.std.proofs.Common.{ap, ◌∙◌, ◌/◌}
use Rattle.std.specs.Prelude.{nat_eq, if◌then◌else◌}
use Rattle.tx_marks.specs.Own.{bytes_at, line_bytes}
use Rattle.tx_run.specs.Made.{Made}
use Rattle.tx_run.proofs.Lined.{lined-made}
use Rattle.tx_run.proofs.steps.Steps.copy_line.Goals as goal

pub returns-clause-made : goal.returns-clause-made
returns-clause-made c text image free made =
    let v = c.self.view_is in
    lined-made text image c.args.self.now _ c.args.line (line_bytes c.args.bytes.now) made c.requires.none
    (ap (λ (m : Made). m.steps) v) (ap (λ (m : Made). m.start) v) (ap (λ (m : Made). m.reached) v)
    (c.copy_line.ensures.touched ∙ ap (λ (m : Made). m.own.touched) v) (ap (λ (m : Made). m.traces) v) (ap (λ (m : Made). m.needed) v) free
    (λ a. c.copy_line.ensures.now a
    ∙ ap (λ (m : Made). if nat_eq (a / 256) c.args.line then line_bytes c.args.bytes.now a
    else bytes_at m.own.now a) v)
