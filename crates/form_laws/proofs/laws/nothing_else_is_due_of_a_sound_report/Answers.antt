use Rattle.std.proofs.Common.{◌≡◌, ℕ, Ok, Err}
use Rattle.std.specs.Prelude.{Result}
use Rattle.tx_check.specs.declared.checking.CheckFault.{CheckFault}
use Rattle.tx_check.specs.declared.checking.CheckFault.TheVariants.{Memory}
use Rattle.form_laws.proofs.Accepted.{accepted}
use Rattle.form_laws.proofs.laws.nothing_else_is_due_of_a_sound_report.Goals as goal

no_fault : (entries : ℕ) → ◌≡◌ {A = Result ℕ CheckFault} (Ok entries) (Err Memory) → ⊥
no_fault entries is = absurd cc

pub returns : goal.returns
returns c = λ image report entries answer sound other due.
    c.one_answer_is_due.ensures.once image report answer (Ok entries) other (no_fault entries) due
    (accepted image report entries sound)
