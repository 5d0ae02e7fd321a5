use Rattle.std.proofs.Common.{IfOk, Err, sym, subst}
use Rattle.tx_check.specs.declared.checking.CheckFault.{CheckFault}
use Rattle.run_answers.specs.Checks.{Says}
use Rattle.listing_answers.proofs.Given.{both}
use Rattle.run_answers.proofs.checked.refuse_report.Goals as goal

pub returns-in-Form-clause-says : goal.returns-in-Form-clause-says
returns-in-Form-clause-says c =
    subst (λ (f : CheckFault). IfOk c.refuse_at.result (λ a. Says (Err f) a.status a.text.items)) (sym c.in-Form.is)
    (both c.refuse_at.result (λ a s t. (s, t)) c.refuse_at.ensures.status c.refuse_at.ensures.text)

pub returns-in-Entry-clause-says : goal.returns-in-Entry-clause-says
returns-in-Entry-clause-says c =
    subst (λ (f : CheckFault). IfOk c.refuse_at-in-Entry.result (λ a. Says (Err f) a.status a.text.items)) (sym c.in-Entry.is)
    (both c.refuse_at-in-Entry.result (λ a s t. (s, t)) c.refuse_at-in-Entry.ensures.status c.refuse_at-in-Entry.ensures.text)

pub returns-in-State-clause-says : goal.returns-in-State-clause-says
returns-in-State-clause-says c =
    subst (λ (f : CheckFault). IfOk c.refuse_at-in-State.result (λ a. Says (Err f) a.status a.text.items)) (sym c.in-State.is)
    (both c.refuse_at-in-State.result (λ a s t. (s, t)) c.refuse_at-in-State.ensures.status c.refuse_at-in-State.ensures.text)
