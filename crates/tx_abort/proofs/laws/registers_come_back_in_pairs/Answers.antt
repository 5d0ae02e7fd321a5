use Rattle.std.proofs.Common.{cond, get_or, ap, ◌∙◌}
use Rattle.tx_abort.proofs.Pairs.{restored-all, restored-none, get_or-restored}
use Rattle.tx_abort.proofs.laws.registers_come_back_in_pairs.Goals as goal

pub returns-clause-all : goal.returns-clause-all
returns-clause-all c = restored-all

pub returns-clause-none : goal.returns-clause-none
returns-clause-none c = restored-none

pub returns-clause-selected : goal.returns-clause-selected
returns-clause-selected c = λ saved general mask r h e.
    get_or-restored saved general mask r h ∙ ap (λ b. cond b (get_or saved r 0) (get_or general r 0)) e

pub returns-clause-others : goal.returns-clause-others
returns-clause-others c = λ saved general mask r h e.
    get_or-restored saved general mask r h ∙ ap (λ b. cond b (get_or saved r 0) (get_or general r 0)) e
