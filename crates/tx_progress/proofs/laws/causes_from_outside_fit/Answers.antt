use Rattle.tx_progress.proofs.Endings.{external_fits, store_conflict_fits, fetch_conflict_fits, starved_fits}
use Rattle.tx_progress.proofs.laws.causes_from_outside_fit.Goals as goal

pub returns-clause-external : goal.returns-clause-external
returns-clause-external c = λ f i local is. external_fits f i local is

pub returns-clause-stored : goal.returns-clause-stored
returns-clause-stored c = λ f i line local is h. store_conflict_fits f i line local is h

pub returns-clause-fetched : goal.returns-clause-fetched
returns-clause-fetched c = λ f i line local is h n. fetch_conflict_fits f i line local is h n

pub returns-clause-starved : goal.returns-clause-starved
returns-clause-starved c = λ f i local instr r rs is n h. starved_fits f i local instr r rs is n h
