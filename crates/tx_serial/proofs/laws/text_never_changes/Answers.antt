use Rattle.tx_serial.proofs.Starting.{start_kept, replay_kept, replay_keeps_text, replay_keeps_pages}
use Rattle.tx_serial.proofs.TextKept.{entry_keeps, entry_keeps_text}
use Rattle.tx_serial.proofs.TextStays.{copy_keeps_text}
use Rattle.tx_serial.proofs.laws.text_never_changes.Goals as goal

pub returns-clause-copy : goal.returns-clause-copy
returns-clause-copy c = λ f i k ok. copy_keeps_text f i k ok

pub returns-clause-start : goal.returns-clause-start
returns-clause-start c = λ image is. start_kept image is

pub returns-clause-kept : goal.returns-clause-kept
returns-clause-kept c = λ f after e kept h. entry_keeps f after e kept h

pub returns-clause-entry : goal.returns-clause-entry
returns-clause-entry c = λ f after e kept h. entry_keeps_text f after e kept h

pub returns-clause-pages : goal.returns-clause-pages
returns-clause-pages c = λ image history after is h. replay_keeps_pages image history after is h

pub returns-clause-history : goal.returns-clause-history
returns-clause-history c = λ image history after is h. replay_keeps_text image history after is h

pub returns-clause-replayed : goal.returns-clause-replayed
returns-clause-replayed c = λ image history after is h. replay_kept image history after is h
