use Rattle.tx_progress.proofs.Lines.{touched_lines}
use Rattle.tx_progress.proofs.Alike.{followed_alike, followed_by_lines, same_track, same_fate}
use Rattle.tx_progress.proofs.laws.others_stay_followed.Goals as goal

pub returns-clause-lines : goal.returns-clause-lines
returns-clause-lines c = λ f i k a ok exists h. touched_lines f i k a ok exists h

pub returns-clause-touched : goal.returns-clause-touched
returns-clause-touched c = λ f g i local is alike pending waiting. followed_alike f g i local is alike pending
    waiting

pub returns-clause-same : goal.returns-clause-same
returns-clause-same c = λ f g i local is ok same. followed_by_lines f g i local is ok same

pub returns-clause-run : goal.returns-clause-run
returns-clause-run c = λ f g i local is ok same. same_track f g i local is ok same

pub returns-clause-fate : goal.returns-clause-fate
returns-clause-fate c = λ f g i local is ok same. same_fate f g i local is ok same
