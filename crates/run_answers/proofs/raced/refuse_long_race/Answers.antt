use Rattle.run_answers.proofs.RaceReports.{long_race_ok}
use Rattle.run_answers.proofs.raced.refuse_long_race.Goals as goal

pub returns-clause-due : goal.returns-clause-due
returns-clause-due c =
    long_race_ok c.refuse_long_listing.result c.refuse_long_listing.ensures.status c.refuse_long_listing.ensures.text
