use Rattle.std.proofs.Common.{ap}
use Rattle.tx_report.specs.Machine.{Seen}
use Rattle.run_answers.proofs.raced.prepare_race.Goals as goal

pub returns-in_ok-open_for_race-in-Ok-clause-machine : goal.returns-in_ok-open_for_race-in-Ok-clause-machine
returns-in_ok-open_for_race-in-Ok-clause-machine c = record {
  image = c.in-Ok.image;
  stands = c.in-Ok.ensures.image;
  is = c.in_ok-open_for_race-in-Ok.ensures;
}

pub returns-in_ok-open_for_race-in-Ok-clause-unused : goal.returns-in_ok-open_for_race-in-Ok-clause-unused
returns-in_ok-open_for_race-in-Ok-clause-unused c = ap (λ (v : Seen). v.events) c.in_ok-open_for_race-in-Ok.ensures

pub returns-in_ok-open_for_race-in-Ok-clause-externals : goal.returns-in_ok-open_for_race-in-Ok-clause-externals
returns-in_ok-open_for_race-in-Ok-clause-externals c = ap (λ (v : Seen). v.limits.externals) c.in_ok-open_for_race-in-Ok.ensures

pub returns-in_ok-refuse-in-Err-clause-refused : goal.returns-in_ok-refuse-in-Err-clause-refused
returns-in_ok-refuse-in-Err-clause-refused c = c.in_ok-refuse-in-Err.ensures.refusal c.args.input.now c.in-Err.ensures.fault
