-- The lowest at or above the number, or the lowest of all.
use Rattle.std.proofs.Common.{sym, ◌∙◌}
use Rattle.tx_meaning.specs.Schedules.{ready_cpus}
use Rattle.tx_machine.specs.Machine.{setting_of, state_of}
use Rattle.tx_schedule.proofs.Chosen.{round_found, round_lowest}
use Rattle.tx_schedule.proofs.choosing.search_round.Goals as goal

pub returns-in-Some-clause-value : goal.returns-in-Some-clause-value
returns-in-Some-clause-value c =
    let ready = ready_cpus (setting_of c.args.machine.now) (state_of c.args.machine.now) in
    round_found c.args.from c.in-Some.cpu ready (sym c.in-Some.ensures.value)

pub returns-in-None-clause-value : goal.returns-in-None-clause-value
returns-in-None-clause-value c =
    let ready = ready_cpus (setting_of c.args.machine.now) (state_of c.args.machine.now) in
    c.first_ready-in-None.ensures.value ∙ round_lowest c.args.from ready (sym c.in-None.ensures.value)
