-- Each turn of the round records an event, and only so many can be recorded.
use Rattle.std.proofs.Common.{◌-◌, length}
use Rattle.tx_schedule.specs.Machine.{most_events, setting_of}
use Rattle.tx_board.specs.Shares.{IsOfSameRun}
use Rattle.tx_board.proofs.finish.finish_round.Given as goal

abbrev pub invariant-loop-cpu : goal.invariant-loop-cpu
invariant-loop-cpu g l = IsOfSameRun l.initial.board.machine l.board.machine

abbrev pub decreases-loop-cpu : goal.decreases-loop-cpu
decreases-loop-cpu g l = most_events (setting_of l.board.machine) - length l.board.machine.events
