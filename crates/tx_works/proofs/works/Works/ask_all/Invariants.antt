-- Those below the place were asked.
use Rattle.std.proofs.Common.{◌-◌, length}
use Rattle.tx_works.proofs.Questions.{IsAsking}
use Rattle.tx_works.proofs.works.Works.ask_all.Given as goal

abbrev pub invariant-loop-holder : goal.invariant-loop-holder
invariant-loop-holder l = IsAsking l.cpu l.need l.initial.self l.self l.at

abbrev pub decreases-loop-holder : goal.decreases-loop-holder
decreases-loop-holder l = length l.initial.self.slots - l.at
