-- What is counted is the heat of what is recorded.
use Rattle.std.proofs.Common.{ap, ◌∙◌}
use Rattle.tx_schedule.specs.Machine.{Seen}
use Rattle.tx_heat.specs.Heats.{heat_of}
use Rattle.tx_heat.proofs.Measured.{heat_is}
use Rattle.tx_heat.proofs.measuring.Counting.heat.Goals as goal

pub returns : goal.returns
returns c =
    let inside = c.self.inside in
    c.of.ensures
    ∙ heat_is inside.machine inside.tracks.items inside.lines.items c.are_finished-finished.result c.self.invariant
    c.are_finished-finished.ensures
    ∙ ap (λ (s : Seen). heat_of s.image s.limits s.events) c.self.view_is
