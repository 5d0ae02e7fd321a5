use Rattle.std.proofs.lemmas.Slice.Eq.{slice_eq-Decides}
use Rattle.tx_journal.proofs.Pictures.{event_decides}
use Rattle.tx_journal.proofs.image.are_same_events.Goals as goal

pub returns : goal.returns
returns c = slice_eq-Decides event_decides c.args.some.now c.args.others.now c.eq.result c.eq.ensures
