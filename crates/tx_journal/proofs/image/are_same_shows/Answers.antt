use Rattle.std.proofs.lemmas.Slice.Eq.{slice_eq-Decides}
use Rattle.tx_journal.proofs.Pictures.{show_decides}
use Rattle.tx_journal.proofs.image.are_same_shows.Goals as goal

pub returns : goal.returns
returns c = slice_eq-Decides show_decides c.args.some.now c.args.others.now c.eq.result c.eq.ensures
