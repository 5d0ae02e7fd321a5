use Rattle.std.proofs.Common.{◌≡◌, ◌++◌, take}
use Rattle.report_text.specs.Storage.{shows_text}
use Rattle.report_text.proofs.storage.add_shows.Given as goal

abbrev pub invariant-loop-show : goal.invariant-loop-show
invariant-loop-show g l =
    l.text.items
    ≡ l.initial.text.items ++ shows_text (g.S.SharedBytes.bytes l.storage) (take l.show-index l.shows)
