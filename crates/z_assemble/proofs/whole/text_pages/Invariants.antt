use Rattle.std.proofs.Common.{◌≡◌, drop}
use Rattle.std.specs.FinSet.{empty}
use Rattle.z_assemble.specs.Whole.{pages_with}
use Rattle.z_assemble.proofs.whole.text_pages.Given as goal

abbrev pub invariant-loop-start : goal.invariant-loop-start
invariant-loop-start l = pages_with l.storage (drop l.start-index l.starts) l.guard ≡ pages_with l.storage
    l.starts empty
