-- None of the ranges so far is stored into and has a byte of the line.
use Rattle.std.proofs.Common.{◌≡◌, false, take}
use Rattle.tx_footprint.specs.Places.{stores}
use Rattle.tx_heat.proofs.octowords.is_stored.Given as goal

abbrev pub invariant-loop-i : goal.invariant-loop-i
invariant-loop-i l = stores (take l.i l.ranges) l.line ≡ false
