-- By computing.
use Rattle.std.proofs.Common.{refl}
use Rattle.tx_footprint.specs.Places.{has_place}
use Rattle.tx_heat.specs.Octowords.{are_apart, asks, meets}
use Rattle.tx_heat.proofs.laws.octowords_are_32_bytes.Goals as goal

pub returns : goal.returns
unfolding are_apart asks meets has_place
returns c = record {
  other = refl;
  same = refl;
  bytes = refl;
  next = refl;
  loads = refl;
  store = refl;
  elsewhere = refl;
}
