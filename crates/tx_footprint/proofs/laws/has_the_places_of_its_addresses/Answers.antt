use Rattle.tx_footprint.proofs.Spans.{address_of, has_place-from}
use Rattle.tx_footprint.proofs.laws.has_the_places_of_its_addresses.Goals as goal

pub returns : goal.returns
returns c = λ size r place. (address_of size r place, λ at. has_place-from size r place at.0 at.1 at.2 at.3)
