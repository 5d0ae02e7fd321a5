use Rattle.std.proofs.Common.{◌/◌, ◌∙◌}
use Rattle.std.specs.Prelude.{◌==◌}
use Rattle.tx_footprint.specs.Sizes.{line_size, block_size}
use Rattle.tx_serial.proofs.Copies.{run_lasting}
use Rattle.tx_serial.proofs.StoredPlaces.{stored_places}
use Rattle.tx_serial.proofs.laws.stored_places_are_those_of_stores.Goals as goal

pub returns-clause-lines : goal.returns-clause-lines
returns-clause-lines c = λ f i k line ok. stored_places line_size f i k line ok

pub returns-clause-blocks : goal.returns-clause-blocks
returns-clause-blocks c = λ f i k block ok. stored_places block_size f i k block ok

pub returns-clause-lasting : goal.returns-clause-lasting
returns-clause-lasting c = λ f i k line ok h.
    stored_places line_size f i k line ok ∙ run_lasting (λ s. s.address / line_size == line) f i k h
