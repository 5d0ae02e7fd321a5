use Rattle.tx_serial.proofs.Starting.{start_pages}
use Rattle.tx_serial.proofs.laws.text_pages_are_guarded.Goals as goal

pub returns : goal.returns
returns c = λ image page. start_pages image page
