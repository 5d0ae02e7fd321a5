use Rattle.tx_serial.proofs.Entries.{entry_changes}
use Rattle.tx_serial.proofs.laws.an_entry_changes_its_cpu_alone.Goals as goal

pub returns : goal.returns
returns c = λ f after e h. entry_changes f after e h
