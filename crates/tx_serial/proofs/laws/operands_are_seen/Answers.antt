use Rattle.tx_serial.proofs.Listed.{bytes_are_seen, stores_are_seen}
use Rattle.tx_serial.proofs.laws.operands_are_seen.Goals as goal

pub returns-clause-bytes : goal.returns-clause-bytes
returns-clause-bytes c = λ prefix storage ranges ok inside. bytes_are_seen prefix storage ranges ok inside

pub returns-clause-stores : goal.returns-clause-stores
returns-clause-stores c = λ prefix storage ranges bytes ok inside. stores_are_seen prefix storage ranges
    bytes ok inside
