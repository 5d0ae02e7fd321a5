-- What is kept after an event, as the meaning tells it.
use Rattle.tx_meaning.specs.Turn.{Turned}
use Rattle.tx_keeping.specs.Turn.{KTurned}

abbrev pub turned_of : KTurned → Turned
turned_of q = record { state = q.kept.state; outcome = q.outcome; reject = q.reject }
