-- What came of an event, beside what is kept after it.
use Rattle.tx_keeping.specs.Kept.{Kept}
use Rattle.tx_keeping.specs.Turn.{KTurned}
use Rattle.tx_works.specs.declared.acting.Turned.{Turned}

abbrev pub turned_as : Kept → Turned → KTurned
turned_as k t = record { kept = k; outcome = t.outcome; reject = t.reject }
