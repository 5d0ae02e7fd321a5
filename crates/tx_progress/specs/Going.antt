-- An attempt that goes on as another one.
use Rattle.tx_serial.specs.Overlay.{Overlay}
use Rattle.tx_progress.specs.Progress.{Progress}

-- it has come as far as the other, and has these stores; what it stored to last, and where the program goes on after an
-- abort, are its own
abbrev pub goes_on_with : Overlay → Progress → Progress → Progress
goes_on_with stores other own = record other {
  overlay = stores;
  lasting = own.lasting;
  resumes_at = own.resumes_at;
}
