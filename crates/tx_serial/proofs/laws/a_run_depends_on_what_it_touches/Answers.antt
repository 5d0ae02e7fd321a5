use Rattle.tx_serial.proofs.Entries.{remains_alike}
use Rattle.tx_serial.proofs.Frame.{run_alike, ending_alike, fits_alike}
use Rattle.tx_serial.proofs.laws.a_run_depends_on_what_it_touches.Goals as goal

pub returns-clause-run : goal.returns-clause-run
returns-clause-run c = λ f g i k alike. run_alike f g i k alike

pub returns-clause-ending : goal.returns-clause-ending
returns-clause-ending c = λ f g i k alike. ending_alike f g i k (run_alike f g i k alike) alike

pub returns-clause-causes : goal.returns-clause-causes
returns-clause-causes c = λ f g i k why alike.
    fits_alike f g i k why (run_alike f g i k alike) alike

pub returns-clause-remains : goal.returns-clause-remains
returns-clause-remains c = λ f g i k why alike.
    remains_alike f g i k why alike.cpu (run_alike f g i k alike)
