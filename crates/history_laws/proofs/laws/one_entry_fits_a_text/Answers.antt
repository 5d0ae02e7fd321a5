use Rattle.history_laws.proofs.Fitting.{one_fits}
use Rattle.history_laws.proofs.laws.one_entry_fits_a_text.Goals as goal

pub returns : goal.returns
returns c = one_fits
