-- Both were asked.
use Rattle.tx_cpu.proofs.plain.keeps_limits_counted.Goals as goal

pub returns : goal.returns
returns c so = record {
  text = c.keeps_constraints.ensures.text c.if-not-keeps_constraints.false;
  place = c.keeps_constraints.ensures.place c.if-not-keeps_constraints.false;
  fits = c.fits.ensures so;
}
