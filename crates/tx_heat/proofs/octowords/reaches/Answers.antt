-- A range without bytes has no place.
use Rattle.std.proofs.Common.{sym}
use Rattle.tx_footprint.proofs.Spans.{no_bytes}
use Rattle.tx_heat.proofs.octowords.reaches.Goals as goal

pub returns-then-range-eq0 : goal.returns-then-range-eq0
returns-then-range-eq0 c = sym (no_bytes c.args.size c.args.range c.args.place c.if-range-eq0.true)
