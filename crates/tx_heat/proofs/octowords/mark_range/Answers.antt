-- A range without bytes has no octoword, and one in storage has none behind its end.
use Rattle.std.proofs.Common.{sym, ap, ◌∙◌}
use Rattle.std.specs.Prelude.{◌||◌}
use Rattle.std.proofs.lemmas.Bool.{and_right}
use Rattle.tx_footprint.specs.Places.{has_place}
use Rattle.tx_footprint.proofs.Spans.{no_bytes}
use Rattle.tx_heat.specs.Marks.{is_marked}
use Rattle.std.proofs.Math.Bool.{or-false}
use Rattle.tx_heat.proofs.octowords.mark_range.Goals as goal

pub returns-then-range-eq0-clause-touched : goal.returns-then-range-eq0-clause-touched
returns-then-range-eq0-clause-touched c = λ k.
    sym (ap (λ b. is_marked c.args.touched.now k || b) (no_bytes 32 c.args.range k c.if-range-eq0.true)
    ∙ or-false (is_marked c.args.touched.now k))

pub returns-then-range-eq0-clause-stored : goal.returns-then-range-eq0-clause-stored
returns-then-range-eq0-clause-stored c = λ k.
    sym (ap (λ b. is_marked c.args.stored.now k || b)
    (and_right c.args.range.store (has_place 32 c.args.range k)
    (no_bytes 32 c.args.range k c.if-range-eq0.true)) ∙ or-false (is_marked c.args.stored.now k))
