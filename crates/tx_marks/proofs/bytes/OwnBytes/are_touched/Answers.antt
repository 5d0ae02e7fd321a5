-- A run of touched bytes has all of these.
use Rattle.std.proofs.Common.{◌+◌, ◌<◌, ltb, leb, sym, ap, ◌∙◌, arith}
use Rattle.std.proofs.lemmas.Bool.{and_parts, leb-true, ltb-true}
use Rattle.tx_lending.specs.Places.{is_among}
use Rattle.tx_marks.specs.Own.{Own, is_touched}
use Rattle.tx_marks.proofs.RunsPlaced.{among_run}
use Rattle.tx_marks.proofs.bytes.OwnBytes.are_touched.Goals as goal

pub returns-then-stay : goal.returns-then-stay
returns-then-stay c = λ all a among.
    let first = c.args.first in
    let end = c.args.first + c.args.length in
    let lies = and_parts (leb first a) (ltb a end)
    (sym (among_run first c.args.length a) ∙ sym (ap (λ places. is_among places a) (c.stay.ensures c.if-stay.true))
    ∙ among) in
    let under : a < first + c.from.result = omega (arith, ltb-true a end lies.1, c.from.ensures) in
    ap (λ (o : Own). is_touched o a) (sym c.self.view_is)
    ∙ c.has_run.ensures.0 all a (leb-true first a lies.0) under
