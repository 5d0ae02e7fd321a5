-- The ones end where the other word has its lowest one.
use Rattle.std.proofs.Common.{◌≡◌, ◌<◌, ◌+◌, ◌-◌, ap, ◌∙◌, arith}
use Rattle.bit_set.specs.Bits.{bit}
use Rattle.bit_set.proofs.Words.{one_where_none, none_where_one}
use Rattle.bit_set.proofs.word.ones_from.Goals as goal

pub returns-in-Some-clause-ones : goal.returns-in-Some-clause-ones
returns-in-Some-clause-ones c i le lt =
    let lowest = c.in-Some.ensures.found in
    one_where_none c.args.word i c.ranges.word.fits (omega (arith, lowest.within, lt))
    (lowest.first i le (omega (arith, lowest.from_on, lt)))

pub returns-in-Some-clause-end : goal.returns-in-Some-clause-end
returns-in-Some-clause-end c lt =
    let lowest = c.in-Some.ensures.found in
    let there : c.args.from + (c.in-Some.at - c.args.from) ≡ c.in-Some.at = omega (arith, lowest.from_on) in
    ap (bit c.args.word) there
    ∙ none_where_one c.args.word c.in-Some.at c.ranges.word.fits lowest.within lowest.set

pub returns-in-None-clause-ones : goal.returns-in-None-clause-ones
returns-in-None-clause-ones c i le lt =
    let within : i < 64 = omega (arith, lt) in
    one_where_none c.args.word i c.ranges.word.fits within (c.in-None.ensures.none i le within)
