use Rattle.std.proofs.Common.{sym, ◌∙◌, arith}
use Rattle.std.specs.Prelude.{slice_index}
use Rattle.std.proofs.lemmas.List.{ext_get_or}
use Rattle.tx_home.specs.Places.{at}
use Rattle.tx_home.specs.declared.place.Place.TheVariants as place
use Rattle.tx_home.proofs.Firsts.{below-found, below-none, at-none}
use Rattle.tx_home.proofs.comparing.unlike_general.Goals as goal

pub returns-in-Some-clause-value : goal.returns-in-Some-clause-value
returns-in-Some-clause-value c =
    below-found (λ n. at (place.General n) (slice_index c.args.kept.now.general n) (slice_index c.args.given.now.general n)) 16
    c.loop-number.number c.in-Some.unlike (omega arith) c.loop-number.invariant.none (sym c.at.ensures ∙ c.in-Some.is)

pub returns-clause-value : goal.returns-clause-value
returns-clause-value c =
    below-none (λ n. at (place.General n) (slice_index c.args.kept.now.general n) (slice_index c.args.given.now.general n)) 16
    (λ n below. c.loop-number.invariant.none n (omega arith))

pub returns-clause-same : goal.returns-clause-same
returns-clause-same c none =
    ext_get_or 0 c.args.kept.now.general c.args.given.now.general (omega arith)
    (λ n below. at-none (place.General n) _ _ (c.loop-number.invariant.none n (omega arith)))
