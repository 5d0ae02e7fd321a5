-- Where both ranges are held, all that they need is there.
use Rattle.std.proofs.Common.{◌≡◌, [], ◌∷◌, length, sym, subst, arith}
use Rattle.std.specs.Prelude.{All}
use Rattle.std.proofs.lemmas.List.Elements.{All-nil, All-cons}
use Rattle.tx_lines.specs.Owned.{holders_in}
use Rattle.tx_works.specs.Held.{IsHeld}
use Rattle.tx_works.proofs.Held.{two_elements, all-there}
use Rattle.tx_works.proofs.works.Works.holds_both.Goals as goal

pub returns-then-holds_range : goal.returns-then-holds_range
returns-then-holds_range c held =
    let holds = IsHeld (holders_in c.args.self.now.lines c.args.cpu) in
    let counted : length c.args.ranges.now ≡ 2 = omega (arith, c.count.ensures.value, c.if-count-ne2.false) in
    let first = c.at.result in
    let second = c.at-then-holds_range.result in
    all-there (holders_in c.args.self.now.lines c.args.cpu) c.args.ranges.now
    (subst (All holds)
    (sym (two_elements c.args.ranges.now first second counted c.at.ensures c.at-then-holds_range.ensures))
    (All-cons holds first (second ∷ []) (c.holds_range.ensures c.if-holds_range.true)
    (All-cons holds second [] (c.holds_range-then-holds_range.ensures held) (All-nil holds))))
