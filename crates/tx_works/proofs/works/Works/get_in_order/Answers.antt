-- The lines of ranges that lie in storage are lines of storage.
use Rattle.std.proofs.Common.{◌≡◌, map, List, ℕ, refl, sym, ap, subst, ◌∙◌}
use Rattle.std.specs.Prelude.{All, ◌<◌}
use Rattle.line_table.specs.Sizes.{storage_lines}
use Rattle.tx_needs.specs.Needs.{need_at}
use Rattle.tx_meaning.specs.declared.asking.Need.{Need}
use Rattle.tx_meaning.specs.Needs.{needs_of}
use Rattle.tx_works.specs.Works.{kept_by}
use Rattle.tx_works.specs.Asks.{IsFew}
use Rattle.tx_needs.proofs.NeededLines.{needed_in_storage, mapped_lines}
use Rattle.tx_works.proofs.Granted.{few_needed}
use Rattle.tx_works.proofs.works.Works.get_in_order.Goals as goal

pub get_each-requires-clause-known : goal.get_each-requires-clause-known
get_each-requires-clause-known c =
    subst (All (λ line. line < storage_lines)) (sym c.as_slice.ensures.value)
    (needed_in_storage c.args.ranges.now c.lines_needed-lines.result.items c.requires.in_storage
    c.lines_needed-lines.ensures)

pub get_each-requires-clause-few : goal.get_each-requires-clause-few
get_each-requires-clause-few c rest =
    let those : map (λ (need : Need). need.line) (needs_of c.args.ranges.now)
    ≡ c.lines_needed-lines.result.items =
    sym (ap (map (λ (need : Need). need.line)) c.lines_needed-lines.ensures)
    ∙ mapped_lines (need_at c.args.ranges.now) (λ line. refl) c.lines_needed-lines.result.items in
    subst (λ (lines : List ℕ). IsFew c.args.cpu lines (kept_by rest c.args.self.now))
    (sym c.as_slice.ensures.value)
    (few_needed c.args.cpu (needs_of c.args.ranges.now) c.lines_needed-lines.result.items
    (kept_by rest c.args.self.now) those (c.requires.holds rest))
