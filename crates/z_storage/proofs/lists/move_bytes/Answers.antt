use Rattle.std.proofs.Common.{◌≡◌, ◌||◌, nat_le, ◌+◌, true, ap, sym, ◌∙◌, arith}
use Rattle.z_effect.specs.After.{written}
use Rattle.z_storage.proofs.Moves.{apart_cases, moved_results}
use Rattle.z_storage.proofs.lists.move_bytes.Goals as goal

pub returns-then-are_apart : goal.returns-then-are_apart
returns-then-are_apart g c =
    let s = g.V.Bytes.bytes c.args.view.now in
    let test : (nat_le c.args.target c.args.source || nat_le (c.args.source + c.args.count) c.args.target) ≡ true =
    sym c.are_apart.ensures ∙ c.if-are_apart.true in
    c.move_apart.ensures
    ∙ ap (written s c.args.target)
    (sym (moved_results s c.args.target c.args.source c.args.count
    (omega (arith, c.requires.size, c.requires.source_in))
    (apart_cases c.args.count c.args.target c.args.source test)))
