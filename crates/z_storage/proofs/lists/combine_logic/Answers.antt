use Rattle.std.proofs.Common.{◌≡◌, ◌||◌, nat_le, ◌+◌, true, ap, sym, ◌∙◌}
use Rattle.z_effect.specs.After.{range_at, written}
use Rattle.z_effect.specs.StorageEffect.{results}
use Rattle.z_instr.specs.declared.kind.Combination.TheVariants.{Logic}
use Rattle.z_storage.proofs.Combined.{all_zero}
use Rattle.z_storage.proofs.Moves.{apart_cases, no_lead}
use Rattle.z_storage.proofs.lists.combine_logic.Goals as goal

pub returns-then-are_apart : goal.returns-then-are_apart
returns-then-are_apart g c =
    let s = g.V.Bytes.bytes c.args.view.now in
    let n = c.args.count in
    let test : (nat_le c.args.target c.args.source || nat_le (c.args.source + n) c.args.target) ≡ true =
    sym c.are_apart.ensures ∙ c.if-are_apart.true in
    let ahead = sym (no_lead n c.args.target c.args.source (apart_cases n c.args.target c.args.source test)) in
    record {
      stored = c.combine_apart.ensures.stored
          ∙ ap (λ j. written s c.args.target (results n (Logic c.args.kind) j (range_at s c.args.target n)
          (range_at s c.args.source n))) ahead;
      zero = c.combine_apart.ensures.zero
          ∙ ap (λ j. all_zero (results n (Logic c.args.kind) j (range_at s c.args.target n)
          (range_at s c.args.source n))) ahead;
    }
