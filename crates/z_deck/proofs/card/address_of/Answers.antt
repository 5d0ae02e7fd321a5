use Rattle.std.proofs.Common.{◌<◌, subst, sym, arith}
use Rattle.z_deck.proofs.Cards.{address_low}
use Rattle.z_deck.proofs.card.address_of.Goals as goal

pub overflow_add-result : goal.overflow_add-result
overflow_add-result c =
    let low : c.read_u24.result < 16777216 =
    subst (λ n. n < 16777216) (sym c.read_u24.ensures)
    (address_low c.args.card.now (λ i. (c.type_inv.card i).fits)) in omega (arith, low, c.requires.origin)
