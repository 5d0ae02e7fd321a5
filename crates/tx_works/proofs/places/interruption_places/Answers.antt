-- The places of an interruption, one after the other.
use Rattle.std.proofs.Common.{◌≡◌, ap, ◌∙◌, List, [], ◌∷◌, ◌++◌}
use Rattle.z_regs.specs.Prefix.{absolute_of}
use Rattle.z_regs.specs.declared.ranges.Range.{Range}
use Rattle.tx_meaning.specs.Needs.{stored}
use Rattle.tx_needs.proofs.SmallPlaces.{interruption-plain, interruption-block}
use Rattle.tx_works.proofs.places.interruption_places.Goals as goal

pub returns-then-block-clause-value : goal.returns-then-block-clause-value
returns-then-block-clause-value c bytes is =
    let first : c.put_low.new.places ≡ stored (absolute_of c.args.prefix 0x8c) 4 ∷ [] =
    c.put_low.ensures ∙ ap (λ (l : List Range). l ++ stored (absolute_of c.args.prefix 0x8c) 4 ∷ [])
    c.none-places.ensures in
    let second = c.put_low-2.ensures
    ∙ ap (λ (l : List Range). l ++ stored (absolute_of c.args.prefix 0x150) 16 ∷ []) first in
    let third = c.put_low-3.ensures
    ∙ ap (λ (l : List Range). l ++ stored (absolute_of c.args.prefix 0x1d0) 16 ∷ []) second in
    c.put_low-then-block.ensures
    ∙ ap (λ (l : List Range). l ++ stored (absolute_of c.args.prefix 0x1800) 256 ∷ []) third
    ∙ interruption-block c.args.prefix bytes (is ∙ c.if-block.true)

pub returns-clause-value : goal.returns-clause-value
returns-clause-value c bytes is =
    let first : c.put_low.new.places ≡ stored (absolute_of c.args.prefix 0x8c) 4 ∷ [] =
    c.put_low.ensures ∙ ap (λ (l : List Range). l ++ stored (absolute_of c.args.prefix 0x8c) 4 ∷ [])
    c.none-places.ensures in
    let second = c.put_low-2.ensures
    ∙ ap (λ (l : List Range). l ++ stored (absolute_of c.args.prefix 0x150) 16 ∷ []) first in
    let third = c.put_low-3.ensures
    ∙ ap (λ (l : List Range). l ++ stored (absolute_of c.args.prefix 0x1d0) 16 ∷ []) second in
    third ∙ interruption-plain c.args.prefix bytes (is ∙ c.if-block.false)
