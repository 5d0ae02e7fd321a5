-- The bytes of a block lie in storage.
use Rattle.std.proofs.Common.{◌≡◌, ◌≤◌, ◌+◌, sym, ap, subst, ◌∙◌, List, [], ◌∷◌, ◌++◌}
use Rattle.std.specs.Prelude.{All}
use Rattle.z_regs.specs.Absolute.{absolute_ranges}
use Rattle.z_regs.specs.Prefix.{storage_size}
use Rattle.z_regs.specs.declared.ranges.Range.{Range}
use Rattle.tx_meaning.specs.Needs.{stored}
use Rattle.tx_needs.proofs.SmallPlaces.{ranges-small, ranges-inside, block-place, one-place}
use Rattle.tx_works.proofs.places.block_places.Goals as goal

pub returns-in-None-clause-value : goal.returns-in-None-clause-value
returns-in-None-clause-value c =
    c.add.ensures ∙ ap (λ (l : List Range). l ++ stored c.args.address 256 ∷ []) c.none-block.ensures
    ∙ one-place c.args.prefix (stored c.args.address 256) c.in-None.is

pub returns-in-Some-clause-small : goal.returns-in-Some-clause-small
returns-in-Some-clause-small c =
    let block : c.add.new.self ≡ stored c.args.address 256 ∷ [] =
    c.add.ensures ∙ ap (λ (l : List Range). l ++ stored c.args.address 256 ∷ []) c.none-block.ensures in
    let places : c.absolute.result ≡ absolute_ranges c.args.prefix (stored c.args.address 256 ∷ []) =
    c.absolute.ensures ∙ ap (absolute_ranges c.args.prefix) block in
    subst (λ (rs : List Range). All (λ (r : Range). r.length ≤ 256) rs) (sym places)
    (ranges-small c.args.prefix (stored c.args.address 256 ∷ []) c.requires.prefix_in
    (block-place c.args.address c.requires.inside))

pub returns-in-Some-clause-in_storage : goal.returns-in-Some-clause-in_storage
returns-in-Some-clause-in_storage c =
    let block : c.add.new.self ≡ stored c.args.address 256 ∷ [] =
    c.add.ensures ∙ ap (λ (l : List Range). l ++ stored c.args.address 256 ∷ []) c.none-block.ensures in
    let places : c.absolute.result ≡ absolute_ranges c.args.prefix (stored c.args.address 256 ∷ []) =
    c.absolute.ensures ∙ ap (absolute_ranges c.args.prefix) block in
    subst (λ (rs : List Range). All (λ (r : Range). r.first + r.length ≤ storage_size) rs) (sym places)
    (ranges-inside c.args.prefix (stored c.args.address 256 ∷ []) c.requires.prefix_in
    (block-place c.args.address c.requires.inside))
