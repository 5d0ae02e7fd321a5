use Rattle.std.proofs.Common.{◌∙◌, ℕ, List, subst}
use Rattle.z_assemble.specs.Whole.{FirstFault, HasFault}
use Rattle.listing_answers.proofs.generated.image_for.Goals as goal

pub unreachable-requires : goal.unreachable-requires
unreachable-requires c =
    let fault = c.in-Err-Listing.field-0-0 in
    let first : FirstFault c.as_slice.result.now fault =
    subst (HasFault c.as_slice.result.now) c.in-Err-Listing.field-0-is c.in-Err-Listing.ensures.fault in
    c.generated_listings_have_images.ensures.no_fault c.args.number fault
    (subst (λ (text : List ℕ). FirstFault text fault) (c.as_slice.ensures.value ∙ c.in_ok-listing.ensures) first)
