use Rattle.listing_laws.proofs.Listings.{has_image, no_fault}
use Rattle.listing_laws.proofs.laws.generated_listings_have_images.Goals as goal

pub returns-clause-image : goal.returns-clause-image
returns-clause-image c = has_image

pub returns-clause-no_fault : goal.returns-clause-no_fault
returns-clause-no_fault c = no_fault
