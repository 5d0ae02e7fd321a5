use Rattle.listing_answers.proofs.Given.{refusal_ok}
use Rattle.listing_answers.proofs.refused.refuse.Goals as goal

pub returns-in-Listing-clause-refusal : goal.returns-in-Listing-clause-refusal
returns-in-Listing-clause-refusal c =
    refusal_ok c.refuse_fault.result c.args.fault c.in-Listing.fault c.in-Listing.is c.refuse_fault.ensures.status
    c.refuse_fault.ensures.text
