-- Answers that are there, unless memory ran out, and what is due to an input that is too long.
pub mod Given
pub mod DecksGiven
pub mod Long
-- what callers name of crates below
pub use Rattle.listing_laws.proofs.Listings
