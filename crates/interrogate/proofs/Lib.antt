-- Which answers come.
pub mod Cases
-- what callers name of crates below
pub use Rattle.tx_footprint.proofs.Limits
pub use Rattle.tx_footprint.proofs.Spans
