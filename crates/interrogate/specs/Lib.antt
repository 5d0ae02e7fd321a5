-- What a holder answers.
pub mod Replies
-- what callers name of crates below
pub use Rattle.tx_footprint.specs.Places
pub use Rattle.tx_footprint.specs.Sizes
pub use Rattle.tx_footprint.specs.Touched
