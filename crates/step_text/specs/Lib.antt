-- What commands show of a run.
pub mod Replies
-- what callers name of crates below
pub use Rattle.tx_step.specs.Traces
