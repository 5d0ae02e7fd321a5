-- Bytes and lines of storage, as a run has touched and needed them.
pub mod Own
pub mod Paged
pub mod Marks
pub mod Traces
-- what callers name of crates below
pub use Rattle.tx_lending.specs.Away
pub use Rattle.tx_lending.specs.Places
pub use Rattle.tx_lending.specs.Stranger
pub use Rattle.tx_lending.specs.Turns
pub use Rattle.tx_lending.specs.Asking
pub use Rattle.tx_lending.specs.Needs
pub use Rattle.tx_lending.specs.Need
