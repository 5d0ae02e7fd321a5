-- Lemmas on places that are marked, and on lines with modes.
pub mod BytesTouched
pub mod MarksNeeded
pub mod MarksEach
pub mod RunsPlaced
-- what callers name of crates below
pub use Rattle.tx_lending.proofs.Along
pub use Rattle.tx_lending.proofs.Leaving
pub use Rattle.tx_lending.proofs.Outside
pub use Rattle.tx_lending.proofs.Stores
pub use Rattle.tx_lending.proofs.Strangers
pub use Rattle.tx_lending.proofs.Turning
pub use Rattle.tx_lending.proofs.Waiting
pub use Rattle.tx_needs.proofs.SmallPlaces
