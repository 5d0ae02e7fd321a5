-- What an event leaves of attempts: of others, of the CPU that has the turn, and so of each.
pub mod Others
pub mod Own
pub mod Opaque
-- what callers name of crates below
pub use Rattle.tx_bounds.proofs.Heads
pub use Rattle.tx_bounds.proofs.Meant
pub use Rattle.tx_bounds.proofs.Running
pub use Rattle.tx_bounds.proofs.Stopped
pub use Rattle.tx_bounds.proofs.Stretched
pub use Rattle.tx_bounds.proofs.OtherTurns
