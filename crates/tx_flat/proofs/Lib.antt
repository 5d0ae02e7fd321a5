-- What entries leave of storage, of the slot of their CPU, and of the copies.
pub mod Applied
pub mod Begun
pub mod Room
pub mod Aborted
pub mod Stepping
pub mod Machines
pub mod Near
pub mod Kept
-- what callers name of crates below
pub use Rattle.tx_private.proofs.Laid
