-- Worked values, copies and stores, runs on states that agree, what entries change, and causes, those of tests being small.
pub mod Examples
mod Neighbours
pub mod Lasting
pub mod Copies
pub mod FreeCauses
pub mod Frame
pub mod Entries
pub mod SameCauses
pub mod Listed
pub mod Passing
pub mod FreeOperands
pub mod Reached
pub mod TextStays
pub mod TextKept
pub mod StoredBytes
pub mod StoredPlaces
pub mod Starting
pub mod SmallCauses
-- what callers name of crates below
pub use Rattle.z_touch.proofs.Reach
pub use Rattle.z_touch.proofs.SmallRanges
