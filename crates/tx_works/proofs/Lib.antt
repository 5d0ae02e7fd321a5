-- Tables of CPUs, questions, turns.
pub mod Tables
pub mod Seats
pub mod Changed
pub mod Leaves
pub mod Against
pub mod Questions
pub mod Running
pub mod Granted
pub mod Made
pub mod Climbing
pub mod Told
pub mod Own
pub mod Acts
pub mod Idling
pub mod Lined
pub mod Wanted
pub mod Turns
pub mod Plainly
pub mod Held
-- what callers name of crates below
pub use Rattle.tx_lines.proofs.Doublewords
pub use Rattle.tx_keeping.proofs.Events
pub use Rattle.tx_keeping.proofs.Moves
pub use Rattle.tx_keeping.proofs.Needed
pub use Rattle.tx_keeping.proofs.Room as KeepingRoom
pub use Rattle.tx_keeping.proofs.Truth
pub use Rattle.tx_keeping.proofs.Turning
pub use Rattle.tx_progress.proofs.Parts
