-- Worked runs of several events, the walk through an event of the machine that keeps, the stop queue, and
-- constrained transactions under way.
mod Examples
pub mod Walk
pub mod Stopping
pub mod Stopped
pub mod Meant
pub mod Again
pub mod Running
pub mod Resuming
pub mod UnderWay
pub mod OtherTurns
pub mod AtBegin
pub mod OwnTurns
pub mod OwnActs
pub mod OwnEvents
pub mod Stretched
pub mod Potential
pub mod OwnEnds
pub mod Room
pub mod Barred
pub mod Paid
pub mod News
pub mod Heads
-- what callers name of crates below
pub use Rattle.tx_keeping.proofs.Asking
pub use Rattle.tx_keeping.proofs.Events
pub use Rattle.tx_keeping.proofs.Getting
pub use Rattle.tx_keeping.proofs.Moves
pub use Rattle.tx_keeping.proofs.Truth
pub use Rattle.tx_keeping.proofs.Turning
pub use Rattle.tx_progress.proofs.Quiet
pub use Rattle.tx_serial.proofs.Entries
