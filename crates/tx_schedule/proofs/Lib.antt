-- Who is next, and runs event by event.
pub mod Chosen
pub mod Runs
-- what callers name of crates below
pub use Rattle.tx_machine.proofs.Laws
pub use Rattle.tx_machine.proofs.Most
pub use Rattle.tx_machine.proofs.Recorded
pub use Rattle.tx_machine.proofs.Others
pub use Rattle.tx_machine.proofs.Own
pub use Rattle.tx_machine.proofs.OtherTurns
