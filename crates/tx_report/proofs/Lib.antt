-- Lemmas of what a machine shows.
pub mod Counted
pub mod Numbers
pub mod Places
pub mod Told
-- what callers name of crates below
pub use Rattle.tx_machine.proofs.Laws
pub use Rattle.tx_machine.proofs.Most
pub use Rattle.tx_machine.proofs.Opaque
