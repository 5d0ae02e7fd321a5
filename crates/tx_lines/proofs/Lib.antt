-- Lemmas of requests and grants.
pub mod Next
pub mod Granting
pub mod SameGrant
pub mod Lent
-- what callers name of crates below
pub use Rattle.tx_run.proofs.Doublewords
pub use Rattle.tx_run.proofs.Agreeing
pub use Rattle.tx_run.proofs.Plainly
