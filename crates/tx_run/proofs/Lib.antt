-- Lemmas of the bytes that a run touches, and of the lines that it has.
pub mod Beginning
pub mod Again
pub mod Frame
pub mod Making
pub mod Starting
pub mod Nexts
pub mod BytesLined
pub mod Lined
pub mod Laid
pub mod Doublewords
pub mod Adding
pub mod Texts
pub mod Taking
mod Unmoved
-- what callers name of crates below
pub use Rattle.tx_cpu.proofs.Agreeing
pub use Rattle.tx_cpu.proofs.Plainly
