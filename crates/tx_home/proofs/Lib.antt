-- Lemmas on runs that come home.
pub mod Firsts
pub mod Resting
pub mod Alike
pub mod Brought
-- what callers name of crates below
pub use Rattle.tx_works.proofs.Turns
pub use Rattle.tx_works.proofs.Events
pub use Rattle.tx_works.proofs.Moves
pub use Rattle.tx_works.proofs.Needed
pub use Rattle.tx_works.proofs.KeepingRoom
pub use Rattle.tx_works.proofs.Truth
pub use Rattle.tx_works.proofs.Turning
pub use Rattle.tx_works.proofs.Parts
