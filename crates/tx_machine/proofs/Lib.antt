-- What a machine is, and how it goes on.
pub mod Shown
pub mod Most
pub mod Read
pub mod Opened
pub mod Going
pub mod Happened
pub mod Laws
pub mod Behind
pub mod Places
pub mod Homes
pub mod Runner
-- what callers name of crates below
pub use Rattle.tx_opacity.proofs.Others
pub use Rattle.tx_opacity.proofs.Own
pub use Rattle.tx_headline.proofs.Recorded
pub use Rattle.tx_opacity.proofs.Opaque
pub use Rattle.tx_opacity.proofs.OtherTurns
