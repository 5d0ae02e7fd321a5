-- What a machine is seen as, and what it begins with.
pub mod Machine
pub mod Opened
pub mod Runs
pub mod Lending
-- what callers name of crates below
pub use Rattle.tx_home.specs.Wanted
pub use Rattle.tx_home.specs.Lending as HomeLending
pub use Rattle.tx_home.specs.Places
pub use Rattle.tx_opacity.specs.Opacity
