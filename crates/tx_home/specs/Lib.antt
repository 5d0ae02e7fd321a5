-- What comes home to a machine: a run, as so many turns of its CPU.
pub mod Places
pub mod Taken
pub mod Lending
-- what callers name of crates below
pub use Rattle.tx_works.specs.Works
pub use Rattle.tx_works.specs.Ready
pub use Rattle.tx_works.specs.Wanted
pub use Rattle.tx_works.specs.Owned
pub use Rattle.tx_works.specs.RunLent
pub use Rattle.tx_works.specs.declared.slot as DeclaredSlot
pub use Rattle.tx_works.specs.Parts
pub use Rattle.tx_works.specs.Plans
pub use Rattle.tx_works.specs.Keeping
pub use Rattle.tx_works.specs.Kept
pub use Rattle.tx_works.specs.Told
pub use Rattle.tx_works.specs.Turn
pub use Rattle.tx_works.specs.Local
pub use Rattle.tx_works.specs.Progress
pub use Rattle.tx_works.specs.Reached
pub use Rattle.tx_works.specs.Trial
