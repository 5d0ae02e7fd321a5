-- Storage and the holders of its lines, as one.
pub mod Owned
pub mod Lent
pub mod Next
pub mod Spare
-- what callers name of crates below
pub use Rattle.tx_run.specs.Lent as RunLent
pub use Rattle.tx_run.specs.Made
pub use Rattle.tx_run.specs.Own
pub use Rattle.tx_run.specs.Marks
pub use Rattle.tx_run.specs.Traces
pub use Rattle.tx_run.specs.Away
pub use Rattle.tx_run.specs.Stranger
pub use Rattle.tx_run.specs.Turns
pub use Rattle.tx_run.specs.Parts
pub use Rattle.tx_run.specs.Plans
pub use Rattle.tx_run.specs.Going
pub use Rattle.tx_run.specs.Pairs
pub use Rattle.tx_run.specs.Quiet
pub use Rattle.tx_run.specs.Same
pub use Rattle.tx_run.specs.Storages
pub use Rattle.tx_run.specs.Plan
