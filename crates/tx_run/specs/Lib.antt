-- Runs: turns of a CPU on storage of its own.
pub mod Made
pub mod Lent
-- what callers name of crates below
pub use Rattle.tx_marks.specs.Own
pub use Rattle.tx_marks.specs.Marks
pub use Rattle.tx_marks.specs.Traces
pub use Rattle.tx_marks.specs.Away
pub use Rattle.tx_marks.specs.Stranger
pub use Rattle.tx_marks.specs.Turns
pub use Rattle.tx_cpu.specs.Parts
pub use Rattle.tx_cpu.specs.Plans
pub use Rattle.tx_cpu.specs.Going
pub use Rattle.tx_cpu.specs.Pairs
pub use Rattle.tx_cpu.specs.Shapes
pub use Rattle.tx_cpu.specs.Quiet
pub use Rattle.tx_cpu.specs.Same
pub use Rattle.tx_cpu.specs.Storages
pub use Rattle.tx_cpu.specs.declared.plan.Plan
pub use Rattle.tx_progress.specs.Doing
pub use Rattle.tx_progress.specs.Local
pub use Rattle.tx_progress.specs.Progress
