-- All that a machine keeps, as data.
pub mod Works
pub mod Ready
pub mod Asks
pub mod Steps
pub mod Turned
pub mod InTurn
pub mod Executing
pub mod Wanted
pub mod Plainly
pub mod Held
-- what callers name of crates below
pub use Rattle.tx_lines.specs.Owned
pub use Rattle.tx_lines.specs.Lent as LinesLent
pub use Rattle.tx_lines.specs.RunLent
pub use Rattle.tx_lines.specs.Made as RunMade
pub use Rattle.tx_lines.specs.Own
pub use Rattle.tx_lines.specs.Marks
pub use Rattle.tx_lines.specs.Traces
pub use Rattle.tx_lines.specs.Away
pub use Rattle.tx_lines.specs.Stranger
pub use Rattle.tx_lines.specs.Turns
pub use Rattle.tx_lines.specs.Parts
pub use Rattle.tx_lines.specs.Same
pub use Rattle.tx_lines.specs.Plans
pub use Rattle.tx_keeping.specs.Keeping
pub use Rattle.tx_keeping.specs.Kept
pub use Rattle.tx_keeping.specs.Turn
pub use Rattle.tx_keeping.specs.Told
pub use Rattle.tx_progress.specs.Local
pub use Rattle.tx_progress.specs.Progress
pub use Rattle.tx_progress.specs.Reached
pub use Rattle.tx_progress.specs.Trial
