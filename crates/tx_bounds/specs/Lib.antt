-- What is said of a CPU in the middle of a constrained transaction, and of the head of the stop queue.
pub mod Stretches
-- what callers name of crates below
pub use Rattle.tx_keeping.specs.Asking
pub use Rattle.tx_keeping.specs.Keeping
pub use Rattle.tx_keeping.specs.Kept
pub use Rattle.tx_keeping.specs.Told
pub use Rattle.tx_keeping.specs.Turn
pub use Rattle.tx_keeping.specs.Moves
pub use Rattle.tx_progress.specs.Local
pub use Rattle.tx_progress.specs.Doing
pub use Rattle.tx_progress.specs.Trial
pub use Rattle.tx_progress.specs.declared.done.Done
pub use Rattle.tx_serial.specs.Flat
