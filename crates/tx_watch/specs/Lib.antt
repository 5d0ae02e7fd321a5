-- Which turns and entries of a run are looked at.
pub mod Window
pub mod Replay
-- what callers name of crates below
pub use Rattle.tx_step.specs.Machine
