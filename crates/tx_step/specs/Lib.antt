-- What is shown of a machine, lines that are stored into, and a run that is looked at.
pub mod Sights
pub mod Stored
pub mod Traces
pub mod Moves
-- what callers name of crates below
pub use Rattle.tx_machine.specs.Machine
