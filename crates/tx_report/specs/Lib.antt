-- What a state of a machine shows, and the report and the short summary of events.
pub mod Ends
pub mod Shown
pub mod Report
-- what callers name of crates below
pub use Rattle.tx_machine.specs.Machine
pub use Rattle.tx_machine.specs.Opacity
