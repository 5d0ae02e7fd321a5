-- The machine of several CPUs, as what its events mean.
pub mod Limits
pub mod Hits
pub mod State
pub mod Needs
pub mod Changes
pub mod Asking
pub mod Idle
pub mod IdleOutcomes
pub mod Turn
pub mod Meaning
pub mod Schedules
pub mod Stretches
pub mod Queues
pub mod Room
pub mod Heads
pub mod Views
pub mod Shown
-- what callers name of crates below
pub use Rattle.tx_serial.specs.Flat
pub use Rattle.tx_serial.specs.Apply
pub use Rattle.tx_serial.specs.History
