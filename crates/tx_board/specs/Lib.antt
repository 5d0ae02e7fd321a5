-- What shares count, and what a race makes of a machine.
pub mod Shares
-- what callers name of crates below
pub use Rattle.tx_schedule.specs.Ran
pub use Rattle.tx_schedule.specs.Machine
