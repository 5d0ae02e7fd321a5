-- What a run by a schedule makes of a machine.
pub mod Next
pub mod Ran
-- what callers name of crates below
pub use Rattle.tx_machine.specs.Machine
pub use Rattle.tx_machine.specs.Lending
pub use Rattle.tx_machine.specs.declared.lending as DeclaredLending
pub use Rattle.tx_machine.specs.HomeLending
pub use Rattle.tx_machine.specs.Places
pub use Rattle.tx_machine.specs.Wanted
