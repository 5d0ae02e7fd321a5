-- Turns made away from the machine.
pub mod Places
pub mod Away
pub mod Turns
pub mod Home
pub mod Stranger
-- what callers name of crates below
pub use Rattle.tx_serial.specs.Flat
pub use Rattle.tx_meaning.specs.Asking
pub use Rattle.tx_meaning.specs.Needs
pub use Rattle.tx_meaning.specs.declared.asking.Need
