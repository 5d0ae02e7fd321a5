-- Ranges as definitions see them, and the outcome of the tests before an instruction is executed.
pub mod Refusals
pub mod Text
