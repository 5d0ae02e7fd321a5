-- The commands of `step`.
pub mod Commands
pub mod Faults
pub mod Readings
pub mod Words
