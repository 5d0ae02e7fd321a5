-- Codes of TABORT, lines of storage, causes, legal histories, turns, and all of them together.
pub mod Tabort
pub mod Lines
pub mod Causes
pub mod Legal
pub mod Counting
pub mod Turns
pub mod Sound
