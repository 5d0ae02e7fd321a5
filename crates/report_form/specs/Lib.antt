-- The form of a report.
pub mod Words
pub mod Spelling
pub mod Rows
pub mod Text
pub mod Lines
pub mod Sheet
