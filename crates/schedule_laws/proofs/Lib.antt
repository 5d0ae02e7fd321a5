-- The assembler takes printed schedules.
pub mod Marks
pub mod Back
pub mod Row
pub mod Moved
pub mod Again
pub mod Whole
