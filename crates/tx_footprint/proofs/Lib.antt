-- Spans of places, marking them, bounds on them, and the limits.
pub mod Marking
pub mod Spans
pub mod Bounds
pub mod Limits
pub mod Ones
