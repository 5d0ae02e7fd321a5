-- What the fields of DC and SCHED say.
pub mod Kinds
pub mod Chain
pub mod Pieces
pub mod Data
pub mod Schedule
pub mod SmallEvent
pub mod Steps
