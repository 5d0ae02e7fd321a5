-- Bytes seen through copies, and what a change of a copy, a mode or storage leaves.
pub mod Flat
pub mod Change
pub mod Shown
pub mod Moves
pub mod Stored
pub mod Exclusive
