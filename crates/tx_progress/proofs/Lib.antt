-- Stores seen through an overlay, what one instruction more makes of a run and of its progress, what holds of
-- open runs, fates and outcomes by progress, the lines of a run, states that are alike, and what entries
-- leave.
pub mod SeenStores
pub mod OneMore
pub mod Rows
pub mod Standing
pub mod Fates
pub mod Lines
pub mod Alike
pub mod Parts
pub mod Leaving
pub mod Moving
pub mod Endings
pub mod Facts
pub mod Limits
pub mod Quiet
pub mod Touching
pub mod Changing
mod Examples
