pub mod Overlays
pub mod Blocks
pub mod Cells
pub mod Laid
pub mod Kept
pub mod Runs
