pub mod Sizes
pub mod Copies
