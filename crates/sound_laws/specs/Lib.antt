-- What is sound in an entry, taken apart.
pub mod Parts
