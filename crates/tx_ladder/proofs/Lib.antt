-- What is kept beside the stop queue.
pub mod Kept
