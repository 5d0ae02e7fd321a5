-- The numbers of the retry ladder, a CPU's standing on it, and the stop queue.
pub mod Parameters
pub mod Rungs
pub mod Waiting
