-- What is shown of CPUs and storage, what changes of it, steps, and lines that are stored into.
pub mod Seen
pub mod Changes
pub mod Parts
pub mod Steps
pub mod Resting
pub mod Stored
pub mod Due
