-- Conflicts of a run by line of storage, and their text.
pub mod Octowords
pub mod Conflicts
pub mod Heats
pub mod Text
pub mod Marks
pub mod Watched
pub mod Sums
