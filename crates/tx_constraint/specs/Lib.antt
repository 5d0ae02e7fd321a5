-- Constraints over the instructions that an attempt has run, and what the code keeps of these.
pub mod Operations
pub mod Bytes
pub mod Octowords
pub mod Constraints
pub mod Kept
