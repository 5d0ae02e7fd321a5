-- A run that is made once more.
pub mod Replaying
