-- What a run leaves, how much an attempt has completed, what is recorded, and the report of a run.
pub mod Left
pub mod Completed
pub mod Recorded
pub mod Sound
