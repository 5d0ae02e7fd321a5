-- What a history read back from its lines is.
pub mod Told
pub mod Replay
pub mod Ends
