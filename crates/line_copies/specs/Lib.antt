-- Copies of lines and the bytes that are seen with them.
pub mod Coherence
pub mod Seen
pub mod Directory
