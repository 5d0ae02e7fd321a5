-- What a read and a write do to the bytes outside, and when a count of faults rose.
pub mod Faults
pub mod Reads
pub mod Writes
