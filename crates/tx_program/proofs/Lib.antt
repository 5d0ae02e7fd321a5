-- Lemmas on instructions that have been read.
pub mod Fetches
pub mod Numbers
pub mod Placed
