-- How many events a turn records.
pub mod Recorded
