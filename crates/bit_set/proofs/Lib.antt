-- Words of marks, the marks of a set, and counts of them.
pub mod Words
pub mod Marks
pub mod Counts
pub mod Used
pub mod Runs
