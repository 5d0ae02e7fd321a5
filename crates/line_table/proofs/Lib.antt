-- What a table is seen as, what it keeps, and what its calls rest on.
pub mod Against
pub mod Kept
pub mod Seen
pub mod Calls
