-- Pages of ranges, and sets of pages as lists.
pub mod SmallRanges
pub mod Reach
pub mod StoredText
pub mod Fetches
