-- What events make of what attempts have touched, and marks, counts and texts of it.
pub mod Begun
pub mod Went
pub mod Quiet
pub mod Waiting
pub mod Tracked
pub mod Ranges
pub mod Marked
pub mod Counted
pub mod Written
pub mod Few
pub mod Followed
pub mod Totals
pub mod Recorded
pub mod Measured
pub mod Passing
pub mod Tracks
pub mod Rejects
