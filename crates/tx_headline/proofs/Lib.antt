-- One event more, turns and ages, what is recorded, the aborts and the commit of a constrained transaction, and
-- the stop queue.
pub mod Lists
pub mod Runs
pub mod Started
pub mod Ages
pub mod Recorded
pub mod QueueWalk
pub mod After
pub mod Tally
pub mod Outside
pub mod Commits
pub mod Members
pub mod Queue
pub mod Served
pub mod Reasons
pub mod Bounds
mod Examples
