-- What every change in an event keeps, the event keeps; the queue, the events and the history; and schedules.
pub mod Replies
pub mod Walk
pub mod Queues
pub mod Heads
pub mod Books
pub mod IdleTurns
pub mod Room
pub mod Needs
pub mod Schedules
pub mod Examples
