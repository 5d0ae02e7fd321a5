-- The lines of the history and of the schedule and what they say, and images.
pub mod Numbers
pub mod Lines
pub mod Schedule
pub mod Sound
pub mod Content
pub mod Image
