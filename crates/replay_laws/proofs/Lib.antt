-- What a listing does that is given a printed schedule.
pub mod Apart
pub mod Recorded
pub mod Fed
