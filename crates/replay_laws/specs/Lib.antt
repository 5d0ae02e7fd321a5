-- What it is for a listing to be given a printed schedule.
pub mod Fed
