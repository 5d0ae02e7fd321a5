-- What it is for a listing to take a printed schedule.
pub mod Taken
