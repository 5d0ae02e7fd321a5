-- What a listing is.
pub mod Whole
pub mod Steps
pub mod Words
