-- What a line of a listing says in the first reading.
pub mod Text
pub mod Sizes
pub mod Kept
pub mod Listing
