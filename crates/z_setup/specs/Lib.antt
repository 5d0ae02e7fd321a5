-- What a line of a listing says in the second reading.
pub mod Machine
pub mod Setup
