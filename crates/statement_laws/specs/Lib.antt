-- What the lines of a listing say.
pub mod Statements
