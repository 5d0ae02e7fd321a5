-- What is seen, runs event by event, and moves in them.
pub mod Stepped
pub mod Followed
pub mod Moved
pub mod Framed
pub mod Going
pub mod Touched
pub mod Due
pub mod Resting
