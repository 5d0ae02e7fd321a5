-- What is kept of one CPU while a machine runs, and what each thing that it does makes of that.
pub mod Progress
pub mod Going
pub mod Trial
pub mod Local
pub mod Doing
pub mod Reached
pub mod Followed
