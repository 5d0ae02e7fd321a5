-- What was read, what was written, and that it is the only answer.
pub mod Inputs
pub mod Told
pub mod Only
