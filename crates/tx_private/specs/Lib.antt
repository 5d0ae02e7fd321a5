-- What is kept of a run, what it shows, and what one instruction makes of it.
pub mod Bytes
pub mod Done
pub mod Reading
pub mod Shows
pub mod Refused
pub mod Coming
pub mod Moved
pub mod Ready
