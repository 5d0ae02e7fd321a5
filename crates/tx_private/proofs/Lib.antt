-- Storage as a list and as a function, and what calls that execute leave.
pub mod Laid
pub mod Executed
pub mod Fetched
pub mod Tested
pub mod Inside
pub mod Settled
pub mod Refusing
pub mod Moving
pub mod Going
pub mod Ready
pub mod Resting
pub mod Ended
pub mod Turned
