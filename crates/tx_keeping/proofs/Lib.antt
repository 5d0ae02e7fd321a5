-- What is needed of one CPU, and the proof that the machine that keeps says what the meaning says.
pub mod Interrupted
pub mod Running
pub mod Awaited
pub mod Stores
pub mod Needed
pub mod Truth
pub mod Holding
pub mod Moves
pub mod Endings
pub mod Asking
pub mod Room
pub mod Getting
pub mod Needing
pub mod Few
pub mod Acting
pub mod Turning
pub mod Events
