-- Lemmas on what is kept of a CPU, and on the fate of its next instruction.
pub mod Settling
pub mod Ends
pub mod Tests
pub mod SmallCodes
pub mod Agreeing
pub mod Completing
pub mod Beginnings
pub mod Goes
pub mod Inside
pub mod Preparing
pub mod Programs
pub mod Passing
pub mod Plainly
pub mod TwoBlocks
pub mod There
pub mod About
mod Room
