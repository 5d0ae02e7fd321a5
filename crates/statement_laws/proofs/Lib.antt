-- Lemmas on what the lines of a text say, and on what both readings leave of it.
pub mod Acted
pub mod Named
pub mod Laid
pub mod Lines
pub mod Tasks
pub mod Begun
pub mod Effects
pub mod Gathered
pub mod Events
pub mod Given
pub mod Counted
pub mod Entered
pub mod Shown
pub mod Prefixes
pub mod Numbers
