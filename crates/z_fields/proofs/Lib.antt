-- Lemmas on pieces of text, data and events.
pub mod Numbers
pub mod Loops
pub mod Pieces
pub mod Bytes
pub mod SmallEvents
