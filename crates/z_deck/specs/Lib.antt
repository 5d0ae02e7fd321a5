-- What decks are, how they are written and read, and the listing of a deck.
pub mod Ebcdic
pub mod Columns
pub mod Reading
pub mod Said
pub mod Loading
pub mod Ways
pub mod Writing
pub mod Listing
pub mod Words
