-- The assembler reads the listings of decks, and cards are read by the columns that they name.
pub mod Digits
pub mod Rows
pub mod Data
pub mod Places
pub mod Whole
pub mod Alike
pub mod Columns
pub mod Apart
pub mod Pieces
