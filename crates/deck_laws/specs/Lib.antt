-- What it is to assemble the listing of a deck, and which decks are read alike.
pub mod Assembled
pub mod Alike
pub mod Texts
pub mod Written
