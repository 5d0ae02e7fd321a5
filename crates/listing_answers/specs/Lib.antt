-- What is due where no machine runs: a status and a text.
pub mod Due
pub mod Decks
