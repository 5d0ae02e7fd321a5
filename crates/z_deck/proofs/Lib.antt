-- Proofs of what decks are.
mod Examples
pub mod Faults
pub mod Cards
pub mod Loaded
pub mod Decks
pub mod One
pub mod Written
pub mod Again
