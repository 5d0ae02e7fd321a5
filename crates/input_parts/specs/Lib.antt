-- Inputs with a listing, and something else behind it.
pub mod Lines
pub mod Parts
pub mod Views
