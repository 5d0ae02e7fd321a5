pub mod Line
pub mod Value
pub mod Numbers
pub mod Tokens
pub mod Splits
pub mod Expected
pub mod Labels
pub mod Expressions
