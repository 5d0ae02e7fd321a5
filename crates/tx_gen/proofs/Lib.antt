-- Numbers, and what is drawn.
pub mod Sums
pub mod Rounds
