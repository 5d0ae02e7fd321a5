pub mod Whole
pub mod Sum
pub mod Comparison
pub mod Product
pub mod Quotient
pub mod Shifted
