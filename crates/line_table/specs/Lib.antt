-- Who holds which line, and the rows of marks that tell it.
pub mod Sizes
pub mod Holders
pub mod Rows
