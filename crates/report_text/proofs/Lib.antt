-- Lemmas of the texts of reports.
pub mod Pieces
pub mod Numbered
pub mod Finished
pub mod Sums
pub mod Blocks
