-- Lemmas on lists, on pieces of storage, on octowords that stand in their places, on attempts, on all bytes of
-- operands, and on operands that are seen at once to break nothing.
pub mod Lists
pub mod Between
pub mod Piling
pub mod Attempts
pub mod Standing
pub mod Whole
pub mod AtOnce
mod Examples
