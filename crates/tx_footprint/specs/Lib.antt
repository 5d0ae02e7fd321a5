-- The places of ranges, and what a footprint is seen as.
pub mod Sizes
pub mod Places
pub mod Touched
-- what callers name of crates below
pub use Rattle.line_table.specs.Sizes as LineTableSizes
pub use Rattle.line_table.specs.declared.table.Mode
