pub mod Sizes
pub mod Overlay
pub mod Stores
pub mod Entries
-- what callers name of crates below
pub use Rattle.bit_set.specs.Counts
