-- One CPU as data, what that stands for, and what its calls say.
pub mod Parts
pub mod Admits
pub mod Plans
pub mod Quiet
pub mod Pairs
pub mod Blocks
pub mod Going
-- what callers name of crates below
pub use Rattle.tx_attempt.specs.Storages
pub use Rattle.tx_attempt.specs.Same
pub use Rattle.tx_program.specs.Shapes
