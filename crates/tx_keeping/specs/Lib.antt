-- The machine that keeps what its meaning computes again.
pub mod Kept
pub mod Moves
pub mod Asking
pub mod Turn
pub mod Keeping
pub mod Told
-- what callers name of crates below
pub use Rattle.interrogate.specs.Replies
pub use Rattle.interrogate.specs.declared.kinds.Answer
