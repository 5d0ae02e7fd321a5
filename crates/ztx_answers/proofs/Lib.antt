-- What commands show of a run, conflicts, and inputs that are too long; and that to each request one answer is due,
-- and only one.
pub mod Asked
pub mod Steps
pub mod Heats
pub mod Answered
pub mod Decked
pub mod OneHeat
pub mod OneStep
pub mod OneCheck
pub mod Due
-- what callers name of crates below
pub use Rattle.run_answers.proofs.Plans
pub use Rattle.run_answers.proofs.RaceReports
