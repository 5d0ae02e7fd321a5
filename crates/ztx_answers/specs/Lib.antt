-- What is due to each request: a status and a text; when one answer is due, and only one.
pub mod Steps
pub mod Heats
pub mod Requests
pub mod One
-- what callers name of crates below
pub use Rattle.run_answers.specs.Races
pub use Rattle.run_answers.specs.Reports
pub use Rattle.run_answers.specs.Runs
pub use Rattle.run_answers.specs.Report
pub use Rattle.run_answers.specs.Shown
