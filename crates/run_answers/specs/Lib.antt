-- What is due where a listing runs, races or has a report that is judged; and what holds of the events that a report
-- tells.
pub mod Replayed
pub mod Serial
pub mod Runs
pub mod Reports
pub mod Races
pub mod Checks
-- what callers name of crates below
pub use Rattle.tx_report.specs.Machine
pub use Rattle.tx_schedule.specs.Ran
pub use Rattle.tx_report.specs.Report
pub use Rattle.tx_report.specs.Shown
pub use Rattle.tx_check.specs.Answers
pub use Rattle.tx_check.specs.declared.checking.CheckFault
