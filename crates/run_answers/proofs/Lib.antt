-- Runs are serial, planned schedules are of CPUs that there are, and a run gives what is due.
pub mod Printed
pub mod Replays
pub mod Serials
pub mod Plans
pub mod Settings
pub mod Ran
pub mod RaceReports
pub mod Checks
