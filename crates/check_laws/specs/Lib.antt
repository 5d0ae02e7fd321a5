-- Runs whose numbers have their places in a report.
pub mod Places
