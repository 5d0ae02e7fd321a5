-- What has its place in a report.
pub mod Reportable
