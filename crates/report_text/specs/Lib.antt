-- What a report and a short summary tell, and their texts.
pub mod Shown
pub mod Digits
pub mod Processor
pub mod Storage
pub mod Report
pub mod Summary
pub mod Blocks
