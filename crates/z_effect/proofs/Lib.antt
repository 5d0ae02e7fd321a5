pub mod Stored
pub mod Storeless
pub mod Examples
pub mod Lengths
pub mod Lasting
pub mod Aborting
pub mod Prefix
mod TransactionExamples
