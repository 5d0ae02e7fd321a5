-- Classes of exceptions and filtering, causes of aborts, begins, and nests.
pub mod Filtering
pub mod Codes
pub mod AbortCodes
pub mod Causes
pub mod Halfword
pub mod Begins
pub mod Nesting
pub mod Kept
