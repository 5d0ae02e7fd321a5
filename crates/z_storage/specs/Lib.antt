-- What an operation on storage leaves.
pub mod Performs
