-- Lemmas on operations and operands.
pub mod Atoms
pub mod Forms
pub mod Rows
pub mod Branches
pub mod Directives
pub mod Spelled
