-- The lines that ranges need.
pub mod Needs
