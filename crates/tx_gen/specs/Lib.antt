pub mod Draws
pub mod Programs
