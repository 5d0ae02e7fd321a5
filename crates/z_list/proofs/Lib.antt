-- How far fields go, which of them are shown, the bytes of instructions and their lines, and what operands and
-- texts tell.
pub mod Distances
pub mod Shown
pub mod Codes
pub mod Told
pub mod Texts
