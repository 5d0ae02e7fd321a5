-- The text of a picture.
pub mod Drawn
