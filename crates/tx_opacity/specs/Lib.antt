-- What live attempts see.
pub mod Opacity
