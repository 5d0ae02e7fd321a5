-- Numbers, hexadecimal, lines, images, and worked values of images.
pub mod Decimals
pub mod Hexadecimal
pub mod Readings
pub mod OneLine
pub mod ToldEntries
pub mod Pictures
pub mod OneSchedule
pub mod Examples
