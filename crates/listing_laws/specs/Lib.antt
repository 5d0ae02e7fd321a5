-- What the laws of this crate say.
pub mod Printed
pub mod Generated
