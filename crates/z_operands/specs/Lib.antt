-- What the operation and the operands of a line say.
pub mod Operations
pub mod Sizes
pub mod Operands
pub mod Values
pub mod Code
