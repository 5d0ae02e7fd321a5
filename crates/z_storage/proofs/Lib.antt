-- Storage after an operation, and items of registers.
pub mod Ranges
pub mod Items
pub mod Swaps
pub mod Bytewise
pub mod Moves
pub mod Order
pub mod Combined
pub mod Whole
pub mod Executing
