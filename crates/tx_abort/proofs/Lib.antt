-- Writes of fields one after the other, the block that they make, and registers that come back in pairs.
pub mod Writes
pub mod Pairs
