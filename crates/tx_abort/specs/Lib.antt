-- The causes of aborts, the diagnostic block, and the registers that an abort brings back.
pub mod Causes
pub mod Block
pub mod Writes
pub mod Registers
