-- What one instruction does, by its kind.
pub mod Registers
pub mod Operations
pub mod Outcome
pub mod GeneralEffect
pub mod StorageEffect
pub mod BranchEffect
pub mod TransactionEffect
pub mod One
pub mod After
pub mod Facts
pub mod Beginning
pub mod Interrupted
