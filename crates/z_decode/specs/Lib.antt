pub mod Code
pub mod Keys
