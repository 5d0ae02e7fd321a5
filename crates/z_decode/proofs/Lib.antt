pub mod Keys
pub mod Unread
pub mod Rows
pub mod Again
pub mod Held
