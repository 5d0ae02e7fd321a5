-- A CPU as plain data, sets of pages, bytes of storage, real and absolute addresses, and rising numbers.
pub mod Cpu
pub mod Pages
pub mod Prefix
pub mod Pairs
pub mod Seen
pub mod Written
pub mod Psw
pub mod Absolute
pub mod Rising
