-- An attempt as data, what that stands for, and what performing an instruction tells and leaves.
pub mod Storages
pub mod Tracked
pub mod Same
pub mod Plain
pub mod Refused
pub mod Performed
pub mod Gathered
pub mod Advancing
