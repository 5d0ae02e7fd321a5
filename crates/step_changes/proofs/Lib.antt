-- Changes that are made and taken back, parts of CPUs that are put, lists by their places, and lines in lists.
pub mod Changed
pub mod Parted
pub mod Listed
pub mod Lined
pub mod Looked
pub mod Stepping
