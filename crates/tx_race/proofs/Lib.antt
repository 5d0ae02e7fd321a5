-- What a machine starts from.
pub mod Settings
