-- Commands one after the other.
pub mod Following
