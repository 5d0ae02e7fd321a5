-- One instruction on two storages, one more that is made away, so many, and what they leave; turns of the machine; the
-- same for a CPU that has stored other bytes; and what is brought home.
mod Touching
pub mod Stores
mod OneMore
pub mod Along
pub mod Leaving
mod OneTurn
pub mod Turning
pub mod Outside
pub mod Strangers
pub mod Waiting
mod Homing
mod Examples
