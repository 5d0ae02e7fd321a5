-- What the machine's parts show, and what entries leave of them.
pub mod Near
pub mod Slots
pub mod Left
pub mod Outside
pub mod Machine
pub mod Open
