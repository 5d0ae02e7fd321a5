-- Lines passed one after the other, marks among them, and that an input has one way to be parted.
pub mod Passing
pub mod Marks
pub mod Lists
pub mod One
