-- Instructions that have been read: where they stand, and what is known of each.
pub mod Programs
pub mod Shapes
pub mod Numbered
