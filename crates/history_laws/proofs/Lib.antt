-- What the text of a history tells.
pub mod Endings
pub mod Fitting
pub mod Histories
