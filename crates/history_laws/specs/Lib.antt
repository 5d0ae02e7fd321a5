-- What is said of the text of a history.
pub mod Fitting
