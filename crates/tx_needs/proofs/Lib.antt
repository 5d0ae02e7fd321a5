-- Lemmas of lines in rising order, and of ranges that are small and lie in storage.
pub mod NeededLines
pub mod OneLine
pub mod Ranges
pub mod SmallPlaces
