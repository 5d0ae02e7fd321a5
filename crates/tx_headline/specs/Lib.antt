-- What is said of runs, in entries of the history and in turns.
pub mod Since
pub mod Queue
