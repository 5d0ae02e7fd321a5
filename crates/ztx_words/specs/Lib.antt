-- The command lines: the arguments of each subcommand, and what a list of words asks for.
pub mod Arguments
pub mod Words
pub mod Parses
