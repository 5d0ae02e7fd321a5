-- Commands read line by line, what a line tells, and that there is one reading.
pub mod LineByLine
pub mod Telling
pub mod Deciding
pub mod One
