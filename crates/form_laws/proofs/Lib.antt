-- Lines of a text, and those of a report with their places; words, numbers, and rows that lines tell; the
-- form; what
-- is accepted.
pub mod Cutting
pub mod Lists
pub mod Words
pub mod Telling
pub mod CpuRows
pub mod ShowRows
pub mod RunRows
pub mod Places
pub mod Whole
pub mod Numbers
pub mod Accepted
