-- Sets of pages, the exchange of two areas of storage, program status words, elements of lists, rising numbers, and
-- worked values.
pub mod Marks
pub mod Exchange
pub mod MovedBytes
pub mod Words
pub mod Writes
pub mod Numbers
pub mod OneArea
pub mod Elements
pub mod Items
pub mod Rising
mod Examples
