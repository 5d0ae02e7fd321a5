-- Reports that are judged by their history.
pub mod Lines
pub mod Told
pub mod Sound
pub mod Claims
pub mod Seen
pub mod Answers
