-- What the top call answers.
pub mod Asked
pub mod Answers
