-- Lemmas of command lines: facts of the simple commands, and what their parses give.
pub mod Ranged
pub mod Simple
pub mod Numbers
pub mod Handed
pub mod Others
