-- Words, spelled lines, lines against rows, the line of a count, and the whole form.
pub mod WordLemmas
pub mod SpellingLemmas
pub mod EntryLines
pub mod Walks
pub mod Counted
pub mod Forms
pub mod OneFault
pub mod StepLines
pub mod TextLines
