-- What lines tell of causes and entries, histories of one entry more, and that there is one answer.
mod ToldCauses
mod EntryNumbers
mod Longer
mod OneAnswer
mod Counted
