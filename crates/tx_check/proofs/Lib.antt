-- Lines, words and claims; where lines stand by the form, and what stands behind the state; what is expected; that
-- one answer is due.
pub mod LineLemmas
pub mod Written
pub mod WordsRead
pub mod ClaimLines
pub mod EventLines
pub mod FormLines
pub mod CpuLines
pub mod Due
pub mod Bounds
pub mod OneAnswer
