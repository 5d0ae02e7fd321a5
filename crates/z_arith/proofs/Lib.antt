pub mod WholeLemmas
pub mod ProductLemmas
pub mod QuotientLemmas
pub mod ShiftLemmas
pub mod BitLemmas
