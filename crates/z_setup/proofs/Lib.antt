-- Lemmas on lists.
pub mod Lists
