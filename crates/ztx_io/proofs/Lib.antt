-- Lemmas of bytes that come in pieces.
pub mod InPieces
