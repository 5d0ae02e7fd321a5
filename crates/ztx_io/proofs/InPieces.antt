-- Bytes that are handed on in pieces, each behind the one before.
use Rattle.std.proofs.Common.{◌≡◌, ℕ, ◌+◌, ◌≤◌, List, ◌++◌, length, take, drop, sym, ◌∙◌, ap, arith, Option}
use Rattle.std.proofs.lemmas.List.{drop-drop, length-append, length-take-le, take-append-drop, take-append-le}
use Rattle.std.proofs.lemmas.List.{take-take}
use Rattle.std.specs.Io.KnownBytes.{Consumes}
use Rattle.std.proofs.KnownBytes.{Consumes-trans}

-- the first n bytes that were left stand at the front of a buffer, and what is left lies behind them
pub left_moves : (bytes copied behind : List ℕ) (given n : ℕ) → n ≤ length (drop given bytes)
    → copied ≡ take n (drop given bytes)
    → drop given bytes ≡ take n (copied ++ behind) ++ drop (given + n) bytes
left_moves bytes copied behind given n fits is =
    let long : n ≤ length copied = omega (arith, ap length is, length-take-le n (drop given bytes) fits) in
    let front : take n (copied ++ behind) ≡ take n (drop given bytes) =
    take-append-le n copied behind long ∙ ap (take n) is ∙ take-take n n (drop given bytes) (omega arith) in
    sym (take-append-drop n (drop given bytes)) ∙ ap (λ l. l ++ drop n (drop given bytes)) (sym front)
    ∙ ap (λ l. take n (copied ++ behind) ++ l) (drop-drop n given bytes)

pub length_with : (xs ys : List ℕ) (n : ℕ) → n ≤ length ys → length (xs ++ take n ys) ≡ length xs + n
length_with xs ys n fits = omega (arith, length-append xs (take n ys), length-take-le n ys fits)

-- what came before a call and what came in it are what came in all, and its length is the sum
pub record Came (before between after : Option (List ℕ)) (bytes piece : List ℕ) (n : ℕ) : Type 0 where
  pub bytes_came : Consumes before after (bytes ++ take n piece)
  pub length_is : length (bytes ++ take n piece) ≡ length bytes + n

pub came_more : (before between after : Option (List ℕ)) (bytes piece : List ℕ) (n : ℕ) → n ≤ length piece
    → Consumes before between bytes → Consumes between after (take n piece)
    → Came before between after bytes piece n
came_more before between after bytes piece n fits first second = record {
  bytes_came = Consumes-trans before between after bytes (take n piece) first second;
  length_is = length_with bytes piece n fits;
}
