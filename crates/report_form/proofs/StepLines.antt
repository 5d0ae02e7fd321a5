-- Lines of steps, by their bytes.
use Rattle.std.proofs.Common.{◌≡◌, ℕ, ◌+◌, ◌<◌, ◌≤◌, List, [], ◌∷◌, ◌++◌, length, get_or, sym, ap, ◌∙◌, arith}
use Rattle.std.proofs.Common.{◌/◌, ◌%◌}
use Rattle.std.proofs.lemmas.Fmt.{decimal_digit}
use Rattle.tx_journal.specs.Lines.{entry_text}
use Rattle.tx_journal.specs.declared.entries.Entry.TheVariants.{Step}
use Rattle.tx_journal.proofs.Decimals.{two_digits}

-- of a CPU below ten
pub one_digit : (line : List ℕ) (n : ℕ) → length line ≡ 4 → get_or line 0 0 ≡ 83 → get_or line 1 0 ≡ 32
    → get_or line 2 0 ≡ 48 + n → get_or line 3 0 ≡ 10 → n < 10 → line ≡ entry_text (Step n)
one_digit (a ∷ b ∷ c ∷ d ∷ []) n l e f g h low =
    (λ k. e k ∷ f k ∷ g k ∷ h k ∷ []) ∙ sym (ap (λ ds. 83 ∷ 32 ∷ (ds ++ 10 ∷ [])) (decimal_digit n low))
one_digit [] n l e f g h low = absurd (omega arith)
one_digit (a ∷ []) n l e f g h low = absurd (omega arith)
one_digit (a ∷ b ∷ []) n l e f g h low = absurd (omega arith)
one_digit (a ∷ b ∷ c ∷ []) n l e f g h low = absurd (omega arith)
one_digit (a ∷ b ∷ c ∷ d ∷ x ∷ rest) n l e f g h low = absurd (omega arith)

-- of a CPU from ten up to nineteen
pub two_digits_from_ten : (line : List ℕ) (n : ℕ) → length line ≡ 5 → get_or line 0 0 ≡ 83 → get_or line 1 0 ≡ 32
    → get_or line 2 0 ≡ 49 → get_or line 3 0 + 10 ≡ 48 + n → get_or line 4 0 ≡ 10 → 10 ≤ n → n < 20
    → line ≡ entry_text (Step n)
two_digits_from_ten (a ∷ b ∷ c ∷ d ∷ x ∷ []) n l e f g h i low high =
    let first : c ≡ 48 + n / 10 = omega (arith, g, low, high) in
    let second : d ≡ 48 + n % 10 = omega (arith, h, low, high) in
    (λ k. e k ∷ f k ∷ first k ∷ second k ∷ i k ∷ [])
    ∙ sym (ap (λ ds. 83 ∷ 32 ∷ (ds ++ 10 ∷ [])) (two_digits n low (omega (arith, high))))
two_digits_from_ten [] n l e f g h i low high = absurd (omega arith)
two_digits_from_ten (a ∷ []) n l e f g h i low high = absurd (omega arith)
two_digits_from_ten (a ∷ b ∷ []) n l e f g h i low high = absurd (omega arith)
two_digits_from_ten (a ∷ b ∷ c ∷ []) n l e f g h i low high = absurd (omega arith)
two_digits_from_ten (a ∷ b ∷ c ∷ d ∷ []) n l e f g h i low high = absurd (omega arith)
two_digits_from_ten (a ∷ b ∷ c ∷ d ∷ x ∷ y ∷ rest) n l e f g h i low high = absurd (omega arith)
