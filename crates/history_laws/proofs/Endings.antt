-- No line of a history ends before its end.
use Rattle.std.proofs.Common.{◌≡◌, ◌≢◌, ℕ, zero, suc, ◌+◌, ◌*◌, ◌/◌, ◌%◌, ◌<◌, ◌^◌, List, [], ◌∷◌, ◌++◌, length, refl, arith}
use Rattle.std.proofs.Common.{slice_index}
use Rattle.std.specs.Prelude.{codes}
use Rattle.std.specs.Fmt.{decimal}
use Rattle.std.specs.Int.{to_be_bytes}
use mir.Syntax.{w16, w64}
use Rattle.hex.specs.Hex.{encode_with, encode_lower, lower_digits}
use Rattle.tx_control.specs.Causes.{code_number}
use Rattle.tx_control.specs.declared.causes.Why.{Why}
use Rattle.tx_control.specs.declared.causes.Why.TheVariants.{External, Program, FetchConflict, StoreConflict}
use Rattle.tx_control.specs.declared.causes.Why.TheVariants.{FetchOverflow, StoreOverflow, Restricted}
use Rattle.tx_control.specs.declared.causes.Why.TheVariants.{Filtered, Depth, Starved, Tabort}
use Rattle.tx_journal.specs.Lines.{words_text, line_of, detail_text, reason_text, reason_of, detail_of}
use Rattle.tx_journal.specs.Numbers.{Lacks}
use Rattle.tx_journal.specs.Sound.{IsSound, IsCause}
use Rattle.tx_journal.specs.declared.entries.Entry.{Entry}
use Rattle.tx_journal.specs.declared.entries.Entry.TheVariants as entry
use Rattle.tx_journal.proofs.Decimals.{lacks_rest, lacks_number}

-- no line feed is among the bytes
abbrev pub IsLine : List ℕ → Type 0
IsLine text = Lacks 10 text

one_more : (b : ℕ) (bs : List ℕ) → b ≢ 10 → IsLine bs → IsLine (b ∷ bs)
one_more b bs here rest = by
  where
    by : IsLine (b ∷ bs)
    by zero below = here
    by (suc i) below = rest i (omega arith)

both : (xs ys : List ℕ) → IsLine xs → IsLine ys → IsLine (xs ++ ys)
both [] ys h i = i
both (x ∷ xs) ys h i =
    one_more x (xs ++ ys) (h 0 (omega arith)) (both xs ys (lacks_rest 10 x xs h) i)

none : IsLine []
none i below = absurd (omega arith)

number : (n : ℕ) → n < 2 ^ 64 → IsLine (decimal n)
number n small = lacks_number 10 n small (omega arith)

half : (n : ℕ) → n < 2 ^ 32 → n < 2 ^ 64
half n small = omega arith

-- letters and blanks
lettered : (a b : ℕ) (text : List ℕ) → a ≢ 10 → b ≢ 10 → IsLine text → IsLine (a ∷ b ∷ text)
lettered a b text p q rest = one_more a (b ∷ text) p (one_more b text q rest)

behind_blank : (text : List ℕ) → IsLine text → IsLine (32 ∷ text)
behind_blank text rest = one_more 32 text (λ e. omega (arith, e)) rest

-- ---- hexadecimal digits

digit : (d : ℕ) → slice_index lower_digits d ≢ 10
digit zero e = omega (arith, e)
digit (suc zero) e = omega (arith, e)
digit (suc (suc zero)) e = omega (arith, e)
digit (suc (suc (suc zero))) e = omega (arith, e)
digit (suc (suc (suc (suc zero)))) e = omega (arith, e)
digit (suc (suc (suc (suc (suc zero))))) e = omega (arith, e)
digit (suc (suc (suc (suc (suc (suc zero)))))) e = omega (arith, e)
digit (suc (suc (suc (suc (suc (suc (suc zero))))))) e = omega (arith, e)
digit (suc (suc (suc (suc (suc (suc (suc (suc zero)))))))) e = omega (arith, e)
digit (suc (suc (suc (suc (suc (suc (suc (suc (suc zero))))))))) e = omega (arith, e)
digit (suc (suc (suc (suc (suc (suc (suc (suc (suc (suc zero)))))))))) e = omega (arith, e)
digit (suc (suc (suc (suc (suc (suc (suc (suc (suc (suc (suc zero))))))))))) e = omega (arith, e)
digit (suc (suc (suc (suc (suc (suc (suc (suc (suc (suc (suc (suc zero)))))))))))) e = omega (arith, e)
digit (suc (suc (suc (suc (suc (suc (suc (suc (suc (suc (suc (suc (suc zero))))))))))))) e = omega (arith, e)
digit (suc (suc (suc (suc (suc (suc (suc (suc (suc (suc (suc (suc (suc (suc zero)))))))))))))) e = omega (arith, e)
digit (suc (suc (suc (suc (suc (suc (suc (suc (suc (suc (suc (suc (suc (suc (suc zero))))))))))))))) e =
    omega (arith, e)
digit (suc (suc (suc (suc (suc (suc (suc (suc (suc (suc (suc (suc (suc (suc (suc (suc d)))))))))))))))) e =
    omega (arith, e)

digits : (bytes : List ℕ) → IsLine (encode_lower bytes)
unfolding encode_with
digits [] = none
digits (b ∷ rest) =
    lettered (slice_index lower_digits (b / 16)) (slice_index lower_digits (b % 16)) (encode_lower rest)
    (digit (b / 16)) (digit (b % 16)) (digits rest)

-- ---- lines

dash : IsLine (45 ∷ [])
dash = one_more 45 [] (λ e. omega (arith, e)) none

detail : (why : Why) → IsLine (detail_text (detail_of why))
detail (Program e) = digits (to_be_bytes w16 e.code)
detail (Filtered e) = digits (to_be_bytes w16 e.code)
detail (FetchConflict line) = digits (to_be_bytes w64 (line * 256))
detail (StoreConflict line) = digits (to_be_bytes w64 (line * 256))
detail External = dash
detail FetchOverflow = dash
detail StoreOverflow = dash
detail Restricted = dash
detail Depth = dash
detail Starved = dash
detail (Tabort code) = dash

code_small : (why : Why) → IsCause why → code_number why < 2 ^ 64
code_small External h = omega arith
code_small (Program e) h = omega arith
code_small (FetchConflict line) h = omega arith
code_small (StoreConflict line) h = omega arith
code_small FetchOverflow h = omega arith
code_small StoreOverflow h = omega arith
code_small Restricted h = omega arith
code_small (Filtered e) h = omega arith
code_small Depth h = omega arith
code_small Starved h = omega arith
code_small (Tabort code) h = h.1

reason : (why : Why) → IsCause why → IsLine (reason_text (reason_of why))
reason why h =
    both (decimal (code_number why)) (32 ∷ detail_text (detail_of why)) (number (code_number why) (code_small why h))
    (behind_blank (detail_text (detail_of why)) (detail why))

pub line : (e : Entry) → IsSound e → IsLine (words_text (line_of e))
line (entry.Step cpu) h =
    lettered 83 32 (decimal cpu) (λ e. omega (arith, e)) (λ e. omega (arith, e)) (number cpu (half cpu h))
line (entry.Commit cpu count) h =
    lettered 67 32 (decimal cpu ++ 32 ∷ decimal count) (λ e. omega (arith, e)) (λ e. omega (arith, e))
    (both (decimal cpu) (32 ∷ decimal count) (number cpu (half cpu h.0))
    (behind_blank (decimal count) (number count (half count h.1))))
line (entry.Abort cpu count why) h =
    let told = reason_text (reason_of why) in
    lettered 65 32 (decimal cpu ++ 32 ∷ (decimal count ++ 32 ∷ told)) (λ e. omega (arith, e))
    (λ e. omega (arith, e))
    (both (decimal cpu) (32 ∷ (decimal count ++ 32 ∷ told)) (number cpu (half cpu h.0))
    (behind_blank (decimal count ++ 32 ∷ told)
    (both (decimal count) (32 ∷ told) (number count (half count h.1)) (behind_blank told (reason why h.2)))))
line (entry.Tdb cpu) h =
    lettered 84 32 (decimal cpu) (λ e. omega (arith, e)) (λ e. omega (arith, e)) (number cpu (half cpu h))
line (entry.Interrupt cpu) h =
    lettered 73 32 (decimal cpu) (λ e. omega (arith, e)) (λ e. omega (arith, e)) (number cpu (half cpu h))
