-- No text is that of two lines.
use Rattle.std.proofs.Common.{◌≡◌, ◌≢◌, ℕ, ◌<◌, List, ◌∷◌, length, codes, arith, sym, ap, ap₂, ◌∙◌, refl}
use Rattle.std.proofs.Common.{subst}
use Rattle.std.specs.Fmt.{decimal}
use Rattle.std.specs.Int.{to_be_bytes}
use mir.Syntax.{w16, w64}
use Rattle.hex.specs.Hex.{encode_lower, lower_digits}
use Rattle.hex.proofs.HexLemmas.{length-encode_with}
use Rattle.std.proofs.lemmas.List.{append_cancel_right}
use Rattle.std.proofs.lemmas.Fmt.{decimal_injective}
use Rattle.tx_journal.specs.declared.entries.EntryText.{EntryText}
use Rattle.tx_journal.specs.declared.lines.Detail.{Detail}
use Rattle.tx_journal.specs.declared.lines.Detail.TheVariants.{Nothing, Exception, Line as AtLine}
use Rattle.tx_journal.specs.declared.lines.Reason.{Reason}
use Rattle.tx_journal.specs.declared.lines.Line.{Line}
use Rattle.tx_journal.specs.declared.lines.Line.TheVariants.{Step, Commit, Abort, Tdb, Interrupt}
use Rattle.tx_journal.specs.Lines.{IsLine, IsReason, HasDetail, detail_text, reason_text, words_text}
use Rattle.tx_journal.specs.Lines.{line_text, fields_of, Spells}
use Rattle.tx_journal.proofs.Decimals.{same_start}
use Rattle.tx_journal.proofs.Hexadecimal.{halfword_injective, doubleword_injective}
use Rattle.tx_journal.proofs.Readings.{same_head}

halfword_length : (n : ℕ) → length (encode_lower (to_be_bytes w16 n)) ≡ 4
halfword_length n = length-encode_with lower_digits (to_be_bytes w16 n)

doubleword_length : (n : ℕ) → length (encode_lower (to_be_bytes w64 n)) ≡ 16
doubleword_length n = length-encode_with lower_digits (to_be_bytes w64 n)

other_lengths : (a b : List ℕ) (m n : ℕ) → length a ≡ m → length b ≡ n → m < n → a ≢ b
other_lengths a b m n a_has b_has less is = omega (arith, ap length is)

same_detail : (code : ℕ) (d e : Detail) → HasDetail code d → HasDetail code e → detail_text d ≡ detail_text e
    → d ≡ e
same_detail code Nothing Nothing has also is = refl
same_detail code Nothing (Exception n) has also is =
    absurd (other_lengths _ _ 1 4 refl (halfword_length n) (omega arith) is)
same_detail code Nothing (AtLine a) has also is =
    absurd (other_lengths _ _ 1 16 refl (doubleword_length a) (omega arith) is)
same_detail code (Exception m) Nothing has also is =
    absurd (other_lengths _ _ 1 4 refl (halfword_length m) (omega arith) (sym is))
same_detail code (Exception m) (Exception n) has also is =
    ap Exception (halfword_injective _ m n has.1 also.1 refl is)
same_detail code (Exception m) (AtLine a) has also is =
    absurd (other_lengths _ _ 4 16 (halfword_length m) (doubleword_length a) (omega arith) is)
same_detail code (AtLine a) Nothing has also is =
    absurd (other_lengths _ _ 1 16 refl (doubleword_length a) (omega arith) (sym is))
same_detail code (AtLine a) (Exception n) has also is =
    absurd (other_lengths _ _ 4 16 (halfword_length n) (doubleword_length a) (omega arith) (sym is))
same_detail code (AtLine a) (AtLine b) has also is =
    ap AtLine
    (doubleword_injective _ a b (omega (arith, has.1.within)) (omega (arith, also.1.within)) refl is)

same_reason : (r s : Reason) → IsReason r → IsReason s → reason_text r ≡ reason_text s → r ≡ s
same_reason r s sound also is =
    let starts =
    same_start _ r.code s.code (detail_text r.detail) (detail_text s.detail) sound.fits also.fits refl
    is in
    let detail =
    same_detail r.code r.detail s.detail sound.detail
    (subst (λ code. HasDetail code s.detail) (sym starts.number) also.detail) starts.rest in
    λ i. record { code = starts.number i; detail = detail i }

-- lists that begin with the same two numbers
same_tail : (a b : ℕ) (xs ys : List ℕ) → a ∷ b ∷ xs ≡ a ∷ b ∷ ys → xs ≡ ys
same_tail a b xs ys is = cc

same_words : (l m : Line) → IsLine l → IsLine m → words_text l ≡ words_text m → l ≡ m
same_words (Step cpu) (Step cpu') sound also is =
    ap Step (decimal_injective cpu cpu' (omega arith) (omega arith) (same_tail _ _ _ _ is))
same_words (Tdb cpu) (Tdb cpu') sound also is =
    ap Tdb (decimal_injective cpu cpu' (omega arith) (omega arith) (same_tail _ _ _ _ is))
same_words (Interrupt cpu) (Interrupt cpu') sound also is =
    ap Interrupt (decimal_injective cpu cpu' (omega arith) (omega arith) (same_tail _ _ _ _ is))
same_words (Commit cpu count) (Commit cpu' count') sound also is =
    let starts =
    same_start _ cpu cpu' (decimal count) (decimal count') (omega (arith, sound.0)) (omega (arith, also.0))
    refl
    (same_tail _ _ _ _ is) in
    ap₂ Commit starts.number
    (decimal_injective count count' (omega (arith, sound.1)) (omega (arith, also.1)) starts.rest)
same_words (Abort cpu count r) (Abort cpu' count' s) sound also is =
    let starts =
    same_start _ cpu cpu' _ _ (omega (arith, sound.0)) (omega (arith, also.0)) refl (same_tail _ _ _ _ is) in
    let counts =
    same_start _ count count' (reason_text r) (reason_text s) (omega (arith, sound.1)) (omega (arith, also.1))
    refl
    starts.rest in
    let reasons = same_reason r s sound.2 also.2 counts.rest in
    λ i. Abort (starts.number i) (counts.number i) (reasons i)
same_words (Step cpu) m sound also is = absurd (omega (arith, same_head _ _ _ _ is))
same_words (Commit cpu count) m sound also is = absurd (omega (arith, same_head _ _ _ _ is))
same_words (Abort cpu count r) m sound also is = absurd (omega (arith, same_head _ _ _ _ is))
same_words (Tdb cpu) m sound also is = absurd (omega (arith, same_head _ _ _ _ is))
same_words (Interrupt cpu) m sound also is = absurd (omega (arith, same_head _ _ _ _ is))

pub same_line : (l m : Line) → IsLine l → IsLine m → line_text l ≡ line_text m → l ≡ m
same_line l m sound also is =
    same_words l m sound also (append_cancel_right (words_text l) (words_text m) (codes "\n") is)

pub same_fields : (text : List ℕ) (t u : EntryText) → Spells text t → Spells text u → t ≡ u
same_fields text t u spells also =
    let line = same_line spells.line also.line spells.sound also.sound (sym spells.text_is ∙ also.text_is) in
    spells.fields ∙ ap fields_of line ∙ sym also.fields
