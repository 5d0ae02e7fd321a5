-- Where a text has no reading as a line.
use Rattle.std.proofs.Common.{◌≡◌, ◌≢◌, ℕ, ◌<◌, ◌^◌, List, ◌∷◌, ◌++◌, codes, Option, Some, None, IfSome}
use Rattle.std.proofs.Common.{arith, ap}
use Rattle.std.proofs.Common.{◌∙◌}
use Rattle.std.specs.Fmt.{decimal}
use Rattle.tx_journal.specs.declared.lines.Reason.{Reason}
use Rattle.tx_journal.specs.declared.lines.Line.{Line}
use Rattle.tx_journal.specs.declared.lines.Line.TheVariants.{Step, Commit, Abort, Tdb, Interrupt}
use Rattle.tx_journal.specs.Numbers.{number_before}
use Rattle.tx_journal.specs.Lines.{IsLine, IsReason, reason_text, words_text, line_text}

-- lists that begin with one number each
pub same_head : (a b : ℕ) (xs ys : List ℕ) → a ∷ xs ≡ b ∷ ys → a ≡ b
same_head a b xs ys is = cc

pub no_commit : (text : List ℕ)
    → ((cpu count : ℕ) → cpu < 2 ^ 32 → count < 2 ^ 32 → text ≢ number_before cpu (decimal count))
    → (l : Line) → IsLine l → codes "C " ++ text ≢ words_text l
no_commit text none (Step cpu) sound is = omega (arith, same_head _ _ _ _ is)
no_commit text none (Commit cpu count) sound is = none cpu count sound.0 sound.1 cc
no_commit text none (Abort cpu count reason) sound is = omega (arith, same_head _ _ _ _ is)
no_commit text none (Tdb cpu) sound is = omega (arith, same_head _ _ _ _ is)
no_commit text none (Interrupt cpu) sound is = omega (arith, same_head _ _ _ _ is)

pub no_abort : (text : List ℕ)
    → ((cpu count : ℕ) (r : Reason) → cpu < 2 ^ 32 → count < 2 ^ 32 → IsReason r
    → text ≢ number_before cpu (number_before count (reason_text r)))
    → (l : Line) → IsLine l → codes "A " ++ text ≢ words_text l
no_abort text none (Step cpu) sound is = omega (arith, same_head _ _ _ _ is)
no_abort text none (Commit cpu count) sound is = omega (arith, same_head _ _ _ _ is)
no_abort text none (Abort cpu count reason) sound is = none cpu count reason sound.0 sound.1 sound.2 cc
no_abort text none (Tdb cpu) sound is = omega (arith, same_head _ _ _ _ is)
no_abort text none (Interrupt cpu) sound is = omega (arith, same_head _ _ _ _ is)

pub with_end : (text words : List ℕ) (o : Option Line) → text ≡ words ++ codes "\n"
    → IfSome o (λ l. IsLine l × (words ≡ words_text l))
    → IfSome o (λ l. IsLine l × (text ≡ line_text l))
with_end text words None ends told = tt
with_end text words (Some l) ends told = (told.0, ends ∙ ap (λ w. w ++ codes "\n") told.1)
