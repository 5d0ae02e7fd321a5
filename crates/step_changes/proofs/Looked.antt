-- Lines that are looked at.
use Rattle.std.proofs.Common.{◌≡◌, ◌≢◌, ℕ, ◌/◌, ◌<◌, true, List, length, get_or, ap, ◌∙◌, ◌⊎◌, inl, inr}
use Rattle.std.proofs.lemmas.Bool.{cases_eq}
use borrow.Enum.Arm.{by_way}
use Rattle.step_changes.specs.Seen.{Shown, Sight, word_at, words_of}
use Rattle.step_changes.specs.Stored.{is_among}
use Rattle.step_changes.specs.Due.{is_due, due_lines, may_change}
use Rattle.step_changes.specs.declared.stored.Asked.{Asked}
use Rattle.step_changes.specs.declared.stored.StoredLine.{StoredLine}
use Rattle.step_changes.proofs.Lined.{passing_listed}
use Rattle.step_changes.proofs.Listed.{word_there}

-- where the history is as long as before nothing is others, else what is others lies in lines that are looked at
pub looked_at : (v : Shown) (view : Sight) (asked : Asked) (stored : List StoredLine) (lines : List ℕ)
    → (view.entries ≡ length v.history → view.words ≡ words_of v.bytes)
    → ((w : ℕ) (d : List ℕ) → w < 131072 → (may_change view.cpus v asked stored (w / 32) ≡ true)
    ⊎ (get_or view.words w d ≡ word_at v.bytes w))
    → (view.entries ≢ length v.history → lines ≡ due_lines view.cpus v asked stored)
    → (w : ℕ) (d : List ℕ) → w < 131072 → (is_among lines (w / 32) ≡ true) ⊎ (get_or view.words w d ≡ word_at v.bytes w)
looked_at v view asked stored lines none others are w d low = by_way (cases_eq view.entries (length v.history))
    (λ same. inr (ap (λ l. get_or l w d) (none same) ∙ word_there v.bytes w d low))
    (λ grown. by_way (others w d low)
    (λ on. inl (ap (λ l. is_among l (w / 32)) (are grown) ∙ passing_listed (is_due view.cpus v asked) stored (w / 32) on))
    (λ same. inr same))
