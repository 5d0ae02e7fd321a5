-- The steps of the loop over the starts of instructions.
use Rattle.std.proofs.Common.{◌≡◌, ℕ, ◌+◌, ◌<◌, ◌≤◌, List, length, drop, get_or, sym, ap}
use Rattle.std.proofs.lemmas.Grind.{common_steps}
use Rattle.std.proofs.lemmas.List.{drop_all}
use Rattle.z_assemble.specs.Whole.{pages_with, with_pages, Pages}
use Rattle.z_fields.proofs.Loops.{drop_here}

pub pages_go : (storage starts : List ℕ) (i : ℕ) (pages : Pages) → i < length starts →
    pages_with storage (drop (i + 1) starts) (with_pages storage (get_or starts i 0) pages) ≡ pages_with
    storage (drop i starts) pages
unfolding pages_with
pages_go storage starts i pages h = sym (ap (λ l. pages_with storage l pages) (drop_here starts i 0 h))

pub pages_over : (storage starts : List ℕ) (i : ℕ) (pages : Pages) → length starts ≤ i →
    pages_with storage (drop i starts) pages ≡ pages
unfolding pages_with
pages_over storage starts i pages h = ap (λ l. pages_with storage l pages) (drop_all i starts h)

pub ruleset page_steps = (pages_go, pages_over, common_steps)
