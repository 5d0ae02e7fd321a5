-- A line of a text page, and any other.
use Rattle.std.proofs.Common.{◌≡◌, ℕ, Bool, true, false, refl, sym, ap}
use Rattle.std.specs.Prelude.{if◌then◌else◌, ◌&&◌, not}

-- a line of a text page keeps its bytes, and any other gets them
pub kept-line : (text page : Bool) (new old : ℕ) → page ≡ true → old ≡ (if text && not page then new else old)
kept-line true page new old h = ap (λ b. if not b then new else old) (sym h)
kept-line false page new old h = refl

pub taken-line : (same page : Bool) (new old : ℕ) → page ≡ false
    → (if same then new else old) ≡ (if same && not page then new else old)
taken-line true page new old h = ap (λ b. if not b then new else old) (sym h)
taken-line false page new old h = refl
