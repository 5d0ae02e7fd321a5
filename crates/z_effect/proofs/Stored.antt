-- Only the stored ranges change.
use Rattle.std.proofs.Common.{◌≡◌, ℕ, ◌<◌, ◌≤◌, ◌+◌, List, [], ◌∷◌, length, get_or, take, drop, true, false, refl, ◌∙◌, arith, inl, inr, ◌⊎◌, cond}
use Rattle.std.specs.Prelude.{All}
use Rattle.std.proofs.lemmas.List.{length-take}
use Rattle.std.proofs.lemmas.List.Elements.{All-head, All-tail}
use Rattle.z_instr.specs.Operands.{Span}
pub use Rattle.z_regs.proofs.Writes.{length-written, below, above}
use Rattle.z_effect.specs.After.{written, with_stored, AreInside, IsBeside}

-- ranges that end in storage lie in it
pub are_inside : (ss : List Span) (s : List ℕ) → All (λ r. r.first + r.length ≤ length s) ss → AreInside ss s
are_inside [] s ends = tt
are_inside (r ∷ rs) s ends = (
  All-head (λ x. x.first + x.length ≤ length s) r rs ends,
  are_inside rs s (All-tail (λ x. x.first + x.length ≤ length s) r rs ends),
)

short : (n : ℕ) (xs : List ℕ) → length (take n xs) ≤ n
short n xs = omega (arith, length-take n xs)

at_write : (r : Span) (bytes s : List ℕ) (k : ℕ) → r.first + r.length ≤ length s →
    (k < r.first) ⊎ (r.first + r.length ≤ k) →
    get_or (written s r.first (take r.length bytes)) k 0 ≡ get_or s k 0
at_write r bytes s k h (inl o) = below s r.first (take r.length bytes) k (omega arith) o
at_write r bytes s k h (inr o) =
    above s r.first (take r.length bytes) k (omega arith) (omega (arith, short r.length bytes))

inside : (rs : List Span) (s t : List ℕ) → length t ≡ length s → AreInside rs s → AreInside rs t
inside [] s t e h = tt
inside (r ∷ rs) s t e h = (omega (arith, h.0), inside rs s t e h.1)

write_size : (r : Span) (bytes s : List ℕ) → r.first + r.length ≤ length s →
    length (written s r.first (take r.length bytes)) ≡ length s
write_size r bytes s h = length-written s r.first (take r.length bytes) (omega (arith, short r.length bytes))

pub same_size : (rs : List Span) (bytes s : List ℕ) → AreInside rs s →
    length (with_stored rs bytes s) ≡ length s
same_size [] bytes s h = refl
same_size (r ∷ rs) bytes s h =
    let w = written s r.first (take r.length bytes) in
    let l = write_size r bytes s h.0 in
    elim r.store as
    (λ b. length (cond b (with_stored rs (drop r.length bytes) w) (with_stored rs bytes s)) ≡ length s) [
      | true ↦ same_size rs (drop r.length bytes) w (inside rs s w l h.1) ∙ l
      | false ↦ same_size rs bytes s h.1
    ]

pub same_elsewhere : (rs : List Span) (bytes s : List ℕ) (k : ℕ) → AreInside rs s → IsBeside k rs →
    get_or (with_stored rs bytes s) k 0 ≡ get_or s k 0
same_elsewhere [] bytes s k h o = refl
same_elsewhere (r ∷ rs) bytes s k h o =
    let w = written s r.first (take r.length bytes) in
    let l = write_size r bytes s h.0 in
    (elim r.store as (λ b. (b ≡ true → (k < r.first) ⊎ (r.first + r.length ≤ k)) →
    get_or (cond b (with_stored rs (drop r.length bytes) w) (with_stored rs bytes s)) k 0 ≡
    get_or s k 0) [
      | true ↦ λ at. same_elsewhere rs (drop r.length bytes) w k (inside rs s w l h.1) o.1
          ∙ at_write r bytes s k h.0 (at refl)
      | false ↦ λ at. same_elsewhere rs bytes s k h.1 o.1
    ]) o.0
