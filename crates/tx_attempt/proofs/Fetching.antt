-- Bytes of operands that are fetched one by one.
use Rattle.std.proofs.Common.{◌≡◌, ℕ, zero, suc, ◌+◌, ◌<◌, ◌≤◌, List, [], ◌∷◌, ◌++◌, Option}
use Rattle.std.proofs.Common.{refl, sym, ap, ◌∙◌, arith, length, get_or, take, drop}
use Rattle.std.specs.Prelude.{map, All}
use Rattle.std.proofs.lemmas.List.{drop_more}
use Rattle.std.proofs.lemmas.List.Elements.{All-head, All-tail}
use Rattle.z_regs.specs.Prefix.{storage_size, absolute_of}
use Rattle.z_regs.specs.Absolute.{IsAccessible}
use Rattle.z_regs.specs.declared.ranges.Range.{Range}
use Rattle.z_instr.specs.Operands.{from_up}
use Rattle.z_touch.specs.Refusals.{span_of}
use Rattle.z_effect.specs.After.{touched, AreInside}
use Rattle.tx_serial.specs.Flat.{Storage, operand_bytes}
use Rattle.tx_attempt.specs.Performed.{IsFetched}
use Rattle.tx_serial.proofs.Listed.{touched_first}

pub taken-moved : (n a b : ℕ) (t : List ℕ) (f : ℕ → ℕ) → ((k : ℕ) → k < n → get_or t (a + k) 0 ≡ f (b + k))
    → a + n ≤ length t → take n (drop a t) ≡ map f (from_up b n)
taken-moved zero a b t f at h = refl
taken-moved (suc n) a b t f at h =
    let within : a < length t = omega (arith, h) in
    let next : a + 1 ≡ suc a = omega arith in
    let here : a + 0 ≡ a = omega arith in
    let there : b + 0 ≡ b = omega arith in
    let some : 0 < suc n = omega arith in
    let first : get_or t a 0 ≡ f b = ap (λ x. get_or t x 0) (sym here) ∙ at 0 some ∙ ap f there in
    let rest : suc a + n ≤ length t = omega (arith, h) in
    ap (take (suc n)) (drop_more t a 0 within)
    ∙ ap (λ x. x ∷ take n (drop (a + 1) t)) first
    ∙ ap (λ k. f b ∷ take n (drop k t)) next
    ∙ ap (λ bs. f b ∷ bs) (taken-moved n (suc a) (suc b) t f (λ k lt.
    let more : suc k < suc n = omega (arith, lt) in
    let same : suc a + k ≡ a + suc k = omega arith in
    let moved : b + suc k ≡ suc b + k = omega arith in
    ap (λ x. get_or t x 0) same ∙ at (suc k) more ∙ ap f moved) rest)

pub taken-at : (n a : ℕ) (t : List ℕ) (f : ℕ → ℕ) → ((k : ℕ) → k < n → get_or t (a + k) 0 ≡ f (a + k))
    → a + n ≤ length t → take n (drop a t) ≡ map f (from_up a n)
taken-at n a t f at h = taken-moved n a a t f at h

pub touched-fetched : (prefix : Option ℕ) (s : Storage) (ranges : List Range) (t : List ℕ)
    → AreInside (map span_of ranges) t → All (IsFetched prefix s t) ranges
    → touched (map span_of ranges) t ≡ operand_bytes prefix s ranges
touched-fetched prefix s [] t inside h = refl
touched-fetched prefix s (r ∷ rs) t inside h =
    touched_first (span_of r) (map span_of rs) t
    ∙ ap (λ bs. bs ++ touched (map span_of rs) t)
    (taken-at r.length r.first t (λ a. s (absolute_of prefix a)) (All-head (IsFetched prefix s t) r rs h)
    inside.0)
    ∙ ap (λ bs. map (λ a. s (absolute_of prefix a)) (from_up r.first r.length) ++ bs)
    (touched-fetched prefix s rs t inside.1 (All-tail (IsFetched prefix s t) r rs h))

pub all-inside : (prefix : Option ℕ) (ranges : List Range) (t : List ℕ) → length t ≡ storage_size
    → All (IsAccessible prefix) ranges → AreInside (map span_of ranges) t
all-inside prefix [] t size h = tt
all-inside prefix (r ∷ rs) t size h =
    let end = (All-head (IsAccessible prefix) r rs h).end in
    let within : r.first + r.length ≤ length t = omega (arith, end, size) in
    (within, all-inside prefix rs t size (All-tail (IsAccessible prefix) r rs h))
