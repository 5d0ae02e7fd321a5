-- Bytes that stand in storage while an instruction is performed, and those of storage that come back.
use Rattle.std.proofs.Common.{◌≡◌, ℕ, zero, suc, ◌+◌, ◌<◌, ◌≤◌, Bool, true, false, List, [], ◌∷◌, ◌++◌, Option}
use Rattle.std.proofs.Common.{◌-◌, refl, sym, ap, ◌∙◌, arith, length, get_or, take, drop, inl, inr}
use Rattle.std.specs.Prelude.{map, cond, All}
use Rattle.std.proofs.lemmas.Bool.{cases_lt}
use Rattle.std.proofs.lemmas.List.{ext_get_or, length-take, get_or_past}
use Rattle.std.proofs.lemmas.List.Elements.{All-nil, All-cons}
use Rattle.std.proofs.Math.Seq.{take-append_seam}
use Rattle.z_regs.specs.Absolute.{IsAccessible}
use Rattle.z_regs.specs.Prefix.{absolute_of, storage_size}
use Rattle.z_regs.specs.declared.ranges.Range.{Range}
use Rattle.z_instr.specs.Operands.{from_up}
use Rattle.z_touch.specs.Refusals.{span_of}
use Rattle.z_effect.specs.After.{range_at, written, with_stored, storage_after}
use Rattle.z_effect.specs.Outcome.{Outcome, Did, Overflowed, Divides, Aborts}
use Rattle.z_effect.proofs.Stored.{length-written, below, above}
use Rattle.z_regs.proofs.Writes.{inside, written_same}
use Rattle.tx_serial.specs.Flat.{Storage, bytes_seen}
use Rattle.tx_attempt.specs.Performed.{IsFetched, StoresNone, StoresFirst, no_range, first_size, first_bytes}
use Rattle.tx_attempt.proofs.Stored.{none-written}
use Rattle.z_regs.proofs.OneArea.{length-range_at}

-- ---- bytes written twice

over-at : (s zs ys : List ℕ) (a i : ℕ) → a + length ys ≤ length s → length zs ≤ length ys
    → get_or (written (written s a zs) a ys) i 0 ≡ get_or (written s a ys) i 0
over-at s zs ys a i h l =
    let size = length-written s a zs (omega (arith, h, l)) in
    let start : a ≤ length s = omega (arith, h) in
    let again : a ≤ length (written s a zs) = omega (arith, start, size) in
    elim (cases_lt i a) [
      | inl before ↦
          below (written s a zs) a ys i again before ∙ below s a zs i start before
          ∙ sym (below s a ys i start before)
      | inr from ↦ elim (cases_lt i (a + length ys)) [
        | inl within ↦
            let k = i - a in
            let place : a + k ≡ i = omega (arith, from) in
            let short : k < length ys = omega (arith, within, from, place) in
            ap (λ x. get_or (written (written s a zs) a ys) x 0) (sym place)
            ∙ inside (written s a zs) a ys k again short
            ∙ sym (inside s a ys k start short)
            ∙ ap (λ x. get_or (written s a ys) x 0) place
        | inr behind ↦
            above (written s a zs) a ys i again behind
            ∙ above s a zs i start (omega (arith, behind, l))
            ∙ sym (above s a ys i start behind)
      ]
    ]

-- the bytes that are written last stand there, where no more were written before
pub over : (s zs ys : List ℕ) (a : ℕ) → a + length ys ≤ length s → length zs ≤ length ys
    → written (written s a zs) a ys ≡ written s a ys
over s zs ys a h l =
    let first = length-written s a zs (omega (arith, h, l)) in
    let left : length (written (written s a zs) a ys) ≡ length s =
    length-written (written s a zs) a ys (omega (arith, h, first)) ∙ first in
    let right : length (written s a ys) ≡ length s = length-written s a ys h in
    ext_get_or 0 (written (written s a zs) a ys) (written s a ys) (left ∙ sym right)
    (λ i _. over-at s zs ys a i h l)

-- bytes that stood there come back
pub come-back : (s zs ys : List ℕ) (a n : ℕ) → a + n ≤ length s → length zs ≤ n → length ys ≡ n
    → ys ≡ range_at s a n → written (written s a zs) a ys ≡ s
come-back s zs ys a n h l size e =
    over s zs ys a (omega (arith, h, size)) (omega (arith, l, size))
    ∙ ap (written s a) e ∙ written_same s a n h

-- ---- true bytes

seen-at : (f : ℕ → ℕ) (a n k : ℕ) → k < n → get_or (map f (from_up a n)) k 0 ≡ f (a + k)
seen-at f a zero k h = absurd (omega (arith, h))
seen-at f a (suc n) zero h = let same : a ≡ a + 0 = omega arith in ap f same
seen-at f a (suc n) (suc k) h =
    let more : k < n = omega (arith, h) in
    let same : suc a + k ≡ a + suc k = omega arith in
    seen-at f (suc a) n k more ∙ ap f same

pub length-seen : (f : ℕ → ℕ) (a n : ℕ) → length (map f (from_up a n)) ≡ n
length-seen f a zero = refl
length-seen f a (suc n) = ap suc (length-seen f (suc a) n)

module _ (s : List ℕ) (f : ℕ → ℕ) (a n : ℕ) (xs : List ℕ) (e : xs ≡ map f (from_up a n))
    (h : a + n ≤ length s) where
  size-of : length xs ≡ n
  size-of = ap length e ∙ length-seen f a n

  -- true bytes that are written are there
  pub written-true : (k : ℕ) → k < n → get_or (written s a xs) (a + k) 0 ≡ f (a + k)
  written-true k lt =
      inside s a xs k (omega (arith, h)) (omega (arith, lt, size-of))
      ∙ ap (λ (ys : List ℕ). get_or ys k 0) e ∙ seen-at f a n k lt

  -- and leave true bytes true
  pub true-stays : (x : ℕ) → get_or s x 0 ≡ f x → get_or (written s a xs) x 0 ≡ f x
  true-stays x t =
      let start : a ≤ length s = omega (arith, h) in
      elim (cases_lt x a) [
        | inl before ↦ below s a xs x start before ∙ t
        | inr from ↦ elim (cases_lt x (a + n)) [
          | inl within ↦
              let k = x - a in
              let place : a + k ≡ x = omega (arith, from) in
              let short : k < n = omega (arith, within, from, place) in
              ap (λ y. get_or (written s a xs) y 0) (sym place) ∙ written-true k short ∙ ap f place
          | inr behind ↦ above s a xs x start (omega (arith, behind, size-of)) ∙ t
        ]
      ]

-- ---- the operands

-- what is found of the operands in storage is what the attempt sees
pub lent : (prefix : Option ℕ) (seen : Storage) (need : List Range) (s ys xs : List ℕ) → length need ≤ 2
    → (get_or need 0 no_range).first + (get_or need 0 no_range).length ≤ length s
    → (get_or need 1 no_range).first + (get_or need 1 no_range).length ≤ length s
    → ys ≡ bytes_seen prefix seen (get_or need 1 no_range).first (get_or need 1 no_range).length
    → xs ≡ bytes_seen prefix seen (get_or need 0 no_range).first (get_or need 0 no_range).length
    → All (IsFetched prefix seen
    (written (written s (get_or need 1 no_range).first ys) (get_or need 0 no_range).first xs)) need
lent prefix seen [] s ys xs few first second ey ex = All-nil (IsFetched prefix seen _)
lent prefix seen (r ∷ []) s ys xs few first second ey ex =
    let f : ℕ → ℕ = λ a. seen (absolute_of prefix a) in
    let t = written s 0 ys in
    let size : length t ≡ length s = length-written s 0 ys (omega (arith, ap length ey)) in
    All-cons (IsFetched prefix seen (written t r.first xs)) r []
    (written-true t f r.first r.length xs ex (omega (arith, first, size)))
    (All-nil (IsFetched prefix seen (written t r.first xs)))
lent prefix seen (r ∷ q ∷ []) s ys xs few first second ey ex =
    let f : ℕ → ℕ = λ a. seen (absolute_of prefix a) in
    let t = written s q.first ys in
    let size : length t ≡ length s =
    length-written s q.first ys (omega (arith, second, size-of s f q.first q.length ys ey second)) in
    let here : r.first + r.length ≤ length t = omega (arith, first, size) in
    All-cons (IsFetched prefix seen (written t r.first xs)) r (q ∷ [])
    (written-true t f r.first r.length xs ex here)
    (All-cons (IsFetched prefix seen (written t r.first xs)) q []
    (λ k lt. true-stays t f r.first r.length xs ex here (q.first + k)
    (written-true s f q.first q.length ys ey second k lt))
    (All-nil (IsFetched prefix seen (written t r.first xs))))
lent prefix seen (r ∷ q ∷ p ∷ rest) s ys xs few first second ey ex = absurd (omega (arith, few))

first-over : (r : Range) (rs : List Range) (bytes s ys : List ℕ) (b : Bool) → StoresNone rs
    → r.first + r.length ≤ length s → length ys ≡ r.length
    → written (cond b (with_stored (map span_of rs) (drop r.length bytes)
    (written s r.first (take r.length bytes))) (with_stored (map span_of rs) bytes s)) r.first ys
    ≡ written s r.first ys
first-over r rs bytes s ys true none h size =
    ap (λ (t : List ℕ). written t r.first ys)
    (none-written rs (drop r.length bytes) (written s r.first (take r.length bytes)) none)
    ∙ over s (take r.length bytes) ys r.first (omega (arith, h, size))
    (omega (arith, size, length-take r.length bytes))
first-over r rs bytes s ys false none h size =
    ap (λ (t : List ℕ). written t r.first ys) (none-written rs bytes s none)

-- what the instruction stores is gone where other bytes are written into all of its first operand
pub after-over : (need : List Range) (o : Outcome) (s ys : List ℕ) → StoresFirst need
    → (get_or need 0 no_range).first + (get_or need 0 no_range).length ≤ length s
    → length ys ≡ (get_or need 0 no_range).length
    → written (storage_after (map span_of need) s o) (get_or need 0 no_range).first ys
    ≡ written s (get_or need 0 no_range).first ys
after-over [] (Did c bytes) s ys first h size = refl
after-over [] (Overflowed c bytes) s ys first h size = refl
after-over [] Divides s ys first h size = refl
after-over [] (Aborts code) s ys first h size = refl
after-over (r ∷ rs) (Did c bytes) s ys first h size = first-over r rs bytes s ys r.store first h size
after-over (r ∷ rs) (Overflowed c bytes) s ys first h size = first-over r rs bytes s ys r.store first h size
after-over (r ∷ rs) Divides s ys first h size = refl
after-over (r ∷ rs) (Aborts code) s ys first h size = refl

-- the bytes of both operands are lent, the instruction is executed, and they come back
pub returned : (need : List Range) (o : Outcome) (s mid lent-now t again new xs ys kept other : List ℕ)
    → StoresFirst need
    → (get_or need 0 no_range).first + (get_or need 0 no_range).length ≤ length s
    → (get_or need 1 no_range).first + (get_or need 1 no_range).length ≤ length s
    → length ys ≡ (get_or need 1 no_range).length → length xs ≡ (get_or need 0 no_range).length
    → mid ≡ written s (get_or need 1 no_range).first ys
    → other ≡ range_at s (get_or need 1 no_range).first (get_or need 1 no_range).length
    → lent-now ≡ written mid (get_or need 0 no_range).first xs
    → kept ≡ range_at mid (get_or need 0 no_range).first (get_or need 0 no_range).length
    → t ≡ storage_after (map span_of need) lent-now o
    → again ≡ written t (get_or need 0 no_range).first kept
    → new ≡ written again (get_or need 1 no_range).first other → new ≡ s
returned need o s mid lent-now t again new xs ys kept other first ha hb ly lx em eo el ek et ea en =
    let a = get_or need 0 no_range in
    let b = get_or need 1 no_range in
    let size : length mid ≡ length s = ap length em ∙ length-written s b.first ys (omega (arith, hb, ly)) in
    let in-mid : a.first + a.length ≤ length mid = omega (arith, ha, size) in
    let longer : length lent-now ≡ length mid =
    ap length el ∙ length-written mid a.first xs (omega (arith, in-mid, lx)) in
    let in-lent : a.first + a.length ≤ length lent-now = omega (arith, in-mid, longer) in
    let short : length kept ≡ a.length = ap length ek ∙ length-range_at mid a.first a.length in-mid in
    let back : again ≡ mid =
    ea ∙ ap (λ (x : List ℕ). written x a.first kept) et ∙ after-over need o lent-now kept first in-lent short
    ∙ ap (λ (x : List ℕ). written x a.first kept) el
    ∙ come-back mid xs kept a.first a.length in-mid (omega (arith, lx)) short ek in
    en ∙ ap (λ (x : List ℕ). written x b.first other) (back ∙ em)
    ∙ come-back s ys other b.first b.length hb (omega (arith, ly))
    (ap length eo ∙ length-range_at s b.first b.length hb) eo

-- ---- what is stored

apart : (r : Range) (t xs rest : List ℕ) (b : Bool) → r.first + r.length ≤ length t
    → xs ≡ range_at t r.first r.length
    → take (cond b r.length 0) (xs ++ rest) ≡ cond b (range_at t r.first r.length) []
apart r t xs rest false h e = refl
apart r t xs rest true h e =
    let size : length xs ≡ r.length = ap length e ∙ length-range_at t r.first r.length h in
    ap (λ n. take n (xs ++ rest)) (sym size) ∙ take-append_seam xs rest ∙ e

-- the bytes that come back from the first operand are those that are stored
pub kept-apart : (need : List Range) (t xs rest : List ℕ)
    → (get_or need 0 no_range).first + (get_or need 0 no_range).length ≤ length t
    → xs ≡ range_at t (get_or need 0 no_range).first (get_or need 0 no_range).length
    → take (first_size need) (xs ++ rest) ≡ first_bytes need t
kept-apart [] t xs rest h e = refl
kept-apart (r ∷ rs) t xs rest h e = apart r t xs rest r.store h e

-- ---- operands lie in storage

pub operand-end : (prefix : Option ℕ) (need : List Range) (i : ℕ) → All (IsAccessible prefix) need
    → (get_or need i no_range).first + (get_or need i no_range).length ≤ storage_size
operand-end prefix need i accessible = elim (cases_lt i (length need)) [
  | inl within ↦ (accessible i no_range within).end
  | inr past ↦
      let none : get_or need i no_range ≡ no_range = get_or_past need i no_range past in
      omega (arith, ap (λ (r : Range). r.first) none, ap (λ (r : Range). r.length) none)
]

pub operand-small : (prefix : Option ℕ) (need : List Range) (i : ℕ) → All (IsAccessible prefix) need
    → (get_or need i no_range).length ≤ 256
operand-small prefix need i accessible = elim (cases_lt i (length need)) [
  | inl within ↦ (accessible i no_range within).most
  | inr past ↦ omega (arith, ap (λ (r : Range). r.length) (get_or_past need i no_range past))
]
