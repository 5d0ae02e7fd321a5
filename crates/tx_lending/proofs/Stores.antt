-- Stores change bytes at the places of stored operands alone.
use Rattle.std.proofs.Common.{◌≡◌, ℕ, zero, suc, Bool, true, false, List, [], ◌∷◌, ◌++◌, Option}
use Rattle.std.proofs.Common.{refl, sym, ap, ◌∙◌, arith, take, drop}
use Rattle.std.specs.Prelude.{◌||◌, nat_eq, cond}
use Rattle.std.specs.List.{filter}
use Rattle.std.proofs.lemmas.List.Folds.{list_any-append}
use Rattle.z_regs.specs.Prefix.{absolute_of}
use Rattle.z_regs.specs.declared.ranges.Range.{Range}
use Rattle.tx_serial.specs.Flat.{Storage, at_put, stores_at, operand_stores, laid_over}
use Rattle.tx_serial.proofs.Copies.{laid_twice}
use Rattle.tx_serial.proofs.Frame.{in_first, in_second}
use Rattle.tx_progress.specs.Progress.{Progress}
use Rattle.tx_lending.specs.Places.{places_from, operand_places, stored_places, is_among}
use Rattle.tx_serial.proofs.TextStays.{or_first, or_second}

-- ---- marks

pub not_first : (a : ℕ) (xs ys : List ℕ) → is_among (xs ++ ys) a ≡ false → is_among xs a ≡ false
not_first a xs ys h = or_first (is_among xs a) (is_among ys a) (sym (list_any-append (nat_eq a) xs ys) ∙ h)

pub not_second : (a : ℕ) (xs ys : List ℕ) → is_among (xs ++ ys) a ≡ false → is_among ys a ≡ false
not_second a xs ys h = or_second (is_among xs a) (is_among ys a) (sym (list_any-append (nat_eq a) xs ys) ∙ h)

-- those of one operand among those of all: it is stored or not
among_by : (stored : Bool) (r : Range) (rs : List Range) (q : Progress) (a : ℕ)
    → (is_among (stored_places rs q) a ≡ true → is_among (operand_places rs q) a ≡ true)
    → is_among (operand_places (cond stored (r ∷ filter (λ x. x.store) rs) (filter (λ x. x.store) rs)) q) a
    ≡ true
    → is_among (operand_places (r ∷ rs) q) a ≡ true
among_by true r rs q a more k = either (is_among first a) refl k
  where
    first : List ℕ
    first = places_from q.cpu.prefix r.first r.length

    either : (b : Bool) → is_among first a ≡ b → is_among (first ++ stored_places rs q) a ≡ true
        → is_among (first ++ operand_places rs q) a ≡ true
    either true e k = in_first a first (operand_places rs q) e
    either false e k =
        in_second a first (operand_places rs q)
        (more (sym (ap (λ b. b || is_among (stored_places rs q) a) e)
        ∙ sym (list_any-append (nat_eq a) first (stored_places rs q)) ∙ k))
among_by false r rs q a more k =
    in_second a (places_from q.cpu.prefix r.first r.length) (operand_places rs q) (more k)

-- the places of the operands that are stored are places of operands
pub stored_among : (ranges : List Range) (q : Progress) (a : ℕ) → is_among (stored_places ranges q) a ≡ true
    → is_among (operand_places ranges q) a ≡ true
stored_among [] q a h = h
stored_among (r ∷ rs) q a h = among_by r.store r rs q a (stored_among rs q a) h

-- ---- bytes that no store changes

put_elsewhere : (s : Storage) (place byte a : ℕ) → nat_eq a place ≡ false → at_put s place byte a ≡ s a
put_elsewhere s place byte a h = grind (arith, h)

bytes_elsewhere : (prefix : Option ℕ) (n first : ℕ) (bytes : List ℕ) (s : Storage) (a : ℕ)
    → is_among (places_from prefix first n) a ≡ false
    → laid_over s (stores_at prefix first (take n bytes)) a ≡ s a
unfolding laid_over
bytes_elsewhere prefix zero first bytes s a h = refl
bytes_elsewhere prefix (suc n) first [] s a h = refl
bytes_elsewhere prefix (suc n) first (byte ∷ bytes) s a h =
    let p = absolute_of prefix first in
    let others = is_among (places_from prefix (suc first) n) a in
    bytes_elsewhere prefix n (suc first) bytes (at_put s p byte) a (or_second (nat_eq a p) others h)
    ∙ put_elsewhere s p byte a (or_first (nat_eq a p) others h)

-- no byte that one operand's stores leave, and those of all others, is changed: it is stored or not
elsewhere_by : (stored : Bool) (r : Range) (rs : List Range) (q : Progress) (bytes : List ℕ) (s : Storage) (a : ℕ)
    → ((bytes : List ℕ) (s : Storage) → is_among (stored_places rs q) a ≡ false
    → laid_over s (operand_stores q.cpu.prefix rs bytes) a ≡ s a)
    → is_among (operand_places (cond stored (r ∷ filter (λ x. x.store) rs) (filter (λ x. x.store) rs)) q) a
    ≡ false
    → laid_over s (cond stored
    (stores_at q.cpu.prefix r.first (take r.length bytes)
    ++ operand_stores q.cpu.prefix rs (drop r.length bytes))
    (operand_stores q.cpu.prefix rs bytes)) a ≡ s a
elsewhere_by true r rs q bytes s a more k =
    let first = places_from q.cpu.prefix r.first r.length in
    let here = stores_at q.cpu.prefix r.first (take r.length bytes) in
    let rest = operand_stores q.cpu.prefix rs (drop r.length bytes) in
    ap (λ f. f a) (laid_twice here rest s)
    ∙ more (drop r.length bytes) (laid_over s here) (not_second a first (stored_places rs q) k)
    ∙ bytes_elsewhere q.cpu.prefix r.length r.first bytes s a (not_first a first (stored_places rs q) k)
elsewhere_by false r rs q bytes s a more k = more bytes s k

-- what is stored into operands changes nothing elsewhere
pub stores_elsewhere : (ranges : List Range) (q : Progress) (bytes : List ℕ) (s : Storage) (a : ℕ)
    → is_among (stored_places ranges q) a ≡ false
    → laid_over s (operand_stores q.cpu.prefix ranges bytes) a ≡ s a
unfolding laid_over
stores_elsewhere [] q bytes s a h = refl
stores_elsewhere (r ∷ rs) q bytes s a h =
    elsewhere_by r.store r rs q bytes s a (λ others t k. stores_elsewhere rs q others t a k) h
