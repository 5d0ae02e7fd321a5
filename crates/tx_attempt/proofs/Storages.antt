-- Lists of bytes as storage: one byte more, bytes one after the other, and what an overlay leaves.
use Rattle.std.proofs.Common.{◌≡◌, ◌≢◌, ℕ, zero, suc, ◌+◌, ◌<◌, ◌≤◌, Bool, true, false, List, [], ◌∷◌, ◌++◌}
use Rattle.std.proofs.Common.{length}
use Rattle.std.proofs.Common.{get_or, set, Option, None, refl, sym, ap, ◌∙◌, arith, inl, inr}
use Rattle.std.specs.Prelude.{◌==◌, if◌then◌else◌, unwrap_or, map}
use Rattle.std.proofs.lemmas.Bool.{cases_lt}
use Rattle.std.proofs.lemmas.List.{get_or_past, get_or-set_same, get_or-set_other}
use Rattle.store_cache.specs.Overlay.{Overlay, Store, bytes_through}
use Rattle.store_cache.proofs.Overlays.{length-bytes_through, get_or-bytes_through}
use Rattle.z_regs.specs.Prefix.{absolute_of}
use Rattle.tx_serial.specs.Flat.{Storage, at_put, stores_at, laid_over, with_bytes_at, bytes_seen}
use Rattle.z_instr.specs.Operands.{from_up}
use Rattle.tx_serial.proofs.Copies.{laid_twice}
use Rattle.tx_progress.specs.Progress.{seen_through}
use Rattle.tx_attempt.specs.Storages.{storage_of}

-- ---- one byte

put_at : (s : List ℕ) (a b x : ℕ) → a < length s → (t : Bool) → (x == a) ≡ t
    → get_or (set s a b) x 0 ≡ (if t then b else get_or s x 0)
put_at s a b x h true e =
    let same : x ≡ a = grind (arith, e) in
    ap (λ k. get_or (set s a b) k 0) same ∙ get_or-set_same s a b 0 h
put_at s a b x h false e =
    let other : x ≢ a = λ k. grind (arith, e, k) in
    get_or-set_other s a x b 0 other

pub storage_of-set : (s : List ℕ) (a b : ℕ) → a < length s
    → storage_of (set s a b) ≡ at_put (storage_of s) a b
storage_of-set s a b h i x = put_at s a b x h (x == a) refl i

-- ---- bytes one after the other

stores_at-append : (prefix : Option ℕ) (a : ℕ) (xs : List ℕ) (b : ℕ)
    → stores_at prefix a (xs ++ b ∷ [])
    ≡ stores_at prefix a xs ++ record { address = absolute_of prefix (a + length xs); byte = b } ∷ []
stores_at-append prefix a [] b =
    let same : a ≡ a + 0 = omega arith in
    ap (λ k. record { address = absolute_of prefix k; byte = b } ∷ []) same
stores_at-append prefix a (x ∷ xs) b =
    let same : suc a + length xs ≡ a + suc (length xs) = omega arith in
    ap (λ (ss : List Store). record { address = absolute_of prefix a; byte = x } ∷ ss)
    (stores_at-append prefix (suc a) xs b
    ∙ ap (λ k. stores_at prefix (suc a) xs ++ record { address = absolute_of prefix k; byte = b } ∷ []) same)

pub with_one_more : (prefix : Option ℕ) (a : ℕ) (xs : List ℕ) (b : ℕ) (s : Storage)
    → with_bytes_at prefix a (xs ++ b ∷ []) s
    ≡ at_put (with_bytes_at prefix a xs s) (absolute_of prefix (a + length xs)) b
unfolding laid_over
with_one_more prefix a xs b s =
    ap (laid_over s) (stores_at-append prefix a xs b)
    ∙ laid_twice (stores_at prefix a xs) _ s

-- ---- through an overlay

through_at : (o : Overlay) (s : List ℕ) (a : ℕ) → ((x : ℕ) → length s ≤ x → o x ≡ None)
    → get_or (bytes_through o s) a 0 ≡ unwrap_or (o a) (get_or s a 0)
through_at o s a beyond = elim (cases_lt a (length s)) [
  | inl within ↦ get_or-bytes_through o s a within
  | inr past ↦
      let longer : length (bytes_through o s) ≤ a = omega (arith, past, length-bytes_through o s) in
      get_or_past (bytes_through o s) a 0 longer
      ∙ sym (ap (λ v. unwrap_or v (get_or s a 0)) (beyond a past) ∙ get_or_past s a 0 past)
]

pub storage_of-bytes_through : (o : Overlay) (s : List ℕ) → ((a : ℕ) → length s ≤ a → o a ≡ None)
    → storage_of (bytes_through o s) ≡ seen_through o (storage_of s)
storage_of-bytes_through o s beyond i a = through_at o s a beyond i

-- ---- bytes that are fetched one after the other

map_more : (f : ℕ → ℕ) (a k : ℕ) → map f (from_up a (suc k)) ≡ map f (from_up a k) ++ f (a + k) ∷ []
map_more f a zero = let same : a ≡ a + 0 = omega arith in ap (λ x. f x ∷ []) same
map_more f a (suc k) =
    let same : suc a + k ≡ a + suc k = omega arith in
    ap (λ xs. f a ∷ xs) (map_more f (suc a) k ∙ ap (λ x. map f (from_up (suc a) k) ++ f x ∷ []) same)

pub bytes_seen-more : (prefix : Option ℕ) (s : Storage) (a k : ℕ)
    → bytes_seen prefix s a (k + 1) ≡ bytes_seen prefix s a k ++ s (absolute_of prefix (a + k)) ∷ []
bytes_seen-more prefix s a k =
    let next : k + 1 ≡ suc k = omega arith in
    ap (bytes_seen prefix s a) next ∙ map_more (λ x. s (absolute_of prefix x)) a k
