-- Bytes that are seen through copies, each by its line.
use Rattle.std.proofs.Common.{◌≡◌, ◌≢◌, ℕ, zero, suc, ◌+◌, ◌*◌, ◌/◌, ◌%◌, ◌<◌, false, true, List, length}
use Rattle.std.proofs.Common.{get_or, drop, Option, Some, None, refl, sym, ap, ◌∙◌, arith, inl, inr}
use Rattle.std.specs.Prelude.{◌⊎◌, unwrap_or, slice_get}
use Rattle.std.specs.Option.{option_and_then}
use Rattle.std.proofs.lemmas.Bool.{cases_eq, cases_Bool, cond-true, cond-false}
use Rattle.std.proofs.lemmas.List.{ext_get_or, get_or-take, get_or-drop, get_or_default}
use Rattle.std.proofs.lemmas.Option.{unwrap_or-slice_get, same_Some}
use borrow.Enum.Arm.{by_way}
use Rattle.line_table.specs.declared.table.Mode.{Mode}
use Rattle.line_table.specs.declared.table.Mode.TheVariants.{Shared, Exclusive}
use Rattle.line_table.specs.Holders.{Holders}
use Rattle.store_cache.specs.Overlay.{Overlay, byte_through, bytes_through}
use Rattle.store_cache.proofs.Overlays.{length-bytes_through, get_or-bytes_through}
use Rattle.l1_data.specs.Sizes.{line_size}
use Rattle.line_copies.specs.Coherence.{Copied, line_in, is_exclusive, exclusive_holder, overlaid}

-- ---- the exclusive holder

pub one_exclusive : (n : ℕ) (modes : ℕ → Option Mode) (cpu : ℕ) → cpu < n → modes cpu ≡ Some Exclusive
    → ((other : ℕ) → other < n → other ≢ cpu → modes other ≡ None) → exclusive_holder n modes ≡ Some cpu
unfolding exclusive_holder
one_exclusive zero modes cpu lt is others = absurd (omega (arith, lt))
one_exclusive (suc n) modes cpu lt is others =
    by_way (cases_eq n cpu)
    (λ e. cond-true (is_exclusive (modes n)) (Some n) (exclusive_holder n modes)
    (ap (λ k. is_exclusive (modes k)) e ∙ ap is_exclusive is) ∙ ap Some e)
    (λ ne. cond-false (is_exclusive (modes n)) (Some n) (exclusive_holder n modes)
    (ap is_exclusive (others n (omega arith) ne))
    ∙ one_exclusive n modes cpu (omega (arith, lt, ne)) is (λ other below off. others other (omega (
      arith,
      below,
    )) off))

pub none_exclusive : (n : ℕ) (modes : ℕ → Option Mode)
    → ((cpu : ℕ) → cpu < n → is_exclusive (modes cpu) ≡ false) → exclusive_holder n modes ≡ None
unfolding exclusive_holder
none_exclusive zero modes none = refl
none_exclusive (suc n) modes none =
    cond-false (is_exclusive (modes n)) (Some n) (exclusive_holder n modes) (none n (omega arith))
    ∙ none_exclusive n modes (λ cpu below. none cpu (omega (arith, below)))

pub is_exclusive-true : (mode : Option Mode) → is_exclusive mode ≡ true → mode ≡ Some Exclusive
is_exclusive-true None e = let n : false ≡ true = e in cc
is_exclusive-true (Some Shared) e = let n : false ≡ true = e in cc
is_exclusive-true (Some Exclusive) e = refl

pub holder_is : (n : ℕ) (modes : ℕ → Option Mode) (cpu : ℕ) → exclusive_holder n modes ≡ Some cpu
    → (cpu < n) × (modes cpu ≡ Some Exclusive)
unfolding exclusive_holder
holder_is zero modes cpu e = let n : None ≡ Some cpu = e in cc
holder_is (suc n) modes cpu e =
    by_way (cases_Bool (is_exclusive (modes n)))
    (λ yes.
    let same : n ≡ cpu = same_Some n cpu
    (sym (cond-true (is_exclusive (modes n)) (Some n) (exclusive_holder n modes) yes) ∙ e) in
    (omega (arith, same), ap modes (sym same) ∙ is_exclusive-true (modes n) yes))
    (λ no.
    let rest = holder_is n modes cpu
    (sym (cond-false (is_exclusive (modes n)) (Some n) (exclusive_holder n modes) no) ∙ e) in
    (omega (arith, rest.0), rest.1))

pub holder_cases : (n : ℕ) (modes : ℕ → Option Mode) → (exclusive_holder n modes ≡ None)
    ⊎ ((cpu : ℕ) × (cpu < n) × (exclusive_holder n modes ≡ Some cpu))
unfolding exclusive_holder
holder_cases zero modes = inl refl
holder_cases (suc n) modes =
    by_way (cases_Bool (is_exclusive (modes n)))
    (λ yes. inr
    (n, omega arith, cond-true (is_exclusive (modes n)) (Some n) (exclusive_holder n modes) yes))
    (λ no. by_way (holder_cases n modes)
    (λ none. inl (cond-false (is_exclusive (modes n)) (Some n) (exclusive_holder n modes) no ∙ none))
    (λ found. inr (
      found.0,
      omega (arith, found.1),
      cond-false (is_exclusive (modes n)) (Some n) (exclusive_holder n modes) no ∙ found.2,
    )))

-- ---- a byte of a line

pub line_byte : (storage : List ℕ) (line at d : ℕ) → at < line_size
    → get_or (line_in storage line) at d ≡ get_or storage (line * line_size + at) d
line_byte storage line at d lt =
    get_or-take line_size (drop (line * line_size) storage) at d lt ∙ get_or-drop (line * line_size) storage
    at d

-- ---- a byte that is seen

-- the byte at a place of a copy, else another one
copy_byte : Option (List ℕ) → ℕ → ℕ → ℕ
copy_byte copy at other = unwrap_or (option_and_then (λ c. slice_get c at) copy) other

pub seen_beside : (cpus : ℕ) (held : Holders) (copies : Copied) (storage : List ℕ) (a : ℕ)
    → exclusive_holder cpus (λ cpu. held cpu (a / line_size)) ≡ None
    → byte_through (overlaid cpus held copies) storage a ≡ get_or storage a 0
unfolding overlaid
seen_beside cpus held copies storage a e =
    ap (λ o. unwrap_or (option_and_then
    (λ cpu. option_and_then (λ copy. slice_get copy (a % line_size)) (copies cpu (a / line_size))) o)
    (get_or storage a 0)) e

seen_held : (cpus : ℕ) (held : Holders) (copies : Copied) (storage : List ℕ) (a cpu : ℕ)
    → exclusive_holder cpus (λ c. held c (a / line_size)) ≡ Some cpu
    → byte_through (overlaid cpus held copies) storage a
    ≡ copy_byte (copies cpu (a / line_size)) (a % line_size) (get_or storage a 0)
unfolding overlaid copy_byte
seen_held cpus held copies storage a cpu e =
    ap (λ o. unwrap_or (option_and_then
    (λ c. option_and_then (λ copy. slice_get copy (a % line_size)) (copies c (a / line_size))) o)
    (get_or storage a 0)) e

copy_byte-some : (copy : Option (List ℕ)) (c : List ℕ) (at other : ℕ) → copy ≡ Some c
    → copy_byte copy at other ≡ get_or c at other
unfolding copy_byte
copy_byte-some copy c at other e =
    ap (λ o. unwrap_or (option_and_then (λ b. slice_get b at) o) other) e ∙ unwrap_or-slice_get c at other

copy_byte-cases : (copy : Option (List ℕ)) (at other : ℕ)
    → ((c : List ℕ) → copy ≡ Some c → get_or c at other ≡ other) → copy_byte copy at other ≡ other
unfolding copy_byte
copy_byte-cases None at other same = refl
copy_byte-cases (Some c) at other same = copy_byte-some (Some c) c at other refl ∙ same c refl

pub seen_exclusive : (cpus : ℕ) (held : Holders) (copies : Copied) (storage : List ℕ) (a cpu : ℕ) (copy :
    List ℕ)
    → exclusive_holder cpus (λ c. held c (a / line_size)) ≡ Some cpu → copies cpu (a / line_size) ≡ Some copy
    → length copy ≡ line_size
    → byte_through (overlaid cpus held copies) storage a ≡ get_or copy (a % line_size) 0
seen_exclusive cpus held copies storage a cpu copy e has size =
    seen_held cpus held copies storage a cpu e
    ∙ copy_byte-some (copies cpu (a / line_size)) copy (a % line_size) (get_or storage a 0) has
    ∙ get_or_default copy (a % line_size) (get_or storage a 0) 0 (omega (arith, size))

-- each copy of a line has the bytes of storage
pub record IsClean (cpus : ℕ) (copies : Copied) (storage : List ℕ) (line : ℕ) : Type 0 where
  pub each : (cpu : ℕ) (copy : List ℕ) → cpu < cpus → copies cpu line ≡ Some copy → copy ≡ line_in storage
      line

pub seen_clean : (cpus : ℕ) (held : Holders) (copies : Copied) (storage : List ℕ) (a : ℕ)
    → IsClean cpus copies storage (a / line_size) → a < length storage
    → byte_through (overlaid cpus held copies) storage a ≡ get_or storage a 0
seen_clean cpus held copies storage a clean lt =
    by_way (holder_cases cpus (λ c. held c (a / line_size)))
    (λ none. seen_beside cpus held copies storage a none)
    (λ found. seen_held cpus held copies storage a found.0 found.2
    ∙ copy_byte-cases (copies found.0 (a / line_size)) (a % line_size) (get_or storage a 0)
    (λ copy has. ap (λ c. get_or c (a % line_size) (get_or storage a 0)) (clean.each found.0 copy found.1 has)
    ∙ line_byte storage (a / line_size) (a % line_size) (get_or storage a 0) (omega arith)
    ∙ ap (λ k. get_or storage k (get_or storage a 0)) (let e : a / line_size * line_size + a % line_size ≡ a
    = omega arith in e)
    ∙ get_or_default storage a (get_or storage a 0) 0 lt))

-- the overlay is told by the modes and the copies of the line
pub overlaid_agree : (cpus : ℕ) (held held' : Holders) (copies copies' : Copied) (a : ℕ)
    → ((cpu : ℕ) → held' cpu (a / line_size) ≡ held cpu (a / line_size))
    → ((cpu : ℕ) → copies' cpu (a / line_size) ≡ copies cpu (a / line_size))
    → overlaid cpus held' copies' a ≡ overlaid cpus held copies a
unfolding overlaid
overlaid_agree cpus held held' copies copies' a modes same i =
    option_and_then (λ cpu. option_and_then (λ copy. slice_get copy (a % line_size)) (same cpu i))
    (exclusive_holder cpus (λ cpu. modes cpu i))

-- ---- all bytes

pub same_bytes : (o o' : Overlay) (storage storage' : List ℕ) → length storage' ≡ length storage
    → ((a : ℕ) → a < length storage → byte_through o' storage' a ≡ byte_through o storage a)
    → bytes_through o' storage' ≡ bytes_through o storage
same_bytes o o' storage storage' size same =
    ext_get_or 0 (bytes_through o' storage') (bytes_through o storage)
    (length-bytes_through o' storage' ∙ size ∙ sym (length-bytes_through o storage))
    (λ k lt.
    let below : k < length storage' = omega (arith, lt, length-bytes_through o' storage') in
    let below_too : k < length storage = omega (arith, below, size) in
    get_or-bytes_through o' storage' k below ∙ same k below_too ∙ sym (get_or-bytes_through o storage k
    below_too))
