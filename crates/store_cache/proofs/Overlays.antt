-- Overlays, and bytes seen through them.
use Rattle.std.proofs.Common.{◌≡◌, ◌≢◌, ℕ, ◌+◌, ◌-◌, ◌*◌, ◌/◌, ◌%◌, ◌<◌, ◌≤◌, eqb}
use Rattle.std.proofs.Common.{ltb, leb, List, [], ◌∷◌, ◌++◌, length, get_or, set, fold}
use Rattle.std.proofs.Common.{Some, refl, sym, ap, ◌∙◌, arith}
use Rattle.std.specs.Prelude.{◌&&◌, unwrap_or, slice_get}
use Rattle.std.specs.Option.{option_and_then}
use Rattle.std.proofs.lemmas.Bool.{cases_eq, cases_lt, cond-true, cond-false, eq-eqb, ne_eqb, lt-ltb, le-ltb}
use Rattle.std.proofs.lemmas.Bool.{le-leb, lt-leb, and_from, and_left, and_right}
use Rattle.std.proofs.lemmas.List.{ext_get_or, length-set, get_or-set_same, get_or-set_other, length_push}
use Rattle.std.proofs.lemmas.List.{get_or_push, get_or_append_left}
use Rattle.std.proofs.lemmas.List.FromFn.{length-map-range_with_len, get_or-map-range_with_len}
use Rattle.std.proofs.lemmas.Option.{slice_get-get_or}
use Rattle.byteorder.specs.Endian.{big_bytes}
use Rattle.z_regs.specs.Written.{written}
use Rattle.z_regs.proofs.Writes.{length-written, below, above, inside}
use borrow.Enum.Arm.{by_way}
use Rattle.store_cache.specs.Overlay.{Overlay, nothing, with_one, with_bytes, byte_through, bytes_through}
use Rattle.store_cache.specs.Overlay.{Store, overlay_of, stored_in}
use Rattle.store_cache.specs.Stores.{lasting_bytes}

-- ---- one place

pub with_one-here : (overlay : Overlay) (at number place : ℕ) → place ≡ at
    → with_one overlay at number place ≡ Some number
with_one-here overlay at number place e =
    cond-true (eqb place at) (Some number) (overlay place) (eq-eqb place at e)

pub with_one-other : (overlay : Overlay) (at number place : ℕ) → place ≢ at
    → with_one overlay at number place ≡ overlay place
with_one-other overlay at number place ne =
    cond-false (eqb place at) (Some number) (overlay place) (ne_eqb place at ne)

-- an overlay that is the changed one at the place, and the old one elsewhere
pub with_one-is : (now overlay : Overlay) (at number : ℕ) → now at ≡ Some number
    → ((place : ℕ) → place ≢ at → now place ≡ overlay place) → now ≡ with_one overlay at number
with_one-is now overlay at number here others i place = at_place i
  where
    at_place : now place ≡ with_one overlay at number place
    at_place =
        by_way (cases_eq place at)
        (λ e. ap now e ∙ here ∙ sym (with_one-here overlay at number place e))
        (λ ne. others place ne ∙ sym (with_one-other overlay at number place ne))

-- ---- bytes from an address on

pub with_bytes-inside : (overlay : Overlay) (first : ℕ) (bytes : List ℕ) (address : ℕ) → first ≤ address
    → address < first + length bytes → with_bytes overlay first bytes address ≡ Some
    (get_or bytes (address - first) 0)
unfolding with_bytes
with_bytes-inside overlay first bytes address from under =
    cond-true (leb first address && ltb address (first + length bytes)) (slice_get bytes (address - first))
    (overlay address) (and_from _ _ (le-leb first address from)
    (lt-ltb address (first + length bytes) under))
    ∙ slice_get-get_or bytes (address - first) 0 (omega arith)

pub with_bytes-before : (overlay : Overlay) (first : ℕ) (bytes : List ℕ) (address : ℕ) → address < first
    → with_bytes overlay first bytes address ≡ overlay address
unfolding with_bytes
with_bytes-before overlay first bytes address lt =
    cond-false (leb first address && ltb address (first + length bytes)) (slice_get bytes (address - first))
    (overlay address) (and_left (leb first address) (ltb address (first + length bytes))
    (lt-leb first address lt))

pub with_bytes-behind : (overlay : Overlay) (first : ℕ) (bytes : List ℕ) (address : ℕ)
    → first + length bytes ≤ address → with_bytes overlay first bytes address ≡ overlay address
unfolding with_bytes
with_bytes-behind overlay first bytes address le =
    cond-false (leb first address && ltb address (first + length bytes)) (slice_get bytes (address - first))
    (overlay address) (and_right (leb first address) (ltb address (first + length bytes))
    (le-ltb address (first + length bytes) le))

pub with_bytes-none : (overlay : Overlay) (first : ℕ) → with_bytes overlay first [] ≡ overlay
with_bytes-none overlay first i address = at_address i
  where
    at_address : with_bytes overlay first [] address ≡ overlay address
    at_address =
        by_way (cases_lt address first)
        (λ lt. with_bytes-before overlay first [] address lt)
        (λ le. with_bytes-behind overlay first [] address (omega arith))

pub with_bytes-more : (overlay : Overlay) (first : ℕ) (bytes : List ℕ) (byte : ℕ)
    → with_bytes overlay first (bytes ++ byte ∷ []) ≡ with_one (with_bytes overlay first bytes)
    (first + length bytes) byte
with_bytes-more overlay first bytes byte =
    with_one-is (with_bytes overlay first (bytes ++ byte ∷ [])) (with_bytes overlay first bytes)
    (first + length bytes) byte here others
  where
    size : length (bytes ++ byte ∷ []) ≡ length bytes + 1
    size = length_push bytes byte

    here : with_bytes overlay first (bytes ++ byte ∷ []) (first + length bytes) ≡ Some byte
    here =
        with_bytes-inside overlay first (bytes ++ byte ∷ []) (first + length bytes) (omega arith)
        (omega (arith, size))
        ∙ ap Some (get_or_push bytes byte 0 (first + length bytes - first) (omega arith))

    others : (place : ℕ) → place ≢ first + length bytes
        → with_bytes overlay first (bytes ++ byte ∷ []) place ≡ with_bytes overlay first bytes place
    others place ne =
        by_way (cases_lt place first)
        (λ before. with_bytes-before overlay first (bytes ++ byte ∷ []) place before
        ∙ sym (with_bytes-before overlay first bytes place before))
        (λ from. by_way (cases_lt place (first + length bytes))
        (λ under. with_bytes-inside overlay first (bytes ++ byte ∷ []) place from (omega (arith, size, under))
        ∙ ap Some (get_or_append_left bytes (byte ∷ []) 0 (place - first) (omega (arith, from, under)))
        ∙ sym (with_bytes-inside overlay first bytes place from under))
        (λ behind. with_bytes-behind overlay first (bytes ++ byte ∷ []) place
        (omega (arith, size, behind, ne)) ∙ sym (with_bytes-behind overlay first bytes place behind)))

-- ---- seen through an overlay

pub length-bytes_through : (overlay : Overlay) (base : List ℕ)
    → length (bytes_through overlay base) ≡ length base
unfolding bytes_through
length-bytes_through overlay base = length-map-range_with_len (byte_through overlay base) 0 (length base)

pub get_or-bytes_through : (overlay : Overlay) (base : List ℕ) (address : ℕ) → address < length base
    → get_or (bytes_through overlay base) address 0 ≡ byte_through overlay base address
unfolding bytes_through
get_or-bytes_through overlay base address lt =
    get_or-map-range_with_len (byte_through overlay base) 0 (length base) address address 0 lt (omega arith)

pub bytes_through-nothing : (base : List ℕ) → bytes_through nothing base ≡ base
bytes_through-nothing base =
    ext_get_or 0 (bytes_through nothing base) base (length-bytes_through nothing base)
    (λ k lt. get_or-bytes_through nothing base k (omega (arith, lt, length-bytes_through nothing base)))

pub bytes_through-with_one : (overlay : Overlay) (base : List ℕ) (address byte : ℕ)
    → bytes_through (with_one overlay address byte) base ≡ set (bytes_through overlay base) address byte
bytes_through-with_one overlay base address byte =
    ext_get_or 0 (bytes_through (with_one overlay address byte) base)
    (set (bytes_through overlay base) address byte)
    (omega (
      arith,
      length-bytes_through (with_one overlay address byte) base,
      length-set
          (bytes_through overlay base) address byte,
      size,
    ))
    (λ k lt. at_place k (omega (arith, lt, length-bytes_through (with_one overlay address byte) base)))
  where
    size : length (bytes_through overlay base) ≡ length base
    size = length-bytes_through overlay base

    at_place : (k : ℕ) → k < length base
        → get_or (bytes_through (with_one overlay address byte) base) k 0 ≡ get_or
        (set (bytes_through overlay base) address byte) k 0
    at_place k lt =
        get_or-bytes_through (with_one overlay address byte) base k lt
        ∙ by_way (cases_eq k address)
        (λ e. ap (λ o. unwrap_or o (get_or base k 0)) (with_one-here overlay address byte k e)
        ∙ sym (ap (λ n. get_or (set (bytes_through overlay base) address byte) n 0) e
        ∙ get_or-set_same (bytes_through overlay base) address byte 0 (omega (arith, lt, e, size))))
        (λ ne. ap (λ o. unwrap_or o (get_or base k 0)) (with_one-other overlay address byte k ne)
        ∙ sym (get_or-set_other (bytes_through overlay base) address k byte 0 ne
        ∙ get_or-bytes_through overlay base k lt))

-- bytes that are stored together
pub bytes_through-with_bytes : (overlay : Overlay) (base : List ℕ) (first : ℕ) (bytes : List ℕ)
    → first + length bytes ≤ length base
    → bytes_through (with_bytes overlay first bytes) base ≡ written (bytes_through overlay base) first bytes
bytes_through-with_bytes overlay base first bytes within =
    ext_get_or 0 (bytes_through (with_bytes overlay first bytes) base)
    (written (bytes_through overlay base) first bytes)
    (length-bytes_through (with_bytes overlay first bytes) base
    ∙ sym (length-written (bytes_through overlay base) first bytes room ∙ size))
    (λ k lt. at_place k (omega (arith, lt, length-bytes_through (with_bytes overlay first bytes) base)))
  where
    size : length (bytes_through overlay base) ≡ length base
    size = length-bytes_through overlay base

    room : first + length bytes ≤ length (bytes_through overlay base)
    room = omega (arith, size, within)

    in_base : first ≤ length (bytes_through overlay base)
    in_base = omega (arith, room)

    at_place : (k : ℕ) → k < length base
        → get_or (bytes_through (with_bytes overlay first bytes) base) k 0 ≡ get_or
        (written (bytes_through overlay base) first bytes) k 0
    at_place k lt =
        get_or-bytes_through (with_bytes overlay first bytes) base k lt
        ∙ by_way (cases_lt k first)
        (λ low. ap (λ o. unwrap_or o (get_or base k 0)) (with_bytes-before overlay first bytes k low)
        ∙ sym (below (bytes_through overlay base) first bytes k in_base low
        ∙ get_or-bytes_through overlay base k lt))
        (λ from. by_way (cases_lt k (first + length bytes))
        (λ under.
        let there : first + (k - first) ≡ k = omega (arith, from) in
        ap (λ o. unwrap_or o (get_or base k 0)) (with_bytes-inside overlay first bytes k from under)
        ∙ sym (inside (bytes_through overlay base) first bytes (k - first) in_base (omega (arith, from, under)))
        ∙ ap (λ n. get_or (written (bytes_through overlay base) first bytes) n 0) there)
        (λ past. ap (λ o. unwrap_or o (get_or base k 0)) (with_bytes-behind overlay first bytes k past)
        ∙ sym (above (bytes_through overlay base) first bytes k in_base past
        ∙ get_or-bytes_through overlay base k lt)))

stored_over : (stores : List Store) (overlay : Overlay) (base : List ℕ)
    → stored_in (bytes_through overlay base) stores ≡ bytes_through
    (fold (λ o s. with_one o s.address s.byte) overlay stores) base
stored_over [] overlay base = refl
stored_over (s ∷ stores) overlay base =
    ap (λ bytes. stored_in bytes stores) (sym (bytes_through-with_one overlay base s.address s.byte))
    ∙ stored_over stores (with_one overlay s.address s.byte) base

pub stored_in-bytes_through : (stores : List Store) (base : List ℕ)
    → stored_in base stores ≡ bytes_through (overlay_of stores) base
stored_in-bytes_through stores base =
    ap (λ bytes. stored_in bytes stores) (sym (bytes_through-nothing base)) ∙ stored_over stores nothing base

-- ---- what lasts

pub lasting_bytes-at : (lasting : Overlay) (address value : ℕ) → lasting (address / 8) ≡ Some value
    → lasting_bytes lasting address ≡ Some (get_or (big_bytes 8 value) (address % 8) 0)
unfolding lasting_bytes
lasting_bytes-at lasting address value e =
    ap (option_and_then (λ v. slice_get (big_bytes 8 v) (address % 8))) e
    ∙ slice_get-get_or (big_bytes 8 value) (address % 8) 0 (omega arith)

lasting_bytes-agree : (a b : Overlay) (address : ℕ) → a (address / 8) ≡ b (address / 8)
    → lasting_bytes a address ≡ lasting_bytes b address
unfolding lasting_bytes
lasting_bytes-agree a b address e = ap (option_and_then (λ v. slice_get (big_bytes 8 v) (address % 8))) e

pub lasting_bytes-with_one : (lasting : Overlay) (doubleword value : ℕ)
    → lasting_bytes (with_one lasting doubleword value) ≡ with_bytes (lasting_bytes lasting) (doubleword * 8)
    (big_bytes 8 value)
lasting_bytes-with_one lasting doubleword value i address = at_address i
  where
    at_address : lasting_bytes (with_one lasting doubleword value) address ≡ with_bytes
        (lasting_bytes lasting) (doubleword * 8) (big_bytes 8 value) address
    at_address =
        by_way (cases_eq (address / 8) doubleword)
        (λ e.
        let rest : address - doubleword * 8 ≡ address % 8 = omega (arith, e) in
        lasting_bytes-at (with_one lasting doubleword value) address value
        (with_one-here lasting doubleword value (address / 8) e)
        ∙ sym (with_bytes-inside (lasting_bytes lasting) (doubleword * 8) (big_bytes 8 value) address
        (omega (arith, e)) (omega (arith, e)) ∙ ap (λ n. Some (get_or (big_bytes 8 value) n 0)) rest))
        (λ ne.
        lasting_bytes-agree (with_one lasting doubleword value) lasting address
        (with_one-other lasting doubleword value (address / 8) ne)
        ∙ sym (by_way (cases_lt address (doubleword * 8))
        (λ before. with_bytes-before (lasting_bytes lasting) (doubleword * 8) (big_bytes 8 value) address
        before)
        (λ from. with_bytes-behind (lasting_bytes lasting) (doubleword * 8) (big_bytes 8 value) address
        (omega (arith, from, ne)))))

pub lasting_bytes-nothing : lasting_bytes nothing ≡ nothing
unfolding lasting_bytes
lasting_bytes-nothing = refl
