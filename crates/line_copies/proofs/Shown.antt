-- The copies that CPUs keep as data, and lines as they are seen.
use Rattle.std.proofs.Common.{◌≡◌, ◌≢◌, ℕ, ◌+◌, ◌*◌, ◌/◌, ◌%◌, ◌<◌, ◌≤◌, eqb, List, [], ◌∷◌, ◌++◌, length, get_or}
use Rattle.std.proofs.Common.{set}
use Rattle.std.proofs.Common.{Option, Some, None, refl, sym, ap, ◌∙◌, arith}
use Rattle.std.proofs.lemmas.Bool.{cases_eq, cases_lt, cases_Bool, cond-true, cond-false, eq-eqb, ne_eqb}
use Rattle.std.proofs.lemmas.List.{ext_get_or, get_or_read, get_or-set_same, get_or-set_other, get_or_past}
use Rattle.std.proofs.lemmas.List.{get_or_push, get_or_append_left}
use Rattle.std.proofs.lemmas.List.{length_push}
use borrow.Enum.Arm.{by_way}
use Rattle.line_table.specs.declared.table.Mode.TheVariants.{Shared, Exclusive}
use Rattle.line_table.specs.Holders.{Holders, nobody}
use Rattle.store_cache.specs.Overlay.{byte_through, nothing}
use Rattle.store_cache.proofs.Overlays.{length-bytes_through, get_or-bytes_through, bytes_through-nothing}
use Rattle.l1_data.specs.Sizes.{line_size}
use Rattle.l1_data.specs.Copies.{Kept, Copies, copies_of, with_copy, no_copies}
use Rattle.l1_data.proofs.Slotted.{copies_of-is, none_kept}
use Rattle.line_copies.specs.Coherence.{Copied, line_in, is_exclusive, exclusive_holder, overlaid, flat}
use Rattle.line_copies.specs.Seen.{copied, nothing_kept}
use Rattle.line_copies.proofs.Flat.{same_bytes, line_byte, seen_beside, seen_exclusive, none_exclusive}
use Rattle.line_copies.proofs.Flat.{is_exclusive-true}
use Rattle.line_copies.proofs.Change.{IsChange, size_of_line}

-- ---- the copies of one CPU among those of all

pub copied_at : (items : List Kept) (cpu : ℕ) (l1 : Kept) → cpu < length items → l1 ≡ get_or items cpu l1
    → copies_of l1 ≡ copied items cpu
copied_at items cpu l1 lt e = ap copies_of (get_or_read items cpu l1 lt e nothing_kept)

pub copied_set : (items : List Kept) (cpu line : ℕ) (l1 : Kept) (value : Option (List ℕ)) → cpu < length items
    → copies_of l1 ≡ with_copy (copied items cpu) line value
    → IsChange (Option (List ℕ)) (copied (set items cpu l1)) (copied items) cpu line value
copied_set items cpu line l1 value lt e =
    record {
      here = ap (λ k. copies_of k line) mine ∙ at line
          ∙ cond-true (eqb line line) value (copied items cpu line) (eq-eqb line line refl);
      other_cpu = λ c l ne. ap (λ k. copies_of k l) (get_or-set_other items cpu c l1 nothing_kept ne);
      other_line = λ c l ne. by_way (cases_eq c cpu)
          (λ same. ap (λ k. copied (set items cpu l1) k l) same ∙ ap (λ k. copies_of k l) mine ∙ at l
          ∙ cond-false (eqb l line) value (copied items cpu l) (ne_eqb l line ne)
          ∙ ap (λ k. copied items k l) (sym same))
          (λ other. ap (λ k. copies_of k l) (get_or-set_other items cpu c l1 nothing_kept other));
    }
  where
    mine : get_or (set items cpu l1) cpu nothing_kept ≡ l1
    mine = get_or-set_same items cpu l1 nothing_kept lt

    at : (l : ℕ) → copies_of l1 l ≡ with_copy (copied items cpu) line value l
    at l i = e i l

-- ---- the exclusive holder of a line

-- a line that one CPU holds in shared mode, or that nobody holds, has none
pub none_beside_shared : (held : Holders) (cpus holder line : ℕ)
    → ((c : ℕ) → c < cpus → held c line ≡ Some Exclusive → holder ≢ c → held holder line ≡ None)
    → held holder line ≡ Some Shared → exclusive_holder cpus (λ c. held c line) ≡ None
none_beside_shared held cpus holder line alone shares =
    none_exclusive cpus (λ c. held c line)
    (λ c low. by_way (cases_Bool (is_exclusive (held c line)))
    (λ yes.
    let is : held c line ≡ Some Exclusive = is_exclusive-true (held c line) yes in
    by_way (cases_eq holder c)
    (λ e. let n : Some Shared ≡ Some Exclusive = sym shares ∙ ap (λ k. held k line) e ∙ is in cc)
    (λ ne. let n : Some Shared ≡ None = sym shares ∙ alone c low is ne in cc))
    (λ no. no))

pub none_at_all : (held : Holders) (cpus line : ℕ) → ((c : ℕ) → 0 ≤ c → held c line ≡ None)
    → exclusive_holder cpus (λ c. held c line) ≡ None
none_at_all held cpus line none =
    none_exclusive cpus (λ c. held c line) (λ c _. ap is_exclusive (none c (omega arith)))

-- ---- a line as it is seen

pub seen_size : (cpus : ℕ) (held : Holders) (copies : Copied) (storage : List ℕ)
    → length (flat cpus held copies storage) ≡ length storage
seen_size cpus held copies storage = length-bytes_through (overlaid cpus held copies) storage

-- each byte of it is told by the way it has
line_seen : (cpus : ℕ) (held : Holders) (copies : Copied) (storage bytes : List ℕ) (line : ℕ)
    → line * line_size + line_size ≤ length storage → length bytes ≡ line_size
    → ((a : ℕ) → a / line_size ≡ line
    → byte_through (overlaid cpus held copies) storage a ≡ get_or bytes (a % line_size) 0)
    → bytes ≡ line_in (flat cpus held copies storage) line
line_seen cpus held copies storage bytes line within size each =
    ext_get_or 0 bytes (line_in (flat cpus held copies storage) line)
    (size ∙ sym (size_of_line (flat cpus held copies storage) line
    (omega (arith, within, seen_size cpus held copies storage))))
    (λ k lt.
    let low : k < line_size = omega (arith, lt, size) in
    let here : (line * line_size + k) / line_size ≡ line = omega (arith, low) in
    let place : (line * line_size + k) % line_size ≡ k = omega (arith, low) in
    ap (λ n. get_or bytes n 0) (sym place)
    ∙ sym (each (line * line_size + k) here)
    ∙ sym (get_or-bytes_through (overlaid cpus held copies) storage (line * line_size + k)
    (omega (arith, low, within)))
    ∙ sym (line_byte (flat cpus held copies storage) line k 0 low))

pub line_in_copy : (cpus : ℕ) (held : Holders) (copies : Copied) (storage : List ℕ) (cpu line : ℕ) (copy :
    List ℕ)
    → exclusive_holder cpus (λ c. held c line) ≡ Some cpu → copies cpu line ≡ Some copy → length copy ≡
    line_size
    → line * line_size + line_size ≤ length storage → copy ≡ line_in (flat cpus held copies storage) line
line_in_copy cpus held copies storage cpu line copy holds has size within =
    line_seen cpus held copies storage copy line within size
    (λ a e. seen_exclusive cpus held copies storage a cpu copy
    (ap (λ l. exclusive_holder cpus (λ c. held c l)) e ∙ holds) (ap (copies cpu) e ∙ has) size)

pub line_in_storage : (cpus : ℕ) (held : Holders) (copies : Copied) (storage : List ℕ) (line : ℕ)
    → exclusive_holder cpus (λ c. held c line) ≡ None → line * line_size + line_size ≤ length storage
    → line_in storage line ≡ line_in (flat cpus held copies storage) line
line_in_storage cpus held copies storage line none within =
    line_seen cpus held copies storage (line_in storage line) line within (size_of_line storage line within)
    (λ a e. seen_beside cpus held copies storage a (ap (λ l. exclusive_holder cpus (λ c. held c l)) e ∙ none)
    ∙ ap (λ k. get_or storage k 0) (let p : a ≡ line * line_size + a % line_size = omega (arith, e) in p)
    ∙ sym (line_byte storage line (a % line_size) 0 (omega arith)))

-- ---- no copies

nothing_kept_is : copies_of nothing_kept ≡ no_copies
nothing_kept_is = copies_of-is [] [] ∙ none_kept []

pub copied_past : (items : List Kept) (cpu line : ℕ) → length items ≤ cpu → copied items cpu line ≡ None
copied_past items cpu line past =
    ap (λ k. copies_of k line) (get_or_past items cpu nothing_kept past)
    ∙ ap (λ (c : Copies). c line) nothing_kept_is

pub copied_push : (items : List Kept) (l1 : Kept) → copies_of l1 ≡ no_copies
    → ((cpu line : ℕ) → copied items cpu line ≡ None) → (cpu line : ℕ) → copied (items ++ l1 ∷ []) cpu line ≡
    None
copied_push items l1 e none cpu line =
    by_way (cases_lt cpu (length items))
    (λ lt. ap (λ k. copies_of k line) (get_or_append_left items (l1 ∷ []) nothing_kept cpu lt) ∙ none cpu
    line)
    (λ from. by_way (cases_eq cpu (length items))
    (λ last. ap (λ k. copies_of k line) (get_or_push items l1 nothing_kept cpu (sym last)) ∙ ap (λ (c :
    Copies). c line) e)
    (λ ne. copied_past (items ++ l1 ∷ []) cpu line (omega (arith, from, ne, length_push items l1))))

-- where nobody holds a line, storage is seen as it is
pub opened_seen : (cpus : ℕ) (held : Holders) (copies : Copied) (storage : List ℕ) → held ≡ nobody
    → flat cpus held copies storage ≡ storage
opened_seen cpus held copies storage e =
    same_bytes nothing (overlaid cpus held copies) storage storage refl
    (λ a _. seen_beside cpus held copies storage a
    (none_at_all held cpus (a / line_size) (λ c _. ap (λ (h : Holders). h c (a / line_size)) e)))
    ∙ bytes_through-nothing storage
