-- Bytes of one line are stored.
use Rattle.std.proofs.Common.{◌≡◌, ◌≢◌, ℕ, ◌+◌, ◌-◌, ◌*◌, ◌/◌, ◌%◌, ◌<◌, ◌≤◌, true, false, eqb, List, ◌++◌}
use Rattle.std.proofs.Common.{length, get_or, take, drop}
use Rattle.std.proofs.Common.{Option, Some, None, is_some, refl, sym, ap, subst, ◌∙◌, arith, inl, inr}
use Rattle.std.proofs.Common.{append-nil, take-add}
use Rattle.std.specs.Prelude.{◌⊎◌, unwrap_or}
use Rattle.std.specs.Option.{option_map}
use Rattle.std.proofs.lemmas.Bool.{cases_eq, cases_lt, cond-true, cond-false, eq-eqb, ne_eqb}
use Rattle.std.proofs.lemmas.List.{ext_get_or, take_all, drop_all, drop-take, take-take, drop-drop}
use Rattle.std.proofs.lemmas.List.{length-take-le, length-drop, take-append-drop}
use Rattle.std.proofs.lemmas.Option.{same_Some}
use borrow.Enum.Arm.{by_way}
use Rattle.z_regs.specs.Written.{range_at, written}
use Rattle.z_regs.proofs.Writes.{length-written, below, above, written_then}
use Rattle.line_table.specs.declared.table.Mode.TheVariants.{Shared, Exclusive}
use Rattle.line_table.specs.Sizes.{storage_lines}
use Rattle.line_table.specs.Holders.{Holders, Holdings, mode_in}
use Rattle.store_cache.specs.Overlay.{Overlay, byte_through, bytes_through}
use Rattle.store_cache.proofs.Overlays.{length-bytes_through, get_or-bytes_through}
use Rattle.l1_data.specs.Sizes.{line_size}
use Rattle.l1_data.specs.Copies.{Kept, laid, with_copy}
use Rattle.line_copies.specs.Coherence.{Copied, line_in, exclusive_holder, overlaid, flat, IsCoherent}
use Rattle.line_copies.specs.Seen.{copied, seen_bytes, IsKept}
use Rattle.line_copies.proofs.Flat.{holder_is, seen_beside, seen_exclusive, overlaid_agree}
use Rattle.line_copies.proofs.Change.{IsChange, same_written, line_beside, line_laid}
use Rattle.line_copies.proofs.Shown.{copied_past}

-- ---- all bytes, where each is that of the write

seen_written : (o o' : Overlay) (storage storage' bytes : List ℕ) (first : ℕ)
    → first + length bytes ≤ length storage → length storage' ≡ length storage
    → ((a : ℕ) → a < length storage
    → byte_through o' storage' a ≡ get_or (written (bytes_through o storage) first bytes) a 0)
    → bytes_through o' storage' ≡ written (bytes_through o storage) first bytes
seen_written o o' storage storage' bytes first fits same each =
    let size = length-bytes_through o' storage' in
    let size_before = length-bytes_through o storage in
    ext_get_or 0 (bytes_through o' storage') (written (bytes_through o storage) first bytes)
    (size ∙ same ∙ sym (length-written (bytes_through o storage) first bytes (omega (
      arith,
      fits,
      size_before,
    ))
    ∙ size_before))
    (λ k lt. get_or-bytes_through o' storage' k (omega (arith, lt, size)) ∙ each k (omega (
      arith,
      lt,
      size,
      same,
    )))

-- a byte of another line
seen_apart : (o : Overlay) (storage bytes : List ℕ) (line at a : ℕ) → line * line_size + line_size ≤ length
    storage
    → at + length bytes ≤ line_size → a < length storage → a / line_size ≢ line
    → get_or (written (bytes_through o storage) (line * line_size + at) bytes) a 0 ≡ byte_through o storage a
seen_apart o storage bytes line at a within fits lt ne =
    let size = length-bytes_through o storage in
    let first : ℕ = line * line_size + at in
    let in_storage : first ≤ length (bytes_through o storage) = omega (arith, within, fits, size) in
    by_way (cases_lt a first)
    (λ before. below (bytes_through o storage) first bytes a in_storage before)
    (λ from. above (bytes_through o storage) first bytes a in_storage (omega (arith, from, ne, fits)))
    ∙ get_or-bytes_through o storage a lt

-- ---- into the copy of the CPU that holds the line exclusively

module _ (cpus : ℕ) (held : Holders) (copies copies' : Copied) (storage bytes copy : List ℕ) (holder line at
    : ℕ)
    (holds : exclusive_holder cpus (λ c. held c line) ≡ Some holder)
    (has : copies holder line ≡ Some copy)
    (size : length copy ≡ line_size)
    (fits : at + length bytes ≤ line_size)
    (change : IsChange (Option (List ℕ)) copies' copies holder line (Some (laid copy at bytes))) where
  stored_size : length (laid copy at bytes) ≡ line_size
  stored_size = length-written copy at bytes (omega (arith, fits, size)) ∙ size

  pub stored_seen : line * line_size + line_size ≤ length storage
      → flat cpus held copies' storage ≡ written (flat cpus held copies storage) (line * line_size + at) bytes
  stored_seen within =
      seen_written (overlaid cpus held copies) (overlaid cpus held copies') storage storage bytes
      (line * line_size + at) (omega (arith, within, fits)) refl
      (λ a lt. by_way (cases_eq (a / line_size) line)
      (λ e.
      let held_here : exclusive_holder cpus (λ c. held c (a / line_size)) ≡ Some holder =
      ap (λ l. exclusive_holder cpus (λ c. held c l)) e ∙ holds in
      let whole = length-bytes_through (overlaid cpus held copies) storage in
      seen_exclusive cpus held copies' storage a holder (laid copy at bytes) held_here
      (ap (copies' holder) e ∙ change.here) stored_size
      ∙ sym (same_written copy (flat cpus held copies storage) bytes at (line * line_size + at) (a %
      line_size) a
      (omega (arith, fits, size)) (omega (arith, within, fits, whole)) (omega (arith, e))
      (get_or-bytes_through (overlaid cpus held copies) storage a lt
      ∙ seen_exclusive cpus held copies storage a holder copy held_here (ap (copies holder) e ∙ has) size)))
      (λ ne. ap (λ o. unwrap_or o (get_or storage a 0))
      (overlaid_agree cpus held held copies copies' a (λ c. refl) (λ c. change.other_line c (a / line_size)
      ne))
      ∙ sym (seen_apart (overlaid cpus held copies) storage bytes line at a within fits lt ne)))

  same_copy : (c l : ℕ) → (c ≢ holder) ⊎ (l ≢ line) → copies' c l ≡ copies c l
  same_copy c l apart = by_way apart (λ ne. change.other_cpu c l ne) (λ ne. change.other_line c l ne)

  places : (c l : ℕ) → ((c ≡ holder) × (l ≡ line)) ⊎ ((c ≢ holder) ⊎ (l ≢ line))
  places c l =
      by_way (cases_eq c holder)
      (λ e. by_way (cases_eq l line) (λ same. inl (e, same)) (λ ne. inr (inr ne)))
      (λ ne. inr (inl ne))

  pub stored_coherent : IsCoherent cpus held copies storage → IsCoherent cpus held copies' storage
  stored_coherent coherent =
      record {
        alone = coherent.alone;
        there = λ c l low. by_way (places c l)
            (λ p. at_place (λ o. is_some o) p ∙ ap is_some (sym has) ∙ ap (λ k. is_some (copies k line)) (sym
            p.0)
            ∙ ap (λ k. is_some (copies c k)) (sym p.1) ∙ coherent.there c l low)
            (λ apart. ap is_some (same_copy c l apart) ∙ coherent.there c l low);
        shared = λ c l low shares. by_way (places c l)
            (λ p.
            let n : Some Exclusive ≡ Some Shared = sym (holder_is cpus (λ k. held k line) holder holds).1
            ∙ ap (λ k. held k line) (sym p.0) ∙ ap (held c) (sym p.1) ∙ shares in cc)
            (λ apart. same_copy c l apart ∙ coherent.shared c l low shares);
        sized = λ c l b low is. by_way (places c l)
            (λ p. ap length (same_Some b (laid copy at bytes) (sym is ∙ at_place (λ o. o) p)) ∙ stored_size)
            (λ apart. coherent.sized c l b low (sym (same_copy c l apart) ∙ is));
      }
    where
      at_place : {A : Type 0} {c l : ℕ} (f : Option (List ℕ) → A) → (c ≡ holder) × (l ≡ line)
          → f (copies' c l) ≡ f (Some (laid copy at bytes))
      at_place {c = c} {l = l} f p =
          ap (λ k. f (copies' k l)) p.0 ∙ ap (λ k. f (copies' holder k)) p.1 ∙ ap f change.here

-- ---- into storage and every copy, where nobody holds the line exclusively

is_some-option_map : (f : List ℕ → List ℕ) (o : Option (List ℕ)) → is_some (option_map f o) ≡ is_some o
is_some-option_map f None = refl
is_some-option_map f (Some x) = refl

size-option_map : (o : Option (List ℕ)) (b bytes : List ℕ) (at : ℕ) → at + length bytes ≤ line_size
    → ((c : List ℕ) → o ≡ Some c → length c ≡ line_size) → option_map (λ c. laid c at bytes) o ≡ Some b
    → length b ≡ line_size
size-option_map None b bytes at fits sized e = let n : None ≡ Some b = e in cc
size-option_map (Some c) b bytes at fits sized e =
    ap length (sym (same_Some (laid c at bytes) b e))
    ∙ length-written c at bytes (omega (arith, fits, sized c refl))
    ∙ sized c refl

module _ (cpus : ℕ) (held : Holders) (copies copies' : Copied) (storage bytes : List ℕ) (line at : ℕ)
    (none : exclusive_holder cpus (λ c. held c line) ≡ None)
    (within : line * line_size + line_size ≤ length storage)
    (fits : at + length bytes ≤ line_size)
    (here : (c : ℕ) → c < cpus → copies' c line ≡ option_map (λ b. laid b at bytes) (copies c line))
    (others : (c l : ℕ) → l ≢ line → copies' c l ≡ copies c l) where
  first : ℕ
  first = line * line_size + at

  pub everywhere_seen : flat cpus held copies' (written storage (line * line_size + at) bytes)
      ≡ written (flat cpus held copies storage) (line * line_size + at) bytes
  everywhere_seen =
      let whole = length-bytes_through (overlaid cpus held copies) storage in
      let room : line * line_size + at + length bytes ≤ length storage = omega (arith, within, fits) in
      seen_written (overlaid cpus held copies) (overlaid cpus held copies') storage
      (written storage (line * line_size + at) bytes) bytes (line * line_size + at) room
      (length-written storage (line * line_size + at) bytes room)
      (λ a lt. by_way (cases_eq (a / line_size) line)
      (λ e.
      let none_here : exclusive_holder cpus (λ c. held c (a / line_size)) ≡ None =
      ap (λ l. exclusive_holder cpus (λ c. held c l)) e ∙ none in
      seen_beside cpus held copies' (written storage (line * line_size + at) bytes) a none_here
      ∙ sym (same_written storage (flat cpus held copies storage) bytes (line * line_size + at)
      (line * line_size + at) a a (omega (arith, room)) (omega (arith, room, whole)) refl
      (get_or-bytes_through (overlaid cpus held copies) storage a lt
      ∙ seen_beside cpus held copies storage a none_here)))
      (λ ne. ap (λ o. unwrap_or o (get_or (written storage (line * line_size + at) bytes) a 0))
      (overlaid_agree cpus held held copies copies' a (λ c. refl) (λ c. others c (a / line_size) ne))
      ∙ ap (unwrap_or (overlaid cpus held copies a))
      (by_way (cases_lt a (line * line_size + at))
      (λ before. below storage (line * line_size + at) bytes a (omega (arith, room)) before)
      (λ from. above storage (line * line_size + at) bytes a (omega (arith, room)) (omega (
        arith,
        from,
        ne,
        fits,
      ))))
      ∙ sym (seen_apart (overlaid cpus held copies) storage bytes line at a within fits lt ne)))

  pub everywhere_coherent : IsCoherent cpus held copies storage
      → IsCoherent cpus held copies' (written storage (line * line_size + at) bytes)
  everywhere_coherent coherent =
      record {
        alone = coherent.alone;
        there = λ c l low. by_way (cases_eq l line)
            (λ e. ap (λ k. is_some (copies' c k)) e ∙ ap is_some (here c low)
            ∙ is_some-option_map (λ b. laid b at bytes) (copies c line)
            ∙ ap (λ k. is_some (copies c k)) (sym e) ∙ coherent.there c l low)
            (λ ne. ap is_some (others c l ne) ∙ coherent.there c l low);
        shared = λ c l low shares. by_way (cases_eq l line)
            (λ e. ap (copies' c) e ∙ here c low
            ∙ ap (option_map (λ b. laid b at bytes)) (coherent.shared c line low (ap (held c) (sym e) ∙
            shares))
            ∙ ap Some (sym (line_laid storage bytes line at within fits))
            ∙ ap (λ k. Some (line_in (written storage (line * line_size + at) bytes) k)) (sym e))
            (λ ne. others c l ne ∙ coherent.shared c l low shares
            ∙ ap Some (sym (line_beside storage bytes (line * line_size + at) l (omega (arith, within, fits))
            (λ k lt. by_way (cases_lt l line)
            (λ less. inl (omega (arith, less, lt)))
            (λ more. inr (omega (arith, more, ne, fits)))))));
        sized = λ c l b low is. by_way (cases_eq l line)
            (λ e. size-option_map (copies c line) b bytes at fits (λ d. coherent.sized c line d low)
            (sym (here c low) ∙ ap (copies' c) (sym e) ∙ is))
            (λ ne. coherent.sized c l b low (sym (others c l ne) ∙ is));
      }

-- ---- of the copies as they are kept

-- a list written back into the place of one of its length
pub written_whole : (n : ℕ) (now before : List Kept) → length now ≡ length before → n ≡ length before
    → take n (now ++ drop (length now) before) ≡ now
written_whole n now before size count =
    ap (λ rest. take n (now ++ rest)) (drop_all (length now) before (omega (arith, size)))
    ∙ ap (take n) (append-nil now)
    ∙ take_all n now (omega (arith, size, count))

-- what the other lines are, where one is changed in every copy
pub other_lines : (items items' : List Kept) (line : ℕ) (value : ℕ → Option (List ℕ)) → length items' ≡
    length items
    → ((c : ℕ) → c < length items → copied items' c ≡ with_copy (copied items c) line (value c))
    → (c l : ℕ) → l ≢ line → copied items' c l ≡ copied items c l
other_lines items items' line value size each c l ne =
    by_way (cases_lt c (length items))
    (λ low. ap (λ (k : ℕ → Option (List ℕ)). k l) (each c low)
    ∙ cond-false (eqb l line) (value c) (copied items c l) (ne_eqb l line ne))
    (λ past. copied_past items' c l (omega (arith, size, past)) ∙ sym (copied_past items c l past))

pub that_line : (items items' : List Kept) (line : ℕ) (value : ℕ → Option (List ℕ))
    → ((c : ℕ) → c < length items → copied items' c ≡ with_copy (copied items c) line (value c))
    → (c : ℕ) → c < length items → copied items' c line ≡ value c
that_line items items' line value each c low =
    ap (λ (k : ℕ → Option (List ℕ)). k line) (each c low)
    ∙ cond-true (eqb line line) (value c) (copied items c line) (eq-eqb line line refl)

pub some_copy : (o : Option (List ℕ)) → is_some o ≡ true → (copy : List ℕ) × (o ≡ Some copy)
some_copy None e = let n : false ≡ true = e in cc
some_copy (Some b) e = (b, refl)

-- bytes of a line are bytes of all
pub range_of_line : (bytes : List ℕ) (line at count : ℕ) → at + count ≤ line_size
    → range_at (line_in bytes line) at count ≡ range_at bytes (line * line_size + at) count
range_of_line bytes line at count fits =
    let split : line_size ≡ at + (line_size - at) = omega (arith, fits) in
    ap (λ n. take count (drop at (take n (drop (line * line_size) bytes)))) split
    ∙ ap (take count) (drop-take at (line_size - at) (drop (line * line_size) bytes))
    ∙ take-take count (line_size - at) (drop at (drop (line * line_size) bytes)) (omega (arith, fits))
    ∙ ap (take count) (drop-drop at (line * line_size) bytes)

-- bytes of two lines are those of the first and those of the second
pub range_in_two : (bytes : List ℕ) (first room count : ℕ) → room ≤ count
    → range_at bytes first room ++ range_at bytes (first + room) (count - room) ≡ range_at bytes first count
range_in_two bytes first room count low =
    let whole : room + (count - room) ≡ count = omega (arith, low) in
    ap (λ (t : List ℕ). range_at bytes first room ++ take (count - room) t) (sym (drop-drop room first bytes))
    ∙ sym (take-add room (count - room) (drop first bytes))
    ∙ ap (range_at bytes first) whole

-- ---- storage, table and copies as they are kept, after a store

-- the copies after a store into that of the holder
pub held_stored : (table : Holdings) (items items' : List Kept) (storage bytes : List ℕ) (holder line at : ℕ)
    → IsKept storage table items → line < storage_lines
    → exclusive_holder table.cpus (λ c. mode_in table c line) ≡ Some holder → at + length bytes ≤ line_size
    → length items' ≡ length items
    → IsChange (Option (List ℕ)) (copied items') (copied items) holder line
    (option_map (λ b. laid b at bytes) (copied items holder line))
    → IsKept storage table items'
    × (seen_bytes storage table items' ≡ written (seen_bytes storage table items) (line * line_size + at)
    bytes)
held_stored table items items' storage bytes holder line at kept low holds fits size change =
    let mine = holder_is table.cpus (λ c. mode_in table c line) holder holds in
    let found = some_copy (copied items holder line)
    (kept.coherent.there holder line mine.0 ∙ ap is_some mine.1) in
    let sized : length found.0 ≡ line_size = kept.coherent.sized holder line found.0 mine.0 found.1 in
    let changed : IsChange (Option (List ℕ)) (copied items') (copied items) holder line (Some (laid found.0
    at bytes)) =
    subst (IsChange (Option (List ℕ)) (copied items') (copied items) holder line)
    (ap (option_map (λ b. laid b at bytes)) found.1) change in (
      record {
        size = kept.size;
        each = size ∙ kept.each;
        coherent = stored_coherent table.cpus (mode_in table) (copied items) (copied items') storage bytes
            found.0 holder
            line at holds found.1 sized fits changed kept.coherent;
      },
      stored_seen table.cpus (mode_in table) (copied items) (copied items') storage bytes found.0 holder line
          at holds
          found.1 sized fits changed (omega (arith, low, kept.size)),
    )

-- and after a store into all of them
pub all_stored : (table : Holdings) (items items' : List Kept) (storage storage' bytes : List ℕ) (line at : ℕ)
    → IsKept storage table items → line < storage_lines
    → exclusive_holder table.cpus (λ c. mode_in table c line) ≡ None → at + length bytes ≤ line_size
    → length items' ≡ length items → storage' ≡ written storage (line * line_size + at) bytes
    → ((c : ℕ) → c < length items → copied items' c
    ≡ with_copy (copied items c) line (option_map (λ b. laid b at bytes) (copied items c line)))
    → IsKept storage' table items'
    × (seen_bytes storage' table items' ≡ written (seen_bytes storage table items) (line * line_size + at)
    bytes)
all_stored table items items' storage storage' bytes line at kept low none fits size stored each =
    let within : line * line_size + line_size ≤ length storage = omega (arith, low, kept.size) in
    let here : (c : ℕ) → c < table.cpus → copied items' c line ≡ option_map (λ b. laid b at bytes) (copied
    items c line) =
    λ c below_cpus. that_line items items' line (λ k. option_map (λ b. laid b at bytes) (copied items k
    line)) each c
    (omega (arith, below_cpus, kept.each)) in
    let others : (c l : ℕ) → l ≢ line → copied items' c l ≡ copied items c l =
    other_lines items items' line (λ k. option_map (λ b. laid b at bytes) (copied items k line)) size each
    in (
      record {
        size = ap length stored ∙ length-written storage (line * line_size + at) bytes (omega (
          arith,
          within,
          fits,
        ))
            ∙ kept.size;
        each = size ∙ kept.each;
        coherent = subst (IsCoherent table.cpus (mode_in table) (copied items')) (sym stored)
            (everywhere_coherent table.cpus (mode_in table) (copied items) (copied items') storage bytes line
            at none
            within fits here others kept.coherent);
      },
      ap (λ s. seen_bytes s table items') stored
          ∙ everywhere_seen table.cpus (mode_in table) (copied items) (copied items') storage bytes line at
          none within
          fits here others,
    )

-- ---- bytes of two lines

pub two_written : (s bytes : List ℕ) (first room : ℕ) → first ≤ length s → room ≤ length bytes
    → written (written s first (take room bytes)) (first + room) (take (length bytes - room) (drop room
    bytes))
    ≡ written s first bytes
two_written s bytes first room in_s low =
    let size : length (take room bytes) ≡ room = length-take-le room bytes low in
    ap (λ ys. written (written s first (take room bytes)) (first + room) ys)
    (take_all (length bytes - room) (drop room bytes) (omega (arith, length-drop room bytes)))
    ∙ ap (λ n. written (written s first (take room bytes)) (first + n) (drop room bytes)) (sym size)
    ∙ written_then s first (take room bytes) (drop room bytes) in_s
    ∙ ap (written s first) (take-append-drop room bytes)
