-- What a change of one line leaves: of the bytes that are seen, and of coherence.
use Rattle.std.proofs.Common.{◌≡◌, ◌≢◌, ℕ, ◌+◌, ◌-◌, ◌*◌, ◌/◌, ◌%◌, ◌<◌, ◌≤◌, false, true, List, length}
use Rattle.std.proofs.Common.{get_or, drop}
use Rattle.std.proofs.Common.{Option, Some, None, is_some, refl, sym, ap, subst, ◌∙◌, arith, inl, inr}
use Rattle.std.proofs.Common.{length-drop}
use Rattle.std.specs.Prelude.{◌⊎◌, min, unwrap_or}
use Rattle.std.proofs.lemmas.Bool.{cases_eq, cases_lt}
use Rattle.std.proofs.lemmas.List.{ext_get_or, length-take, length-take-le}
use borrow.Enum.Arm.{by_way}
use Rattle.z_regs.specs.Written.{written}
use Rattle.z_regs.proofs.Writes.{length-written, below, above, inside}
use Rattle.line_table.specs.declared.table.Mode.{Mode}
use Rattle.line_table.specs.declared.table.Mode.TheVariants.{Shared, Exclusive}
use Rattle.line_table.specs.Holders.{Holders}
use Rattle.store_cache.specs.Overlay.{byte_through}
use Rattle.l1_data.specs.Sizes.{line_size}
use Rattle.l1_data.specs.Copies.{laid}
use Rattle.line_copies.specs.Coherence.{Copied, line_in, exclusive_holder, overlaid, flat, IsCoherent}
use Rattle.line_copies.proofs.Flat.{one_exclusive, line_byte, seen_exclusive, seen_clean, IsClean}
use Rattle.line_copies.proofs.Flat.{overlaid_agree, same_bytes}

-- ---- bytes written into two lists at one place

pub same_written : (x y bytes : List ℕ) (at first j k : ℕ) → at ≤ length x → first ≤ length y → at + k ≡
    first + j
    → get_or y k 0 ≡ get_or x j 0 → get_or (written y first bytes) k 0 ≡ get_or (written x at bytes) j 0
same_written x y bytes at first j k in_x in_y places same =
    by_way (cases_lt j at)
    (λ lt. below y first bytes k in_y (omega (arith, lt, places)) ∙ same ∙ sym (below x at bytes j in_x lt))
    (λ from. by_way (cases_lt j (at + length bytes))
    (λ lt.
    let i : ℕ = j - at in
    let in_bytes : i < length bytes = omega (arith, from, lt) in
    let here : first + i ≡ k = omega (arith, from, places) in
    let there : at + i ≡ j = omega (arith, from) in
    sym (ap (λ n. get_or (written y first bytes) n 0) here)
    ∙ inside y first bytes i in_y in_bytes
    ∙ sym (inside x at bytes i in_x in_bytes)
    ∙ ap (λ n. get_or (written x at bytes) n 0) there)
    (λ past. above y first bytes k in_y (omega (arith, past, places)) ∙ same ∙ sym (above x at bytes j in_x
    past)))

-- ---- a line of storage after a write

same_size : (now old : List ℕ) (line : ℕ) → length now ≡ length old
    → length (line_in now line) ≡ length (line_in old line)
same_size now old line e =
    length-take line_size (drop (line * line_size) now)
    ∙ ap (min line_size) (length-drop (line * line_size) now ∙ ap (λ n. n - line * line_size) e
    ∙ sym (length-drop (line * line_size) old))
    ∙ sym (length-take line_size (drop (line * line_size) old))

short_line : (storage : List ℕ) (line : ℕ) → length (line_in storage line) ≤ line_size
short_line storage line = omega (arith, length-take line_size (drop (line * line_size) storage))

pub size_of_line : (storage : List ℕ) (line : ℕ) → line * line_size + line_size ≤ length storage
    → length (line_in storage line) ≡ line_size
size_of_line storage line within =
    length-take-le line_size (drop (line * line_size) storage)
    (omega (arith, within, length-drop (line * line_size) storage))

-- another line stays
pub line_beside : (storage bytes : List ℕ) (first l : ℕ) → first + length bytes ≤ length storage
    → ((k : ℕ) → k < line_size → (l * line_size + k < first) ⊎ (first + length bytes ≤ l * line_size + k))
    → line_in (written storage first bytes) l ≡ line_in storage l
line_beside storage bytes first l within apart =
    ext_get_or 0 (line_in (written storage first bytes) l) (line_in storage l)
    (same_size (written storage first bytes) storage l (length-written storage first bytes within))
    (λ k lt.
    let low : k < line_size = omega (arith, lt, short_line (written storage first bytes) l) in
    line_byte (written storage first bytes) l k 0 low
    ∙ by_way (apart k low)
    (λ before. below storage first bytes (l * line_size + k) (omega (arith, within)) before)
    (λ behind. above storage first bytes (l * line_size + k) (omega (arith, within)) behind)
    ∙ sym (line_byte storage l k 0 low))

-- a line that is written in part
pub line_laid : (storage bytes : List ℕ) (line at : ℕ) → line * line_size + line_size ≤ length storage
    → at + length bytes ≤ line_size
    → line_in (written storage (line * line_size + at) bytes) line ≡ laid (line_in storage line) at bytes
line_laid storage bytes line at within fits =
    ext_get_or 0 (line_in (written storage first bytes) line) (written (line_in storage line) at bytes)
    (size_of_line (written storage first bytes) line (omega (arith, within, same))
    ∙ sym (length-written (line_in storage line) at bytes (omega (arith, fits, size)) ∙ size))
    (λ k lt.
    let low : k < line_size = omega (arith, lt, short_line (written storage first bytes) line) in
    line_byte (written storage first bytes) line k 0 low
    ∙ same_written (line_in storage line) storage bytes at first k (line * line_size + k) (omega (
      arith,
      fits,
      size,
    ))
    (omega (arith, within, fits)) (omega arith) (sym (line_byte storage line k 0 low)))
  where
    first : ℕ
    first = line * line_size + at

    size : length (line_in storage line) ≡ line_size
    size = size_of_line storage line within

    same : length (written storage first bytes) ≡ length storage
    same = length-written storage first bytes (omega (arith, within, fits))

-- a line that is written whole
pub line_whole : (storage copy : List ℕ) (line : ℕ) → line * line_size + line_size ≤ length storage
    → length copy ≡ line_size → line_in (written storage (line * line_size) copy) line ≡ copy
line_whole storage copy line within size =
    ext_get_or 0 (line_in (written storage (line * line_size) copy) line) copy
    (size_of_line (written storage (line * line_size) copy) line (omega (arith, within, same)) ∙ sym size)
    (λ k lt.
    let low : k < line_size = omega (arith, lt, short_line (written storage (line * line_size) copy) line) in
    line_byte (written storage (line * line_size) copy) line k 0 low
    ∙ inside storage (line * line_size) copy k (omega (arith, within)) (omega (arith, low, size)))
  where
    same : length (written storage (line * line_size) copy) ≡ length storage
    same = length-written storage (line * line_size) copy (omega (arith, within, size))

-- ---- the exclusive holder of a coherent line

pub holder_alone : (cpus : ℕ) (held : Holders) (copies : Copied) (storage : List ℕ) (cpu line : ℕ)
    → IsCoherent cpus held copies storage → cpu < cpus → held cpu line ≡ Some Exclusive
    → exclusive_holder cpus (λ c. held c line) ≡ Some cpu
holder_alone cpus held copies storage cpu line coherent lt is =
    one_exclusive cpus (λ c. held c line) cpu lt is
    (λ other below ne. coherent.alone cpu other line lt below is ne)

-- the bytes of a line that is held exclusively are those of that copy
pub seen_in_copy : (cpus : ℕ) (held : Holders) (copies : Copied) (storage : List ℕ) (cpu line a : ℕ) (copy :
    List ℕ)
    → IsCoherent cpus held copies storage → cpu < cpus → held cpu line ≡ Some Exclusive → copies cpu line ≡
    Some copy
    → length copy ≡ line_size
    → a / line_size ≡ line → byte_through (overlaid cpus held copies) storage a ≡ get_or copy (a % line_size)
    0
seen_in_copy cpus held copies storage cpu line a copy coherent lt is has size e =
    seen_exclusive cpus held copies storage a cpu copy
    (ap (λ l. exclusive_holder cpus (λ c. held c l)) e
    ∙ holder_alone cpus held copies storage cpu line coherent lt is)
    (ap (copies cpu) e ∙ has)
    size

-- ---- an exclusive copy is written back

pub written_back_coherent : (cpus : ℕ) (held : Holders) (copies : Copied) (storage : List ℕ) (cpu line : ℕ)
    (copy : List ℕ) → IsCoherent cpus held copies storage → cpu < cpus → held cpu line ≡ Some Exclusive
    → copies cpu line ≡ Some copy → length copy ≡ line_size → line * line_size + line_size ≤ length storage
    → IsCoherent cpus held copies (written storage (line * line_size) copy)
written_back_coherent cpus held copies storage cpu line copy coherent lt is has size within =
    record {
      alone = coherent.alone;
      there = coherent.there;
      shared = λ c l below shares. coherent.shared c l below shares
          ∙ ap Some (sym (line_beside storage copy (line * line_size) l (omega (arith, within, size))
          (λ k low. beside c l k below shares low)));
      sized = coherent.sized;
    }
  where
    beside : (c l k : ℕ) → c < cpus → held c l ≡ Some Shared → k < line_size
        → (l * line_size + k < line * line_size) ⊎ (line * line_size + length copy ≤ l * line_size + k)
    beside c l k below shares low =
        by_way (cases_eq l line)
        (λ e. let shares_here : held c line ≡ Some Shared = ap (held c) (sym e) ∙ shares in
        by_way (cases_eq c cpu)
        (λ same. let n : Some Exclusive ≡ Some Shared = sym is ∙ ap (λ i. held i line) (sym same) ∙
        shares_here in cc)
        (λ ne. let n : None ≡ Some Shared = sym (coherent.alone cpu c line lt below is ne) ∙ shares_here in
        cc))
        (λ ne. by_way (cases_lt l line)
        (λ less. inl (omega (arith, less, low)))
        (λ more. inr (omega (arith, more, ne, size))))

pub written_back_seen : (cpus : ℕ) (held : Holders) (copies : Copied) (storage : List ℕ) (cpu line : ℕ)
    (copy : List ℕ) → IsCoherent cpus held copies storage → cpu < cpus → held cpu line ≡ Some Exclusive
    → copies cpu line ≡ Some copy → length copy ≡ line_size → line * line_size + line_size ≤ length storage
    → flat cpus held copies (written storage (line * line_size) copy) ≡ flat cpus held copies storage
written_back_seen cpus held copies storage cpu line copy coherent lt is has size within =
    same_bytes (overlaid cpus held copies) (overlaid cpus held copies) storage
    (written storage (line * line_size) copy)
    (length-written storage (line * line_size) copy (omega (arith, within, size)))
    (λ a _. by_way (cases_eq (a / line_size) line)
    (λ e. seen_in_copy cpus held copies (written storage (line * line_size) copy) cpu line a copy
    (written_back_coherent cpus held copies storage cpu line copy coherent lt is has size within) lt is has
    size e
    ∙ sym (seen_in_copy cpus held copies storage cpu line a copy coherent lt is has size e))
    (λ ne. ap (unwrap_or (overlaid cpus held copies a))
    (by_way (cases_lt a (line * line_size))
    (λ before. below storage (line * line_size) copy a (omega (arith, within)) before)
    (λ from. above storage (line * line_size) copy a (omega (arith, within)) (omega (
      arith,
      from,
      ne,
      size,
    ))))))

some_of : (copy : Option (List ℕ)) (wanted : List ℕ) → is_some copy ≡ true
    → ((b : List ℕ) → copy ≡ Some b → b ≡ wanted) → copy ≡ Some wanted
some_of None wanted there same = let n : false ≡ true = there in cc
some_of (Some b) wanted there same = ap Some (same b refl)

-- ---- the hold and the copy of one CPU change, where all copies of the line have the bytes of storage

-- what is there now differs from what was there at one place at most
pub record IsChange (A : Type 0) (now old : ℕ → ℕ → A) (cpu line : ℕ) (value : A) : Type 0 where
  pub here : now cpu line ≡ value
  pub other_cpu : (c l : ℕ) → c ≢ cpu → now c l ≡ old c l
  pub other_line : (c l : ℕ) → l ≢ line → now c l ≡ old c l

-- a line that a CPU gets, keeps or gives up, and its copy
pub record IsMove (cpus : ℕ) (held : Holders) (copies : Copied) (storage : List ℕ) (cpu line : ℕ)
    (mode : Option Mode) (copy : Option (List ℕ)) : Type 0 where
  pub clean : IsClean cpus copies storage line
  pub both : is_some copy ≡ is_some mode
  pub from_storage : (c : List ℕ) → copy ≡ Some c → c ≡ line_in storage line
  pub others : (other : ℕ) → other < cpus → other ≢ cpu → mode ≡ Some Exclusive → held other line ≡ None
  pub stays : (other : ℕ) → other < cpus → other ≢ cpu → held other line ≡ Some Exclusive → mode ≡ None

module _ (cpus : ℕ) (held held' : Holders) (copies copies' : Copied) (storage : List ℕ) (cpu line : ℕ)
    (mode : Option Mode) (copy : Option (List ℕ))
    (modes : IsChange (Option Mode) held' held cpu line mode)
    (kept : IsChange (Option (List ℕ)) copies' copies cpu line copy)
    (move : IsMove cpus held copies storage cpu line mode copy) where
  clean_still : IsClean cpus copies' storage line
  clean_still = record {
    each = λ c b below has. by_way (cases_eq c cpu)
        (λ e. move.from_storage b (sym kept.here ∙ ap (λ i. copies' i line) (sym e) ∙ has))
        (λ ne. move.clean.each c b below (sym (kept.other_cpu c line ne) ∙ has));
  }

  pub moved_seen : flat cpus held' copies' storage ≡ flat cpus held copies storage
  moved_seen =
      same_bytes (overlaid cpus held copies) (overlaid cpus held' copies') storage storage refl
      (λ a lt. by_way (cases_eq (a / line_size) line)
      (λ e.
      let now : IsClean cpus copies' storage (a / line_size) =
      subst (IsClean cpus copies' storage) (sym e) clean_still in
      let before : IsClean cpus copies storage (a / line_size) =
      subst (IsClean cpus copies storage) (sym e) move.clean in
      seen_clean cpus held' copies' storage a now lt ∙ sym (seen_clean cpus held copies storage a before lt))
      (λ ne. ap (λ o. unwrap_or o (get_or storage a 0))
      (overlaid_agree cpus held held' copies copies' a
      (λ c. modes.other_line c (a / line_size) ne) (λ c. kept.other_line c (a / line_size) ne))))

  pub moved_coherent : line * line_size + line_size ≤ length storage → IsCoherent cpus held copies storage
      → IsCoherent cpus held' copies' storage
  moved_coherent within coherent =
      record {
        alone = λ c o l in_c in_o is ne. by_way (cases_eq l line)
            (λ e. ap (held' o) e ∙ alone_here c o in_c in_o (ap (held' c) (sym e) ∙ is) ne)
            (λ off. modes.other_line o l off
            ∙ coherent.alone c o l in_c in_o (sym (modes.other_line c l off) ∙ is) ne);
        there = λ c l below. by_way (cases_eq l line)
            (λ e. ap (λ k. is_some (copies' c k)) e ∙ there_here c below ∙ ap (λ k. is_some (held' c k)) (sym
            e))
            (λ off. ap is_some (kept.other_line c l off) ∙ coherent.there c l below
            ∙ ap is_some (sym (modes.other_line c l off)));
        shared = λ c l below is. by_way (cases_eq l line)
            (λ e. ap (copies' c) e ∙ shared_here c below (ap (held' c) (sym e) ∙ is)
            ∙ ap (λ k. Some (line_in storage k)) (sym e))
            (λ off. kept.other_line c l off ∙ coherent.shared c l below (sym (modes.other_line c l off) ∙
            is));
        sized = λ c l b below has. by_way (cases_eq l line)
            (λ e. ap length (clean_still.each c b below (ap (copies' c) (sym e) ∙ has))
            ∙ size_of_line storage line within)
            (λ off. coherent.sized c l b below (sym (kept.other_line c l off) ∙ has));
      }
    where
      alone_here : (c o : ℕ) → c < cpus → o < cpus → held' c line ≡ Some Exclusive → o ≢ c → held' o line ≡
          None
      alone_here c o in_c in_o is ne =
          by_way (cases_eq c cpu)
          (λ e.
          let off : o ≢ cpu = λ same. ne (same ∙ sym e) in
          modes.other_cpu o line off
          ∙ move.others o in_o off (sym modes.here ∙ ap (λ i. held' i line) (sym e) ∙ is))
          (λ other.
          let was : held c line ≡ Some Exclusive = sym (modes.other_cpu c line other) ∙ is in
          by_way (cases_eq o cpu)
          (λ e. ap (λ i. held' i line) e ∙ modes.here ∙ move.stays c in_c other was)
          (λ off. modes.other_cpu o line off ∙ coherent.alone c o line in_c in_o was ne))

      there_here : (c : ℕ) → c < cpus → is_some (copies' c line) ≡ is_some (held' c line)
      there_here c below =
          by_way (cases_eq c cpu)
          (λ e. ap (λ i. is_some (copies' i line)) e ∙ ap is_some kept.here ∙ move.both ∙ ap is_some (sym
          modes.here)
          ∙ ap (λ i. is_some (held' i line)) (sym e))
          (λ ne. ap is_some (kept.other_cpu c line ne) ∙ coherent.there c line below
          ∙ ap is_some (sym (modes.other_cpu c line ne)))

      shared_here : (c : ℕ) → c < cpus → held' c line ≡ Some Shared → copies' c line ≡ Some (line_in storage
          line)
      shared_here c below is =
          some_of (copies' c line) (line_in storage line) (there_here c below ∙ ap is_some is)
          (λ b has. clean_still.each c b below has)
