-- What is written is read.
use Rattle.std.proofs.Common.{◌≡◌, ◌≢◌, ℕ, zero, suc, ◌+◌, ◌-◌, ◌*◌, ◌/◌, ◌%◌, ◌^◌, ◌<◌, ◌≤◌, Bool, true, false}
use Rattle.std.proofs.Common.{◌&&◌, ◌⊎◌, inl, inr, List, [], ◌∷◌, ◌++◌, length, take, drop, replicate, Option, Some}
use Rattle.std.proofs.Common.{None, refl, sym, ap, ap₂, subst, ◌∙◌, arith, All, slice_index, length-append}
use Rattle.std.proofs.Common.{length-drop, lt-ltb, le-ltb, le-leb, min, append_assoc, add-zero}
use Rattle.std.proofs.lemmas.Bool.{lt-leb}
use Rattle.std.specs.Prelude.{unwrap_or, nat_lt, nat_le, ◌==◌, if◌then◌else◌}
use Rattle.std.specs.List.{concat, list_all}
use Rattle.std.specs.Str.{bytes_eq}
use Rattle.byteorder.specs.Endian.{big_number, big_bytes}
use Rattle.byteorder.specs.Numbers.{big_number-reads_back}
use Rattle.std.proofs.lemmas.Bool.{ne_eqb, eqb-true, and_parts, ltb-true, ltb-false, leb-true, leb-false}
use Rattle.std.proofs.lemmas.List.{append-nil, length-take, length-replicate, take_at, drop_at, get_or-take, get_or-drop}
use Rattle.std.proofs.lemmas.List.{get_or_past, drop_all}
use Rattle.std.proofs.lemmas.List.Elements.{All-nil, All-append, All-cons}
use Rattle.std.proofs.lemmas.List.Folds.{concat-append}
use Rattle.z_regs.specs.Cpu.{Cpu}
use Rattle.tx_journal.specs.Content.{Content}
use Rattle.tx_journal.specs.Image.{IsImage}
use Rattle.z_deck.specs.Columns.{type_of, type_named, at, address_field, no_entry}
use Rattle.z_deck.specs.Reading.{IsDeck, IsPart, IsText, IsEnd, Holds, byte_on, byte_from, over, covers, is_text}
use Rattle.z_deck.specs.Reading.{address_of, count_of, bytes_of, entry_of, IsAccessible}
use Rattle.z_deck.specs.Writing.{section_card, text_card, end_card, text_head, is_zero, piece_address, piece_at}
use Rattle.z_deck.specs.Writing.{cards_of_piece, text_cards, deck_of, deck_of_image, first_entry}
use Rattle.z_deck.specs.declared.card.CardType.TheVariants.{Section, Text, End}
use Rattle.z_deck.proofs.Loaded.{more_bytes, no_byte, text_bytes, over_none}
use Rattle.z_deck.proofs.Written.{text_parts, first_low}

-- ---- the section, and the end

pub section_size : length section_card ≡ 80
unfolding section_card
section_size = refl

pub section_type : type_of section_card ≡ Some Section
unfolding section_card type_named
section_type = refl

pub end_size : (entry : ℕ) → length (end_card entry) ≡ 80
unfolding end_card
end_size entry = refl

pub end_type : (entry : ℕ) → type_of (end_card entry) ≡ Some End
unfolding end_card type_named
end_type entry = refl

-- the address is no blanks, since it is in storage
not_blank : (entry : ℕ) → entry < 1048576 → bytes_eq (big_bytes 3 entry) no_entry ≡ false
not_blank entry low = ap (λ b. b && bytes_eq (big_bytes 2 entry) (64 ∷ 64 ∷ [])) (ne_eqb (entry / 65536 % 256) 64
    (λ e. omega arith))

pub end_entry : (entry : ℕ) → entry < 1048576 → entry_of 0 (end_card entry) ≡ Some entry
unfolding end_card
end_entry entry low =
    let number : big_number 3 (big_bytes 3 entry ++ []) ≡ entry =
    big_number-reads_back 3 entry [] (omega arith) in
    ap (λ b. if b then None else Some (big_number 3 (big_bytes 3 entry ++ []) + 0)) (not_blank entry low)
    ∙ ap Some (add-zero (big_number 3 (big_bytes 3 entry ++ [])) ∙ number)

-- ---- texts

pub text_type : (address : ℕ) (bytes : List ℕ) → type_of (text_card address bytes) ≡ Some Text
unfolding text_card type_named
text_type address bytes = refl

head_size : (a n : ℕ) → length (text_head a n) ≡ 16
unfolding text_head
head_size a n = refl

pub text_size : (address : ℕ) (bytes : List ℕ) → length bytes ≤ 56 → length (text_card address bytes) ≡ 80
text_size address bytes few =
    ap length (text_parts address bytes)
    ∙ omega (
      arith,
      head_size address (length bytes),
      length-append (text_head address (length bytes)) (bytes ++ drop (length bytes) (replicate 64 64)),
      length-append bytes (drop (length bytes) (replicate 64 64)),
      length-drop {A = ℕ} (length bytes) (replicate 64 64),
      length-replicate {A = ℕ} 64 64,
    )

pub text_count : (address : ℕ) (bytes : List ℕ) → length bytes ≤ 56 → count_of (text_card address bytes) ≡ length bytes
unfolding text_card
text_count address bytes few = big_number-reads_back 2 (length bytes) [] (omega arith)

pub text_address : (address : ℕ) (bytes : List ℕ) → address < 16777216 → address_of 0 (text_card address bytes) ≡ address
unfolding text_card
text_address address bytes low =
    let number : big_number 3 (big_bytes 3 address ++ []) ≡ address =
    big_number-reads_back 3 address [] (omega arith) in
    add-zero (big_number 3 (big_bytes 3 address ++ [])) ∙ number

text_behind : (address : ℕ) (bytes : List ℕ)
    → drop 16 (text_card address bytes) ≡ bytes ++ drop (length bytes) (replicate 64 64)
text_behind address bytes =
    ap (drop 16) (text_parts address bytes)
    ∙ drop_at (text_head address (length bytes)) (bytes ++ drop (length bytes) (replicate 64 64)) 16
    (head_size address (length bytes))

pub text_says : (address : ℕ) (bytes : List ℕ) → length bytes ≤ 56 → bytes_of (text_card address bytes) ≡ bytes
text_says address bytes few =
    ap₂ (λ (n : ℕ) (s : List ℕ). take n s) (text_count address bytes few) (text_behind address bytes)
    ∙ take_at bytes (drop (length bytes) (replicate 64 64)) (length bytes) refl

-- ---- pieces of storage

module _ (storage : List ℕ) (size : length storage ≡ 1048576) where
  pub piece_size : (i : ℕ) → length (piece_at storage i) ≡ min 56 (1048576 - (8192 + 56 * i))
  piece_size i =
      length-take 56 (drop (8192 + 56 * i) storage)
      ∙ ap (min 56) (length-drop (8192 + 56 * i) storage ∙ ap (λ n. n - (8192 + 56 * i)) size)

  pub piece_few : (i : ℕ) → length (piece_at storage i) ≤ 56
  piece_few i = omega (arith, piece_size i)

  pub piece_in : (i address : ℕ) → 8192 + 56 * i ≤ address → address < 8192 + 56 * i + 56
      → slice_index (piece_at storage i) (address - (8192 + 56 * i)) ≡ slice_index storage address
  piece_in i address low high =
      let place : 8192 + 56 * i + (address - (8192 + 56 * i)) ≡ address = omega arith in
      get_or-take 56 (drop (8192 + 56 * i) storage) (address - (8192 + 56 * i)) 0 (omega arith)
      ∙ get_or-drop (8192 + 56 * i) storage (address - (8192 + 56 * i)) 0 ∙ ap (slice_index storage) place

  all_zero : (p : List ℕ) → is_zero p ≡ true → (k : ℕ) → slice_index p k ≡ 0
  all_zero [] zeros k = refl
  all_zero (b ∷ bs) zeros zero = eqb-true b 0 (and_parts (b == 0) (list_all (λ c. c == 0) bs) zeros).0
  all_zero (b ∷ bs) zeros (suc k) = all_zero bs (and_parts (b == 0) (list_all (λ c. c == 0) bs) zeros).1 k

  -- what the card of a piece puts at an address
  piece_byte : (i address : ℕ) → i < 18579
      → byte_on 0 (text_card (piece_address i) (piece_at storage i)) address
      ≡ (if covers (8192 + 56 * i) (piece_at storage i) address
      then Some (slice_index (piece_at storage i) (address - (8192 + 56 * i))) else None)
  piece_byte i address few =
      text_bytes 0 (text_card (piece_address i) (piece_at storage i)) address
      (text_type (piece_address i) (piece_at storage i))
      ∙ ap₂ (λ (f : ℕ) (p : List ℕ). if covers f p address then Some (slice_index p (address - f)) else None)
      (text_address (piece_address i) (piece_at storage i) (omega arith))
      (text_says (piece_address i) (piece_at storage i) (piece_few i))

  covered : (first address : ℕ) (p : List ℕ) → first ≤ address → address < first + length p
      → covers first p address ≡ true
  covered first address p low high =
      ap₂ (λ b c. b && c) (le-leb first address low) (lt-ltb address (first + length p) high)

  low_bare : (first address : ℕ) (p : List ℕ) → address < first → covers first p address ≡ false
  low_bare first address p low = ap (λ b. b && nat_lt address (first + length p)) (lt-leb first address low)

  high_bare : (first address : ℕ) (p : List ℕ) → first ≤ address → first + length p ≤ address
      → covers first p address ≡ false
  high_bare first address p low high =
      ap₂ (λ b c. b && c) (le-leb first address low) (le-ltb address (first + length p) high)

  abbrev from_pieces : ℕ → ℕ → Option ℕ
  from_pieces n address = byte_from 0 (text_cards n storage) address

  -- the cards of so many pieces put the bytes of storage below an address, and none behind it
  record IsWritten (n : ℕ) : Type 0 where
    below : (address : ℕ) → 8192 ≤ address → address < 8192 + 56 * n
        → unwrap_or (from_pieces n address) 0 ≡ slice_index storage address
    low : (address : ℕ) → address < 8192 → from_pieces n address ≡ None
    above : (address : ℕ) → 8192 + 56 * n ≤ address → from_pieces n address ≡ None

  none_written : IsWritten 0
  unfolding text_cards
  none_written = record {
    below = λ address low high. absurd (omega arith);
    low = λ address h. refl;
    above = λ address h. refl;
  }

  -- one piece more, by whether it is all zero
  next_from : (n address : ℕ) (b : Bool) → is_zero (piece_at storage n) ≡ b → from_pieces (suc n) address
      ≡ (if b then from_pieces n address
      else over (byte_on 0 (text_card (piece_address n) (piece_at storage n)) address) (from_pieces n address))
  unfolding text_cards cards_of_piece
  next_from n address true is =
      ap (λ b. byte_from 0 (text_cards n storage
      ++ (if b then [] else text_card (piece_address n) (piece_at storage n) ∷ [])) address) is
      ∙ ap (λ (cs : List (List ℕ)). byte_from 0 cs address) (append-nil (text_cards n storage))
  next_from n address false is =
      ap (λ b. byte_from 0 (text_cards n storage
      ++ (if b then [] else text_card (piece_address n) (piece_at storage n) ∷ [])) address) is
      ∙ more_bytes 0 (text_cards n storage) (text_card (piece_address n) (piece_at storage n)) address

  zero_written : (n : ℕ) → is_zero (piece_at storage n) ≡ true → IsWritten n → IsWritten (suc n)
  zero_written n zeros w = record {
    below = λ address low high. ap (λ o. unwrap_or o 0) (next_from n address true zeros)
        ∙ by address low high (nat_lt address (8192 + 56 * n)) refl;
    low = λ address h. next_from n address true zeros ∙ w.low address h;
    above = λ address h. next_from n address true zeros ∙ w.above address (omega arith);
  }
    where
      by : (address : ℕ) → 8192 ≤ address → address < 8192 + 56 * suc n → (b : Bool)
          → nat_lt address (8192 + 56 * n) ≡ b
          → unwrap_or (from_pieces n address) 0 ≡ slice_index storage address
      by address low high true is = w.below address low (ltb-true address (8192 + 56 * n) is)
      by address low high false is =
          let from : 8192 + 56 * n ≤ address = ltb-false address (8192 + 56 * n) is in
          ap (λ o. unwrap_or o 0) (w.above address from)
          ∙ sym (all_zero (piece_at storage n) zeros (address - (8192 + 56 * n)))
          ∙ piece_in n address from (omega arith)

  some_written : (n : ℕ) → n < 18579 → is_zero (piece_at storage n) ≡ false → IsWritten n → IsWritten (suc n)
  some_written n few some w = record {
    below = λ address low high. ap (λ o. unwrap_or o 0) (step address)
        ∙ by address low high (nat_lt address (8192 + 56 * n)) refl;
    low = λ address h. bare address (low_bare (8192 + 56 * n) address (piece_at storage n) (omega arith))
        ∙ w.low address h;
    above = λ address h. bare address (high_bare (8192 + 56 * n) address (piece_at storage n) (omega arith)
        (omega (arith, piece_few n))) ∙ w.above address (omega arith);
  }
    where
      step : (address : ℕ) → from_pieces (suc n) address
          ≡ over (if covers (8192 + 56 * n) (piece_at storage n) address
          then Some (slice_index (piece_at storage n) (address - (8192 + 56 * n))) else None)
          (from_pieces n address)
      step address =
          next_from n address false some ∙ ap (λ o. over o (from_pieces n address)) (piece_byte n address few)

      bare : (address : ℕ) → covers (8192 + 56 * n) (piece_at storage n) address ≡ false
          → from_pieces (suc n) address ≡ from_pieces n address
      bare address apart = step address ∙ ap (λ b. over (if b
          then Some (slice_index (piece_at storage n) (address - (8192 + 56 * n))) else None)
          (from_pieces n address)) apart

      inside : (address : ℕ) → 8192 + 56 * n ≤ address → address < 8192 + 56 * suc n → (c : Bool)
          → nat_lt address (8192 + 56 * n + length (piece_at storage n)) ≡ c
          → unwrap_or (over (if covers (8192 + 56 * n) (piece_at storage n) address
          then Some (slice_index (piece_at storage n) (address - (8192 + 56 * n))) else None)
          (from_pieces n address)) 0 ≡ slice_index storage address
      inside address from high true is =
          ap (λ b. unwrap_or (over (if b
          then Some (slice_index (piece_at storage n) (address - (8192 + 56 * n))) else None)
          (from_pieces n address)) 0) (covered (8192 + 56 * n) address (piece_at storage n) from
          (ltb-true address (8192 + 56 * n + length (piece_at storage n)) is))
          ∙ piece_in n address from (omega arith)
      inside address from high false is =
          let past : 8192 + 56 * n + length (piece_at storage n) ≤ address =
          ltb-false address (8192 + 56 * n + length (piece_at storage n)) is in
          ap (λ b. unwrap_or (over (if b
          then Some (slice_index (piece_at storage n) (address - (8192 + 56 * n))) else None)
          (from_pieces n address)) 0) (high_bare (8192 + 56 * n) address (piece_at storage n) from past)
          ∙ ap (λ o. unwrap_or o 0) (w.above address from)
          ∙ sym (get_or_past storage address 0 (omega (arith, past, size, piece_size n)))

      by : (address : ℕ) → 8192 ≤ address → address < 8192 + 56 * suc n → (b : Bool)
          → nat_lt address (8192 + 56 * n) ≡ b
          → unwrap_or (over (if covers (8192 + 56 * n) (piece_at storage n) address
          then Some (slice_index (piece_at storage n) (address - (8192 + 56 * n))) else None)
          (from_pieces n address)) 0 ≡ slice_index storage address
      by address low high true is =
          let under = ltb-true address (8192 + 56 * n) is in
          ap (λ b. unwrap_or (over (if b
          then Some (slice_index (piece_at storage n) (address - (8192 + 56 * n))) else None)
          (from_pieces n address)) 0) (low_bare (8192 + 56 * n) address (piece_at storage n) under)
          ∙ w.below address low under
      by address low high false is =
          inside address (ltb-false address (8192 + 56 * n) is) high
          (nat_lt address (8192 + 56 * n + length (piece_at storage n))) refl

  all_written : (n : ℕ) → n ≤ 18579 → IsWritten n
  all_written zero few = none_written
  all_written (suc n) few = by (all_written n (omega arith)) (is_zero (piece_at storage n)) refl
    where
      by : IsWritten n → (b : Bool) → is_zero (piece_at storage n) ≡ b → IsWritten (suc n)
      by w true is = zero_written n is w
      by w false is = some_written n (omega arith) is w

  -- ---- the cards

  piece_part : (i : ℕ) → i < 18579 → IsPart 0 (text_card (piece_address i) (piece_at storage i))
  piece_part i few =
      let card = text_card (piece_address i) (piece_at storage i) in
      let count : count_of card ≡ length (piece_at storage i) =
      text_count (piece_address i) (piece_at storage i) (piece_few i) in
      let first : address_of 0 card ≡ 8192 + 56 * i =
      text_address (piece_address i) (piece_at storage i) (omega arith) in (
        text_size (piece_address i) (piece_at storage i) (piece_few i),
        inr (record {
          type = text_type (piece_address i) (piece_at storage i);
          few = subst (λ n. n ≤ 56) (sym count) (piece_few i);
          within = within_by (address_of 0 card) (count_of card) (omega (arith, first))
              (subst (λ n. n ≤ 1048576) (sym (ap₂ (λ (a b : ℕ). a + b) first count))
              (omega (arith, piece_size i)));
        }),
      )
    where
      within_by : (first size : ℕ) → 8192 ≤ first → first + size ≤ 1048576 → IsAccessible first size
      within_by first size low high any = (low, high)

  record AreWritten (n : ℕ) (cards : List (List ℕ)) : Type 0 where
    parts : All (IsPart 0) cards
    short : length (concat cards) ≤ 80 * n

  abbrev added : ℕ → Bool → List (List ℕ)
  added n b = if b then [] else text_card (piece_address n) (piece_at storage n) ∷ []

  pub no_cards : text_cards 0 storage ≡ []
  unfolding text_cards
  no_cards = refl

  cards_next : (n : ℕ) → text_cards (suc n) storage ≡ text_cards n storage ++ added n (is_zero (piece_at storage n))
  unfolding text_cards cards_of_piece
  cards_next n = refl

  one_more : (n : ℕ) → n < 18579 → (cards : List (List ℕ)) (b : Bool) → AreWritten n cards
      → AreWritten (suc n) (cards ++ added n b)
  one_more n few cards true w = record {
    parts = All-append (IsPart 0) cards [] w.parts (All-nil (IsPart 0));
    short = omega (arith, w.short, ap (λ (cs : List (List ℕ)). length (concat cs)) (append-nil cards));
  }
  one_more n few cards false w =
      let card = text_card (piece_address n) (piece_at storage n) in
      record {
        parts = All-append (IsPart 0) cards (added n false) w.parts
            (All-cons (IsPart 0) card [] (piece_part n few) (All-nil (IsPart 0)));
        short = omega (
          arith,
          w.short,
          ap length (concat-append cards (added n false)),
          length-append (concat cards) (concat (added n false)),
          length-append (text_card (piece_address n) (piece_at storage n)) [],
          (piece_part n few).0,
        );
      }

  cards_written : (n : ℕ) → n ≤ 18579 → AreWritten n (text_cards n storage)
  cards_written zero few = subst (AreWritten 0) (sym no_cards)
      (record { parts = All-nil (IsPart 0); short = omega arith })
  cards_written (suc n) few = subst (AreWritten (suc n)) (sym (cards_next n))
      (one_more n (omega arith) (text_cards n storage) (is_zero (piece_at storage n)) (cards_written n (omega arith)))

  -- ---- the whole

  pub read_back : ((address : ℕ) → address < 8192 → slice_index storage address ≡ 0) → (entry : ℕ)
      → entry < 1048576 → IsDeck (deck_of storage entry) 0 storage (Some entry)
  read_back lows entry low =
      let texts = text_cards 18579 storage in
      let written = all_written 18579 (omega arith) in
      let cards = cards_written 18579 (omega arith) in
      record {
        few = omega (
          arith,
          cards.short,
          section_size,
          end_size entry,
          length-append section_card (concat texts ++ end_card entry),
          length-append (concat texts) (end_card entry),
        );
        cards = section_card ∷ texts;
        last = end_card entry;
        whole = sym (append_assoc section_card (concat texts) (end_card entry));
        parts = All-cons (IsPart 0) section_card texts (section_size, inl section_type) cards.parts;
        end = record {
          size = end_size entry;
          type = end_type entry;
          within = λ other is. entered other (sym (end_entry entry low) ∙ is);
        };
        holds = record {
          size = size;
          bytes = λ address high. sym (first_none address ∙ by address high written
              (nat_lt address 8192) refl);
        };
        enters = sym (end_entry entry low);
      }
    where
      entered : (other : ℕ) → Some entry ≡ Some other → other < 1048576
      entered other same = let e : entry ≡ other = cc in subst (λ n. n < 1048576) e low

      first_none : (address : ℕ) → unwrap_or (byte_from 0 (section_card ∷ text_cards 18579 storage) address) 0
          ≡ unwrap_or (from_pieces 18579 address) 0
      first_none address =
          ap (λ o. unwrap_or (over (from_pieces 18579 address) o) 0) (no_byte 0 section_card Section section_type refl
          address) ∙ ap (λ o. unwrap_or o 0) (over_none (from_pieces 18579 address))

      by : (address : ℕ) → address < 1048576 → IsWritten 18579 → (b : Bool) → nat_lt address 8192 ≡ b
          → unwrap_or (from_pieces 18579 address) 0 ≡ slice_index storage address
      by address high w true is =
          let under = ltb-true address 8192 is in
          ap (λ o. unwrap_or o 0) (w.low address under) ∙ sym (lows address under)
      by address high w false is = w.below address (ltb-false address 8192 is) (omega arith)

pub written_is_read : (image : Content) → IsImage image
    → IsDeck (deck_of_image image) 0 image.storage (Some (first_entry image.cpus))
written_is_read image is =
    read_back image.storage is.size is.low (first_entry image.cpus) (first_low image.cpus is.some_cpu is.starting)
