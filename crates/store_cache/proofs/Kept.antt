-- What a store cache shows of its entries, and its invariant after each change.
use Rattle.std.proofs.Common.{◌≡◌, ◌≢◌, ℕ, ◌+◌, ◌*◌, ◌/◌, ◌%◌, ◌<◌, ◌≤◌, Bool, true, false, cond, eqb}
use Rattle.std.proofs.Common.{ltb, List, [], ◌∷◌, ◌++◌, length, get_or, set, take, Some, None}
use Rattle.std.proofs.Common.{is_some, refl, sym, ap, subst, ◌∙◌, arith}
use Rattle.std.specs.Prelude.{◌||◌}
use Rattle.std.proofs.lemmas.Bool.{cases_eq, cases_Bool, cond-true, cond-false, eq-eqb, ne_eqb}
use Rattle.std.proofs.lemmas.Bool.{ltb-true}
use Rattle.std.proofs.lemmas.List.{length-set, get_or-set_other, length_push}
use Rattle.bit_set.specs.Counts.{count_below}
use Rattle.bit_set.proofs.Counts.{count_agree}
use Rattle.slot_index.specs.Slots.{Slots, slot_in, is_key}
use borrow.Enum.Arm.{by_way}
use Rattle.slot_index.proofs.Found.{slot_in-has, slot_in-add, slot_in-none, slot_cases}
use Rattle.store_cache.specs.Sizes.{storage_blocks, block_size, block_doublewords, block_limit}
use Rattle.store_cache.specs.Overlay.{Overlay, with_one, with_bytes, has_block, block_count}
use Rattle.store_cache.specs.Stores.{Stores, no_stores, has_room, IsSound}
use Rattle.store_cache.specs.Entries.{Entries, items_of, stores_of, IsKept}
use Rattle.store_cache.proofs.Overlays.{with_bytes-inside}
use Rattle.store_cache.proofs.Blocks.{has_block-at, has_block-here, has_block-other, has_block-nothing}
use Rattle.store_cache.proofs.Cells.{items_of-none, items_of-empty, items_of-add, items_of-store, items_of-front}

-- ---- what entries show

abbrev pub shown : List ℕ → List ℕ → List Bool → List ℕ → List Bool → Stores
shown blocks bytes marks values value_marks =
    record {
      overlay = items_of block_size blocks bytes marks;
      lasting =
          items_of block_doublewords blocks values value_marks;
    }

pub stores_of-is : (blocks bytes : List ℕ) (marks : List Bool) (values : List ℕ) (value_marks : List Bool)
    → stores_of (record {
      blocks = blocks;
      bytes = bytes;
      marks = marks;
      values = values;
      value_marks =
          value_marks;
    }) ≡ shown blocks bytes marks values value_marks
unfolding stores_of
stores_of-is blocks bytes marks values value_marks = refl

pub stores_of-now : (v : Entries) (blocks bytes : List ℕ) (marks : List Bool) (values : List ℕ)
    (value_marks : List Bool) → record {
      blocks = blocks;
      bytes = bytes;
      marks = marks;
      values = values;
      value_marks = value_marks;
    } ≡ v → stores_of v ≡ shown blocks bytes marks values value_marks
stores_of-now v blocks bytes marks values value_marks e = ap stores_of (sym e)
    ∙ stores_of-is blocks bytes marks values value_marks

pub shown-empty : (bytes : List ℕ) (marks : List Bool) (values : List ℕ) (value_marks : List Bool)
    → shown [] bytes marks values value_marks ≡ no_stores
shown-empty bytes marks values value_marks i =
    record {
      overlay = items_of-empty block_size bytes marks i;
      lasting =
          items_of-empty block_doublewords values value_marks i;
    }

-- ---- how many blocks are stored

pub counted_blocks : (index : Slots) (bytes : List ℕ) (marks : List Bool) (values : List ℕ)
    (value_marks : List Bool) → IsKept index bytes marks values value_marks
    → count_below index.limit (is_key index.keys) ≡ block_count (items_of block_size index.keys bytes marks)
counted_blocks index bytes marks values value_marks kept =
    ap (λ n. count_below n (is_key index.keys)) kept.limit
    ∙ count_agree storage_blocks (is_key index.keys) (has_block (items_of block_size index.keys bytes marks))
    (λ block lt. sym (kept.stored block))

pub sound : (index : Slots) (bytes : List ℕ) (marks : List Bool) (values : List ℕ) (value_marks : List Bool)
    → IsKept index bytes marks values value_marks → count_below index.limit (is_key index.keys) ≤ index.most
    → ((key : ℕ) → index.limit ≤ key → slot_in index.keys key ≡ None)
    → IsSound (shown index.keys bytes marks values value_marks)
sound index bytes marks values value_marks kept within below =
    record {
      few = omega (arith, within, kept.most, counted_blocks index bytes marks values value_marks kept);
      in_storage = λ address past. items_of-none block_size index.keys bytes marks address
          (below (address / block_size) (omega (arith, past, kept.limit)));
    }

-- a block that is no entry's has room only where there is room for one more entry
room_left : (overlay : Overlay) (block : ℕ) → has_block overlay block ≡ false
    → has_room overlay block ≡ true → block_count overlay < block_limit
room_left overlay block new room =
    ltb-true (block_count overlay) block_limit
    (sym (ap (λ b. b || ltb (block_count overlay) block_limit) new) ∙ room)

-- a block that has room and is no entry's may become one's
pub entry_left : (index : Slots) (bytes : List ℕ) (marks : List Bool) (values : List ℕ) (value_marks : List Bool)
    (block : ℕ) → IsKept index bytes marks values value_marks
    → has_room (items_of block_size index.keys bytes marks) block ≡ true → is_key index.keys block ≡ false
    → count_below index.limit (is_key index.keys) < index.most
entry_left index bytes marks values value_marks block kept room new =
    omega (
      arith,
      room_left (items_of block_size index.keys bytes marks) block (kept.stored block ∙ new) room,
      counted_blocks index bytes marks values value_marks kept,
      kept.most,
    )

-- ---- no entries

pub emptied : (index : Slots) (bytes : List ℕ) (marks : List Bool) (values : List ℕ)
    (value_marks : List Bool) → index.limit ≡ storage_blocks → index.most ≡ block_limit
    → length bytes ≡ block_limit * block_size → length marks ≡ block_limit * block_size
    → length values ≡ block_limit * block_doublewords → length value_marks ≡ block_limit * block_doublewords
    → index.keys ≡ [] → ((cell : ℕ) → get_or marks cell false ≡ false)
    → ((cell : ℕ) → get_or value_marks cell false ≡ false) → IsKept index bytes marks values value_marks
emptied index bytes marks values value_marks limit most byte_room mark_room value_room value_mark_room none
    unmarked no_value =
    record {
      limit = limit;
      most = most;
      byte_room = byte_room;
      mark_room = mark_room;
      value_room = value_room;
      value_mark_room = value_mark_room;
      unmarked = λ cell le. unmarked cell;
      no_value = λ cell le. no_value cell;
      stored = λ block.
          ap (λ keys. has_block (items_of block_size keys bytes marks) block) none
          ∙ ap (λ (o : Overlay). has_block o block) (items_of-empty block_size bytes marks)
          ∙ has_block-nothing block
          ∙ sym (ap is_some (ap (λ keys. slot_in keys block) none
          ∙ slot_in-none [] block (λ j lt. absurd (omega (arith, lt)))));
    }

-- ---- an entry for a block

pub record Entered (old index : Slots) (bytes : List ℕ) (marks : List Bool) (values : List ℕ)
    (value_marks : List Bool) (block : ℕ) : Type 0 where
  pub limit : index.limit ≡ old.limit
  pub most : index.most ≡ old.most
  pub longer : length old.keys ≤ length index.keys
  pub same_bytes : items_of block_size index.keys bytes marks ≡ items_of block_size old.keys bytes marks
  pub same_values : items_of block_doublewords index.keys values value_marks ≡ items_of block_doublewords old.keys values
      value_marks
  pub here : is_key index.keys block ≡ true
  pub others : (b : ℕ) → b ≢ block → is_key index.keys b ≡ is_key old.keys b

pub entered : (old index : Slots) (bytes : List ℕ) (marks : List Bool) (values : List ℕ)
    (value_marks : List Bool) (block : ℕ) → IsKept old bytes marks values value_marks
    → index ≡ cond (is_key old.keys block) old
    (record { limit = old.limit; most = old.most; keys = old.keys ++ block ∷ [] })
    → Entered old index bytes marks values value_marks block
entered old index bytes marks values value_marks block kept is =
    by_way (cases_Bool (is_key old.keys block))
    (λ yes. subst (λ (now : Slots). Entered old now bytes marks values value_marks block)
    (sym (is ∙ cond-true (is_key old.keys block) old longer_index yes))
    (record {
      limit = refl;
      most = refl;
      longer = omega arith;
      same_bytes = refl;
      same_values = refl;
      here = yes;
      others = λ b ne. refl;
    }))
    (λ no. subst (λ (now : Slots). Entered old now bytes marks values value_marks block)
    (sym (is ∙ cond-false (is_key old.keys block) old longer_index no))
    (record {
      limit = refl;
      most = refl;
      longer = omega (arith, length_push old.keys block);
      same_bytes = items_of-add block_size old.keys bytes marks block (none no) kept.unmarked;
      same_values = items_of-add block_doublewords old.keys values value_marks block (none no) kept.no_value;
      here = ap is_some (slot_in-add old.keys block block (none no)
          ∙ cond-true (eqb block block) (Some (length old.keys)) (slot_in old.keys block)
          (eq-eqb block block refl));
      others = λ b ne. ap is_some (slot_in-add old.keys block b (none no)
          ∙ cond-false (eqb b block) (Some (length old.keys)) (slot_in old.keys b) (ne_eqb b block ne));
    }))
  where
    longer_index : Slots
    longer_index = record { limit = old.limit; most = old.most; keys = old.keys ++ block ∷ [] }

    none : is_key old.keys block ≡ false → slot_in old.keys block ≡ None
    none off =
        by_way (slot_cases old.keys block)
        (λ found. let n : true ≡ false = sym (ap is_some found.1) ∙ off in cc)
        (λ absent. absent)

-- ---- a stored byte

pub byte_shown : (old index : Slots) (bytes : List ℕ) (marks : List Bool) (values : List ℕ)
    (value_marks : List Bool) (address slot cell byte : ℕ) → IsKept old bytes marks values value_marks
    → Entered old index bytes marks values value_marks (address / block_size)
    → slot_in index.keys (address / block_size) ≡ Some slot → cell ≡ slot * block_size + address % block_size
    → slot < block_limit → items_of block_size index.keys (set bytes cell byte)
    (set marks cell true) ≡ with_one (items_of block_size old.keys bytes marks) address byte
byte_shown old index bytes marks values value_marks address slot cell byte kept in_entry found is within =
    items_of-store block_size (omega arith) index.keys bytes marks address slot cell byte found is
    (omega (arith, is, within, kept.byte_room)) (omega (arith, is, within, kept.mark_room))
    ∙ ap (λ (o : Overlay). with_one o address byte) in_entry.same_bytes

pub byte_kept : (old index : Slots) (bytes : List ℕ) (marks : List Bool) (values : List ℕ)
    (value_marks : List Bool) (address slot cell byte : ℕ) → IsKept old bytes marks values value_marks
    → Entered old index bytes marks values value_marks (address / block_size)
    → slot_in index.keys (address / block_size) ≡ Some slot → cell ≡ slot * block_size + address % block_size
    → slot < block_limit → IsKept index (set bytes cell byte) (set marks cell true) values value_marks
byte_kept old index bytes marks values value_marks address slot cell byte kept in_entry found is within =
    record {
      limit = in_entry.limit ∙ kept.limit;
      most = in_entry.most ∙ kept.most;
      byte_room = length-set bytes cell byte ∙ kept.byte_room;
      mark_room = length-set marks cell true ∙ kept.mark_room;
      value_room = kept.value_room;
      value_mark_room = kept.value_mark_room;
      unmarked = λ k le.
          get_or-set_other marks cell k true false (λ e. absurd (omega (arith, e, le, is, used)))
          ∙ kept.unmarked k (omega (arith, le, in_entry.longer));
      no_value = λ k le. kept.no_value k (omega (arith, le, in_entry.longer));
      stored = λ block.
          ap (λ (o : Overlay). has_block o block)
          (byte_shown old index bytes marks values value_marks address slot cell byte kept in_entry found
          is within)
          ∙ by_way (cases_eq block (address / block_size))
          (λ e. has_block-here (items_of block_size old.keys bytes marks) address byte block e
          ∙ sym (ap (is_key index.keys) e ∙ in_entry.here))
          (λ ne. has_block-other (items_of block_size old.keys bytes marks) address byte block ne
          ∙ kept.stored block ∙ sym (in_entry.others block ne));
    }
  where
    used : slot < length index.keys
    used = (slot_in-has index.keys (address / block_size) slot found).within

-- ---- a lasting value

pub value_shown : (index : Slots) (bytes : List ℕ) (marks : List Bool) (values : List ℕ)
    (value_marks : List Bool) (doubleword slot cell value : ℕ) → IsKept index bytes marks values value_marks
    → slot_in index.keys (doubleword / block_doublewords) ≡ Some slot
    → cell ≡ slot * block_doublewords + doubleword % block_doublewords → slot < block_limit
    → items_of block_doublewords index.keys (set values cell value) (set value_marks cell true) ≡ with_one
    (items_of block_doublewords index.keys values value_marks) doubleword value
value_shown index bytes marks values value_marks doubleword slot cell value kept found is within =
    items_of-store block_doublewords (omega arith) index.keys values value_marks doubleword slot cell value found
    is (omega (arith, is, within, kept.value_room)) (omega (arith, is, within, kept.value_mark_room))

pub value_kept : (index : Slots) (bytes : List ℕ) (marks : List Bool) (values : List ℕ)
    (value_marks : List Bool) (doubleword slot cell value : ℕ) → IsKept index bytes marks values value_marks
    → slot_in index.keys (doubleword / block_doublewords) ≡ Some slot
    → cell ≡ slot * block_doublewords + doubleword % block_doublewords
    → IsKept index bytes marks (set values cell value) (set value_marks cell true)
value_kept index bytes marks values value_marks doubleword slot cell value kept found is =
    record {
      limit = kept.limit;
      most = kept.most;
      byte_room = kept.byte_room;
      mark_room = kept.mark_room;
      value_room = length-set values cell value ∙ kept.value_room;
      value_mark_room = length-set value_marks cell true ∙ kept.value_mark_room;
      unmarked = kept.unmarked;
      no_value = λ k le.
          get_or-set_other value_marks cell k true false (λ e. absurd (omega (arith, e, le, is, used)))
          ∙ kept.no_value k le;
      stored = kept.stored;
    }
  where
    used : slot < length index.keys
    used = (slot_in-has index.keys (doubleword / block_doublewords) slot found).within

-- ---- bytes from an address on

pub has_block-with_bytes : (overlay : Overlay) (address : ℕ) (bytes : List ℕ) → 0 < length bytes
    → has_block (with_bytes overlay address bytes) (address / block_size) ≡ true
has_block-with_bytes overlay address bytes some =
    let same : address / block_size * block_size + address % block_size ≡ address = omega arith in
    has_block-at (with_bytes overlay address bytes) (address / block_size) (address % block_size)
    (omega arith)
    (ap (λ n. is_some (with_bytes overlay address bytes n)) same
    ∙ ap is_some (with_bytes-inside overlay address bytes address (omega arith) (omega (arith, some))))

-- ---- the entries in use alone are copied

module _ (index : Slots) (bytes : List ℕ) (marks : List Bool) (values : List ℕ) (value_marks : List Bool)
    (new_bytes new_values : List ℕ) (kept : IsKept index bytes marks values value_marks)
    (byte_room : length new_bytes ≡ block_limit * block_size)
    (value_room : length new_values ≡ block_limit * block_doublewords)
    (same_bytes : take (length index.keys * block_size) new_bytes ≡ take (length index.keys * block_size) bytes)
    (same_values : take (length index.keys * block_doublewords) new_values
    ≡ take (length index.keys * block_doublewords) values) where
  front_bytes : items_of block_size index.keys new_bytes marks ≡ items_of block_size index.keys bytes marks
  front_bytes =
      items_of-front block_size (omega arith) index.keys new_bytes bytes marks
      (λ slot rest lt under. omega (arith, lt, under)) same_bytes

  front_values : items_of block_doublewords index.keys new_values value_marks
      ≡ items_of block_doublewords index.keys values value_marks
  front_values =
      items_of-front block_doublewords (omega arith) index.keys new_values values value_marks
      (λ slot rest lt under. omega (arith, lt, under)) same_values

  pub front_kept : IsKept index new_bytes marks new_values value_marks
  front_kept =
      record {
        limit = kept.limit;
        most = kept.most;
        byte_room = byte_room;
        mark_room = kept.mark_room;
        value_room = value_room;
        value_mark_room = kept.value_mark_room;
        unmarked = kept.unmarked;
        no_value = kept.no_value;
        stored = λ block. ap (λ (o : Overlay). has_block o block) front_bytes ∙ kept.stored block;
      }

  pub front_shown : shown index.keys new_bytes marks new_values value_marks
      ≡ shown index.keys bytes marks values value_marks
  front_shown i = record { overlay = front_bytes i; lasting = front_values i }
