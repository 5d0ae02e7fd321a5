-- Bytes that are stored together in one block.
use Rattle.std.proofs.Common.{◌≡◌, ◌≢◌, ℕ, ◌+◌, ◌-◌, ◌*◌, ◌/◌, ◌%◌, ◌<◌, ◌≤◌, Bool, true, false, cond}
use Rattle.std.proofs.Common.{List, length, get_or, Some, None, refl, sym, ap, ◌∙◌, arith}
use Rattle.std.specs.Prelude.{◌||◌}
use Rattle.std.proofs.lemmas.Bool.{cases_eq, cases_lt, cond-true, or_right}
use Rattle.bit_set.specs.Bits.{lies_in}
use Rattle.bit_set.proofs.Runs.{lies_inside, lies_before, lies_behind}
use Rattle.slot_index.specs.Slots.{Slots, slot_in, is_key}
use borrow.Enum.Arm.{by_way}
use Rattle.slot_index.proofs.Found.{slot_in-has, slot_cases}
use Rattle.store_cache.specs.Sizes.{block_size}
use Rattle.store_cache.specs.Overlay.{Overlay, with_bytes, has_block}
use Rattle.store_cache.specs.Entries.{items_of, IsKept}
use Rattle.store_cache.proofs.Overlays.{with_bytes-inside, with_bytes-before, with_bytes-behind}
use Rattle.store_cache.proofs.Blocks.{has_block-agree}
use Rattle.store_cache.proofs.Cells.{cell_of, item_in, items_of-at, items_of-none}
use Rattle.store_cache.proofs.Kept.{Entered, has_block-with_bytes}

-- bytes and marks of entries, with a run of bytes at a cell
pub record IsRun (items : List ℕ) (marks : List Bool) (now : List ℕ) (marked : List Bool) (cell : ℕ)
    (bytes : List ℕ) : Type 0 where
  pub bytes_are : (k : ℕ) → k < length bytes → get_or now (cell + k) 0 ≡ get_or bytes k 0
  pub before : (k : ℕ) → k < cell → get_or now k 0 ≡ get_or items k 0
  pub behind : (k : ℕ) → cell + length bytes ≤ k → get_or now k 0 ≡ get_or items k 0
  pub marks_are : (k : ℕ)
      → get_or marked k false ≡ (get_or marks k false || lies_in cell (cell + length bytes) k)

pub or_false : (a b : Bool) → b ≡ false → (a || b) ≡ a
or_false true b e = refl
or_false false b e = e

same_item : (a b : Bool) (x y : ℕ) → a ≡ b → x ≡ y → cond a (Some x) None ≡ cond b (Some y) None
same_item a b x y e f = λ i. cond (e i) (Some (f i)) None

module _ (items : List ℕ) (marks : List Bool) (now : List ℕ) (marked : List Bool) (cell : ℕ) (bytes : List ℕ) where
  -- an item that lies not in the run is as before
  item_before : IsRun items marks now marked cell bytes → (k : ℕ) → k < cell
      → item_in now marked k ≡ item_in items marks k
  item_before run k lt =
      same_item (get_or marked k false) (get_or marks k false) (get_or now k 0) (get_or items k 0)
      (run.marks_are k ∙ or_false (get_or marks k false) (lies_in cell (cell + length bytes) k)
      (lies_before cell (cell + length bytes) k lt))
      (run.before k lt)

  item_behind : IsRun items marks now marked cell bytes → (k : ℕ) → cell + length bytes ≤ k
      → item_in now marked k ≡ item_in items marks k
  item_behind run k le =
      same_item (get_or marked k false) (get_or marks k false) (get_or now k 0) (get_or items k 0)
      (run.marks_are k ∙ or_false (get_or marks k false) (lies_in cell (cell + length bytes) k)
      (lies_behind cell (cell + length bytes) k le))
      (run.behind k le)

  -- an item of the run is its byte
  item_inside : IsRun items marks now marked cell bytes → (k : ℕ) → k < length bytes
      → item_in now marked (cell + k) ≡ Some (get_or bytes k 0)
  item_inside run k lt =
      cond-true (get_or marked (cell + k) false) (Some (get_or now (cell + k) 0)) None
      (run.marks_are (cell + k)
      ∙ or_right (get_or marks (cell + k) false) (lies_in cell (cell + length bytes) (cell + k))
      (lies_inside cell (cell + length bytes) (cell + k) (omega arith) (omega (arith, lt))))
      ∙ ap Some (run.bytes_are k lt)

module _ (blocks items : List ℕ) (marks : List Bool) (now : List ℕ) (marked : List Bool)
    (address slot cell : ℕ) (bytes : List ℕ) where
  -- a run of bytes in one block is seen as bytes that are stored together
  pub run_shown : slot_in blocks (address / block_size) ≡ Some slot → cell ≡ slot * block_size + address % block_size
      → address % block_size + length bytes ≤ block_size → IsRun items marks now marked cell bytes
      → items_of block_size blocks now marked ≡ with_bytes (items_of block_size blocks items marks) address bytes
  run_shown found is fits run i place = at_place i
    where
      overlay : Overlay
      overlay = items_of block_size blocks items marks

      inside : address ≤ place → place < address + length bytes
          → items_of block_size blocks now marked place ≡ with_bytes overlay address bytes place
      inside from under =
          let block : place / block_size ≡ address / block_size = omega (arith, from, under, fits) in
          let there : cell_of block_size slot place ≡ cell + (place - address) =
          omega (arith, from, under, fits, is, block) in
          items_of-at block_size blocks now marked place slot (ap (slot_in blocks) block ∙ found)
          ∙ ap (item_in now marked) there
          ∙ item_inside items marks now marked cell bytes run (place - address) (omega (arith, from, under))
          ∙ sym (with_bytes-inside overlay address bytes place from under)

      same_block : (at : ℕ) → slot_in blocks (place / block_size) ≡ Some at → at ≡ slot
          → place / block_size ≡ address / block_size
      same_block at e same =
          sym (slot_in-has blocks (place / block_size) at e).here ∙ ap (λ s. get_or blocks s 0) same
          ∙ (slot_in-has blocks (address / block_size) slot found).here

      -- the cell of a place that has none of the bytes
      apart : (at : ℕ) → slot_in blocks (place / block_size) ≡ Some at
          → (address ≤ place → place < address + length bytes → ⊥)
          → item_in now marked (cell_of block_size at place) ≡ item_in items marks (cell_of block_size at place)
      apart at e out =
          by_way (cases_lt (cell_of block_size at place) cell)
          (λ low. item_before items marks now marked cell bytes run (cell_of block_size at place) low)
          (λ from. by_way (cases_lt (cell_of block_size at place) (cell + length bytes))
          (λ under.
          let same : at ≡ slot = omega (arith, from, under, is, fits) in
          let block = same_block at e same in
          absurd (out (omega (arith, from, is, same, block)) (omega (arith, under, is, same, block))))
          (λ past. item_behind items marks now marked cell bytes run (cell_of block_size at place) past))

      outside : (address ≤ place → place < address + length bytes → ⊥)
          → items_of block_size blocks now marked place ≡ overlay place
      outside out =
          by_way (slot_cases blocks (place / block_size))
          (λ at. items_of-at block_size blocks now marked place at.0 at.1 ∙ apart at.0 at.1 out
          ∙ sym (items_of-at block_size blocks items marks place at.0 at.1))
          (λ absent. items_of-none block_size blocks now marked place absent
          ∙ sym (items_of-none block_size blocks items marks place absent))

      at_place : items_of block_size blocks now marked place ≡ with_bytes overlay address bytes place
      at_place =
          by_way (cases_lt place address)
          (λ low. outside (λ from under. absurd (omega (arith, low, from)))
          ∙ sym (with_bytes-before overlay address bytes place low))
          (λ from. by_way (cases_lt place (address + length bytes))
          (λ under. inside from under)
          (λ past. outside (λ _ under. absurd (omega (arith, past, under)))
          ∙ sym (with_bytes-behind overlay address bytes place past)))

-- what is kept after a run of bytes in the block of an entry
module _ (old index : Slots) (bytes : List ℕ) (marks : List Bool) (values : List ℕ) (value_marks : List Bool)
    (address slot cell : ℕ) (run : List ℕ) where
  pub run_seen : Entered old index bytes marks values value_marks (address / block_size)
      → slot_in index.keys (address / block_size) ≡ Some slot → cell ≡ slot * block_size + address % block_size
      → address % block_size + length run ≤ block_size → (now : List ℕ) (marked : List Bool)
      → IsRun bytes marks now marked cell run
      → items_of block_size index.keys now marked
      ≡ with_bytes (items_of block_size old.keys bytes marks) address run
  run_seen in_entry found is fits now marked is_run =
      run_shown index.keys bytes marks now marked address slot cell run found is fits is_run
      ∙ ap (λ (o : Overlay). with_bytes o address run) in_entry.same_bytes

  pub run_kept : IsKept old bytes marks values value_marks
      → Entered old index bytes marks values value_marks (address / block_size)
      → slot_in index.keys (address / block_size) ≡ Some slot → cell ≡ slot * block_size + address % block_size
      → address % block_size + length run ≤ block_size → 0 < length run → (now : List ℕ) (marked : List Bool)
      → IsRun bytes marks now marked cell run → length now ≡ length bytes → length marked ≡ length marks
      → IsKept index now marked values value_marks
  run_kept kept in_entry found is fits some now marked is_run size mark_size =
      record {
        limit = in_entry.limit ∙ kept.limit;
        most = in_entry.most ∙ kept.most;
        byte_room = size ∙ kept.byte_room;
        mark_room = mark_size ∙ kept.mark_room;
        value_room = kept.value_room;
        value_mark_room = kept.value_mark_room;
        unmarked = λ k le.
            is_run.marks_are k
            ∙ or_false (get_or marks k false) (lies_in cell (cell + length run) k)
            (lies_behind cell (cell + length run) k (omega (arith, le, is, used, fits)))
            ∙ kept.unmarked k (omega (arith, le, in_entry.longer));
        no_value = λ k le. kept.no_value k (omega (arith, le, in_entry.longer));
        stored = λ block.
            ap (λ (o : Overlay). has_block o block) (run_seen in_entry found is fits now marked is_run)
            ∙ by_way (cases_eq block (address / block_size))
            (λ e. ap (has_block (with_bytes overlay address run)) e ∙ has_block-with_bytes overlay address run some
            ∙ sym (ap (is_key index.keys) e ∙ in_entry.here))
            (λ ne. other block ne ∙ kept.stored block ∙ sym (in_entry.others block ne));
      }
    where
      used : slot < length index.keys
      used = (slot_in-has index.keys (address / block_size) slot found).within

      overlay : Overlay
      overlay = items_of block_size old.keys bytes marks

      other : (block : ℕ) → block ≢ (address / block_size)
          → has_block (with_bytes overlay address run) block ≡ has_block overlay block
      other block ne =
          has_block-agree (with_bytes overlay address run) overlay block
          (λ at lt. by_way (cases_lt (block * block_size + at) address)
          (λ low. with_bytes-before overlay address run (block * block_size + at) low)
          (λ from. with_bytes-behind overlay address run (block * block_size + at)
          (omega (arith, from, ne, lt, fits))))
