-- Marked items laid one after the other, by the marks below a place.
use Rattle.std.proofs.Common.{◌≡◌, ◌≢◌, ℕ, zero, suc, ◌+◌, ◌*◌, ◌/◌, ◌%◌, ◌<◌, ◌≤◌, Bool, true, false, cond}
use Rattle.std.proofs.Common.{List, length, get_or, take, Some, None, refl, sym, ap}
use Rattle.std.proofs.Common.{◌∙◌, arith}
use Rattle.std.specs.Prelude.{◌||◌}
use Rattle.std.proofs.lemmas.Bool.{cases_lt, cond-true, or_right, true≢false}
use Rattle.std.proofs.lemmas.List.{get_or-take, get_or_past, length-take}
use Rattle.std.proofs.lemmas.Nat.{mul-add-lt}
use Rattle.std.proofs.Math.Nat.{mod-lt, mul_comm}
use Rattle.bit_set.specs.Bits.{IsNext, NoneMarked, lies_in}
use Rattle.bit_set.proofs.Runs.{lies_inside, lies_before, lies_behind}
use Rattle.slot_index.specs.Slots.{slot_in}
use borrow.Enum.Arm.{by_way}
use Rattle.slot_index.proofs.Found.{slot_in-has, slot_cases}
use Rattle.z_regs.specs.Written.{range_at}
use Rattle.z_regs.proofs.OneArea.{in_range, length-range_at}
use Rattle.store_cache.specs.Sizes.{block_size}
use Rattle.store_cache.specs.Overlay.{nothing, with_one, with_bytes}
use Rattle.store_cache.specs.Entries.{items_of}
use Rattle.store_cache.proofs.Overlays.{with_one-is}
use Rattle.store_cache.proofs.Cells.{cell_of, item_in, items_of-at, items_of-none, same_place}
use Rattle.store_cache.proofs.Runs.{or_false, run_shown}

-- the marks below a place
below : (marks : List Bool) (n cell : ℕ) → cell < n
    → get_or (take n marks) cell false ≡ get_or marks cell false
below marks n cell lt = get_or-take n marks cell false lt

past : (marks : List Bool) (n cell : ℕ) → n ≤ cell → get_or (take n marks) cell false ≡ false
past marks n cell le = get_or_past (take n marks) cell false (omega (arith, length-take n marks, le))

pub none_below : (size : ℕ) (blocks items : List ℕ) (marks : List Bool)
    → items_of size blocks items (take 0 marks) ≡ nothing
none_below size blocks items marks i place = at_place i
  where
    at_place : items_of size blocks items (take 0 marks) place ≡ None
    at_place =
        by_way (slot_cases blocks (place / size))
        (λ at. items_of-at size blocks items (take 0 marks) place at.0 at.1)
        (λ absent. items_of-none size blocks items (take 0 marks) place absent)

-- a run from a marked place on has one at least
pub some_run : (marks : List Bool) (cell n : ℕ) → get_or marks cell false ≡ true
    → (cell % 64 + n < 64 → get_or marks (cell + n) false ≡ false) → 1 ≤ n
some_run marks cell zero on end =
    let same : cell ≡ cell + 0 = omega arith in
    absurd (true≢false (sym on ∙ ap (λ k. get_or marks k false) same ∙ end (omega arith)))
some_run marks cell (suc n) on end = omega arith

-- the next marked item
pub one_below : (size : ℕ) → 0 < size → (blocks items : List ℕ) (marks : List Bool)
    (from end cell place slot : ℕ) → IsNext marks from end cell → slot_in blocks (place / size) ≡ Some slot
    → cell_of size slot place ≡ cell → items_of size blocks items (take (cell + 1) marks) ≡ with_one
    (items_of size blocks items (take from marks)) place (get_or items cell 0)
one_below size pos blocks items marks from end cell place slot next found is =
    with_one-is (items_of size blocks items (take (cell + 1) marks))
    (items_of size blocks items (take from marks)) place (get_or items cell 0) here others
  where
    here : items_of size blocks items (take (cell + 1) marks) place ≡ Some (get_or items cell 0)
    here =
        items_of-at size blocks items (take (cell + 1) marks) place slot found
        ∙ ap (item_in items (take (cell + 1) marks)) is
        ∙ cond-true (get_or (take (cell + 1) marks) cell false) (Some (get_or items cell 0)) None
        (below marks (cell + 1) cell (omega arith) ∙ next.marked)

    marks_alike : (other : ℕ) → other ≢ cell
        → get_or (take (cell + 1) marks) other false ≡ get_or (take from marks) other false
    marks_alike other off =
        by_way (cases_lt other from)
        (λ lt. below marks (cell + 1) other (omega (arith, lt, next.from_on))
        ∙ sym (below marks from other lt))
        (λ le. by_way (cases_lt other cell)
        (λ between. below marks (cell + 1) other (omega (arith, between)) ∙ next.first other le between
        ∙ sym (past marks from other le))
        (λ over. past marks (cell + 1) other (omega (arith, over, off)) ∙ sym (past marks from other le)))

    others : (q : ℕ) → q ≢ place → items_of size blocks items (take (cell + 1) marks) q ≡ items_of size
        blocks items (take from marks) q
    others q ne =
        by_way (slot_cases blocks (q / size))
        (λ at.
        let off : cell_of size at.0 q ≢ cell = λ e. ne
        (same_place size pos blocks place q slot at.0 found at.1 (e ∙ sym is)) in
        items_of-at size blocks items (take (cell + 1) marks) q at.0 at.1
        ∙ ap (λ m. cond m (Some (get_or items (cell_of size at.0 q) 0)) None)
        (marks_alike (cell_of size at.0 q) off)
        ∙ sym (items_of-at size blocks items (take from marks) q at.0 at.1))
        (λ absent. items_of-none size blocks items (take (cell + 1) marks) q absent
        ∙ sym (items_of-none size blocks items (take from marks) q absent))

-- the next marked bytes, all of one block
pub run_below : (blocks items : List ℕ) (marks : List Bool) (from end cell n place slot : ℕ)
    → IsNext marks from end cell
    → ((k : ℕ) → cell ≤ k → k < cell + n → get_or marks k false ≡ true) → cell + n ≤ length items
    → slot_in blocks (place / block_size) ≡ Some slot → cell ≡ cell_of block_size slot place
    → place % block_size + n ≤ block_size
    → items_of block_size blocks items (take (cell + n) marks)
    ≡ with_bytes (items_of block_size blocks items (take from marks)) place (range_at items cell n)
run_below blocks items marks from end cell n place slot next run room found is fits =
    run_shown blocks items (take from marks) items (take (cell + n) marks) place slot cell
    (range_at items cell n) found is (omega (arith, size, fits)) (record {
      bytes_are = λ k lt. sym (in_range items cell n k (omega (arith, size, lt)));
      before = λ k lt. refl;
      behind = λ k le. refl;
      marks_are = λ k. ap (λ m. get_or (take (cell + m) marks) k false) (sym size) ∙ marked k;
    })
  where
    size : length (range_at items cell n) ≡ n
    size = length-range_at items cell n room

    was : (k : ℕ) → cell ≤ k → get_or (take from marks) k false ≡ false
    was k le = past marks from k (omega (arith, le, next.from_on))

    marked : (k : ℕ) → get_or (take (cell + length (range_at items cell n)) marks) k false
        ≡ (get_or (take from marks) k false || lies_in cell (cell + length (range_at items cell n)) k)
    marked k =
        let stop = cell + length (range_at items cell n) in
        by_way (cases_lt k cell)
        (λ low.
        below marks stop k (omega (arith, low))
        ∙ by_way (cases_lt k from)
        (λ lt. sym (below marks from k lt))
        (λ le. next.first k le low ∙ sym (past marks from k le))
        ∙ sym (or_false (get_or (take from marks) k false) (lies_in cell stop k) (lies_before cell stop k low)))
        (λ le. by_way (cases_lt k stop)
        (λ under.
        below marks stop k under ∙ run k le (omega (arith, under, size))
        ∙ sym (or_right (get_or (take from marks) k false) (lies_in cell stop k) (lies_inside cell stop k le under)))
        (λ over.
        past marks stop k over ∙ sym (was k le)
        ∙ sym (or_false (get_or (take from marks) k false) (lies_in cell stop k) (lies_behind cell stop k over))))

-- no marked item is left
pub all_below : (size : ℕ) → 0 < size → (blocks items : List ℕ) (marks : List Bool) (from end : ℕ)
    → end ≡ length blocks * size → NoneMarked marks from end
    → items_of size blocks items (take from marks) ≡ items_of size blocks items marks
all_below size pos blocks items marks from end is none i place = at_place i
  where
    marks_alike : (cell : ℕ) → cell < end → get_or (take from marks) cell false ≡ get_or marks cell false
    marks_alike cell lt =
        by_way (cases_lt cell from)
        (λ under. below marks from cell under)
        (λ le. past marks from cell le ∙ sym (none cell le lt))

    at_place : items_of size blocks items (take from marks) place ≡ items_of size blocks items marks place
    at_place =
        by_way (slot_cases blocks (place / size))
        (λ at.
        let under : cell_of size at.0 place < size * length blocks = mul-add-lt at.0 size (place % size)
        (length blocks) (slot_in-has blocks (place / size) at.0 at.1).within (mod-lt place pos) in
        items_of-at size blocks items (take from marks) place at.0 at.1
        ∙ ap (λ m. cond m (Some (get_or items (cell_of size at.0 place) 0)) None)
        (marks_alike (cell_of size at.0 place) (omega (arith, under, is, mul_comm size (length blocks))))
        ∙ sym (items_of-at size blocks items marks place at.0 at.1))
        (λ absent. items_of-none size blocks items (take from marks) place absent
        ∙ sym (items_of-none size blocks items marks place absent))
