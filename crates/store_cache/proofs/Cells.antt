-- The marked items of entries, after each change.
use Rattle.std.proofs.Common.{◌≡◌, ◌≢◌, ℕ, ◌+◌, ◌*◌, ◌/◌, ◌%◌, ◌<◌, ◌≤◌, Bool, true, false, cond, eqb}
use Rattle.std.proofs.Common.{List, [], ◌∷◌, ◌++◌, length, get_or, set, take, Option, Some, None}
use Rattle.std.proofs.Common.{sym, ap, ◌∙◌, arith}
use Rattle.std.specs.Option.{option_and_then}
use Rattle.std.proofs.lemmas.Bool.{cases_eq, cond-true, cond-false, eq-eqb, ne_eqb}
use Rattle.std.proofs.lemmas.List.{get_or-set_same, get_or-set_other, get_or-take}
use Rattle.std.proofs.lemmas.Nat.{same_from_place, div-add-mod'}
use Rattle.std.proofs.Math.Nat.{mod-lt}
use Rattle.slot_index.specs.Slots.{slot_in}
use borrow.Enum.Arm.{by_way}
use Rattle.slot_index.proofs.Found.{slot_in-has, slot_in-add, slot_in-none, slot_cases}
use Rattle.store_cache.specs.Overlay.{nothing, with_one}
use Rattle.store_cache.specs.Entries.{items_of}
use Rattle.store_cache.proofs.Overlays.{with_one-is}

-- the place in the lists of an item
abbrev pub cell_of : ℕ → ℕ → ℕ → ℕ
cell_of size slot place = slot * size + place % size

abbrev pub item_in : List ℕ → List Bool → ℕ → Option ℕ
item_in items marks cell = cond (get_or marks cell false) (Some (get_or items cell 0)) None

pub items_of-at : (size : ℕ) (blocks items : List ℕ) (marks : List Bool) (place slot : ℕ)
    → slot_in blocks (place / size) ≡ Some slot
    → items_of size blocks items marks place ≡ item_in items marks (cell_of size slot place)
unfolding items_of
items_of-at size blocks items marks place slot e =
    ap (option_and_then (λ s. item_in items marks (cell_of size s place))) e

pub items_of-none : (size : ℕ) (blocks items : List ℕ) (marks : List Bool) (place : ℕ)
    → slot_in blocks (place / size) ≡ None → items_of size blocks items marks place ≡ None
unfolding items_of
items_of-none size blocks items marks place e =
    ap (option_and_then (λ s. item_in items marks (cell_of size s place))) e

item_in-unmarked : (items : List ℕ) (marks : List Bool) (cell : ℕ) → get_or marks cell false ≡ false
    → item_in items marks cell ≡ None
item_in-unmarked items marks cell off = cond-false (get_or marks cell false) (Some (get_or items cell 0))
    None off

-- places of one block and one place in it are the same; so are those of one cell
pub same_place : (size : ℕ) → 0 < size → (blocks : List ℕ) (p q slot other : ℕ)
    → slot_in blocks (p / size) ≡ Some slot → slot_in blocks (q / size) ≡ Some other
    → cell_of size other q ≡ cell_of size slot p → q ≡ p
same_place size pos blocks p q slot other ep eq same =
    let parts = same_from_place other (q % size) slot (p % size) size (mod-lt q pos) (mod-lt p pos) same in
    let block : q / size ≡ p / size = sym (slot_in-has blocks (q / size) other eq).here
    ∙ ap (λ s. get_or blocks s 0) parts.0 ∙ (slot_in-has blocks (p / size) slot ep).here in
    sym (div-add-mod' q size) ∙ ap (λ n. n * size + q % size) block ∙ ap (λ n. p / size * size + n) parts.1
    ∙ div-add-mod' p size

-- ---- no entries

pub items_of-empty : (size : ℕ) (items : List ℕ) (marks : List Bool) → items_of size [] items marks ≡ nothing
items_of-empty size items marks i place =
    items_of-none size [] items marks place
    (slot_in-none [] (place / size) (λ j lt. absurd (omega (arith, lt)))) i

-- ---- entries in use alone matter

pub items_of-front : (size : ℕ) → 0 < size → (blocks items others : List ℕ) (marks : List Bool)
    → ((slot rest : ℕ) → slot < length blocks → rest < size → slot * size + rest < length blocks * size)
    → take (length blocks * size) items ≡ take (length blocks * size) others
    → items_of size blocks items marks ≡ items_of size blocks others marks
items_of-front size pos blocks items others marks within same i place = at_place i
  where
    at_place : items_of size blocks items marks place ≡ items_of size blocks others marks place
    at_place =
        by_way (slot_cases blocks (place / size))
        (λ found.
        let cell = cell_of size found.0 place in
        let under : cell < length blocks * size =
        within found.0 (place % size) (slot_in-has blocks (place / size) found.0 found.1).within (mod-lt place pos) in
        items_of-at size blocks items marks place found.0 found.1
        ∙ ap (λ n. cond (get_or marks cell false) (Some n) None) (sym (get_or-take (length blocks * size) items cell 0 under)
        ∙ ap (λ l. get_or l cell 0) same ∙ get_or-take (length blocks * size) others cell 0 under)
        ∙ sym (items_of-at size blocks others marks place found.0 found.1))
        (λ absent. items_of-none size blocks items marks place absent
        ∙ sym (items_of-none size blocks others marks place absent))

-- ---- a new entry, in which nothing is marked

pub items_of-add : (size : ℕ) (blocks items : List ℕ) (marks : List Bool) (block : ℕ)
    → slot_in blocks block ≡ None → ((cell : ℕ) → length blocks * size ≤ cell
    → get_or marks cell false ≡ false) → items_of size (blocks ++ block ∷ []) items marks ≡ items_of size
    blocks items marks
items_of-add size blocks items marks block none clean i place = at_place i
  where
    slot_now : slot_in (blocks ++ block ∷ []) (place / size) ≡ cond (eqb (place / size) block)
        (Some (length blocks)) (slot_in blocks (place / size))
    slot_now = slot_in-add blocks block (place / size) none

    at_place : items_of size (blocks ++ block ∷ []) items marks place ≡ items_of size blocks items marks place
    at_place =
        by_way (cases_eq (place / size) block)
        (λ e.
        items_of-at size (blocks ++ block ∷ []) items marks place (length blocks)
        (slot_now ∙ cond-true (eqb (place / size) block) (Some (length blocks))
        (slot_in blocks (place / size)) (eq-eqb (place / size) block e))
        ∙ item_in-unmarked items marks (cell_of size (length blocks) place)
        (clean (cell_of size (length blocks) place) (omega arith))
        ∙ sym (items_of-none size blocks items marks place (ap (slot_in blocks) e ∙ none)))
        (λ ne.
        let stays : slot_in (blocks ++ block ∷ []) (place / size) ≡ slot_in blocks (place / size) = slot_now
        ∙ cond-false (eqb (place / size) block) (Some (length blocks)) (slot_in blocks (place / size))
        (ne_eqb (place / size) block ne) in
        by_way (slot_cases blocks (place / size))
        (λ found. items_of-at size (blocks ++ block ∷ []) items marks place found.0 (stays ∙ found.1)
        ∙ sym (items_of-at size blocks items marks place found.0 found.1))
        (λ absent. items_of-none size (blocks ++ block ∷ []) items marks place (stays ∙ absent)
        ∙ sym (items_of-none size blocks items marks place absent)))

-- ---- an item stored and marked

pub items_of-store : (size : ℕ) → 0 < size
    → (blocks items : List ℕ) (marks : List Bool) (place slot cell number : ℕ)
    → slot_in blocks (place / size) ≡ Some slot → cell ≡ cell_of size slot place → cell < length items
    → cell < length marks → items_of size blocks (set items cell number) (set marks cell true) ≡ with_one
    (items_of size blocks items marks) place number
items_of-store size pos blocks items marks place slot cell number found is room mark_room =
    with_one-is (items_of size blocks (set items cell number) (set marks cell true))
    (items_of size blocks items marks) place number here others
  where
    here : items_of size blocks (set items cell number) (set marks cell true) place ≡ Some number
    here =
        items_of-at size blocks (set items cell number) (set marks cell true) place slot found
        ∙ ap (item_in (set items cell number) (set marks cell true)) (sym is)
        ∙ cond-true (get_or (set marks cell true) cell false) (Some (get_or (set items cell number) cell 0))
        None (get_or-set_same marks cell true false mark_room)
        ∙ ap Some (get_or-set_same items cell number 0 room)

    others : (q : ℕ) → q ≢ place → items_of size blocks (set items cell number) (set marks cell true)
        q ≡ items_of size blocks items marks q
    others q ne =
        by_way (slot_cases blocks (q / size))
        (λ at.
        let off : cell_of size at.0 q ≢ cell = λ e. ne
        (same_place size pos blocks place q slot at.0 found at.1 (e ∙ is)) in
        items_of-at size blocks (set items cell number) (set marks cell true) q at.0 at.1
        ∙ ap (λ m. cond m (Some (get_or (set items cell number) (cell_of size at.0 q) 0)) None)
        (get_or-set_other marks cell (cell_of size at.0 q) true false off)
        ∙ ap (λ n. cond (get_or marks (cell_of size at.0 q) false) (Some n) None)
        (get_or-set_other items cell (cell_of size at.0 q) number 0 off)
        ∙ sym (items_of-at size blocks items marks q at.0 at.1))
        (λ absent. items_of-none size blocks (set items cell number) (set marks cell true) q absent
        ∙ sym (items_of-none size blocks items marks q absent))
