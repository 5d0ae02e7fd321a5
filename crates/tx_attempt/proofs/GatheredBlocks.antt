-- Blocks of stores that are gathered, and the room for them.
use Rattle.std.proofs.Common.{◌≡◌, ℕ, suc, ◌+◌, ◌<◌, ◌≤◌, ◌/◌, Bool, true, false, List, [], ◌∷◌, ◌++◌}
use Rattle.std.proofs.Common.{Option, refl, sym, ap, ◌∙◌, arith, length, take, inl, inr}
use Rattle.std.specs.Prelude.{nat_lt}
use Rattle.std.proofs.lemmas.Bool.{cases_eq, or_left, or_right}
use Rattle.std.proofs.lemmas.Bool.Decides.{nat_tests}
use Rattle.std.proofs.lemmas.List.{length-take-le}
use Rattle.bit_set.specs.Counts.{count_below, but_at, one_if}
use Rattle.bit_set.proofs.Counts.{count_le, count_but_at, but_at-other}
use Rattle.z_regs.specs.Prefix.{absolute_of}
use Rattle.store_cache.specs.Overlay.{Overlay, with_one, has_block, block_count}
use Rattle.store_cache.specs.Stores.{has_room}
use Rattle.store_cache.specs.Sizes.{storage_blocks, block_size, block_limit}
use Rattle.store_cache.proofs.Blocks.{has_block-other}
use Rattle.tx_serial.specs.Flat.{stores_at}
use Rattle.tx_progress.specs.Progress.{laying}
use Rattle.tx_attempt.specs.Gathered.{HasRoomFor}

pub laying-more : (prefix : Option ℕ) (a : ℕ) (xs : List ℕ) (b : ℕ) (o : Overlay)
    → laying o (stores_at prefix a (xs ++ b ∷ []))
    ≡ with_one (laying o (stores_at prefix a xs)) (absolute_of prefix (a + length xs)) b
laying-more prefix a [] b o =
    let same : a ≡ a + 0 = omega arith in ap (λ k. with_one o (absolute_of prefix k) b) same
laying-more prefix a (x ∷ xs) b o =
    let same : suc a + length xs ≡ a + suc (length xs) = omega arith in
    let next : Overlay = with_one o (absolute_of prefix a) x in
    laying-more prefix (suc a) xs b next
    ∙ ap (λ k. with_one (laying next (stores_at prefix (suc a) xs)) (absolute_of prefix k) b) same

-- one byte more brings no block but its own
pub one-block : (o : Overlay) (address byte : ℕ) (blocks : ℕ → Bool)
    → ((b : ℕ) → has_block o b ≡ true → blocks b ≡ true) → blocks (address / block_size) ≡ true
    → (b : ℕ) → has_block (with_one o address byte) b ≡ true → blocks b ≡ true
one-block o address byte blocks covers here b h = elim (cases_eq b (address / block_size)) [
  | inl same ↦ ap blocks same ∙ here
  | inr other ↦ covers b (sym (has_block-other o address byte b other) ∙ h)
]

pub laid-blocks : (prefix : Option ℕ) (a : ℕ) (xs : List ℕ) (o : Overlay) (blocks : ℕ → Bool)
    → ((b : ℕ) → has_block o b ≡ true → blocks b ≡ true)
    → ((k : ℕ) → k < length xs → blocks (absolute_of prefix (a + k) / block_size) ≡ true)
    → (b : ℕ) → has_block (laying o (stores_at prefix a xs)) b ≡ true → blocks b ≡ true
laid-blocks prefix a [] o blocks covers there = covers
laid-blocks prefix a (x ∷ xs) o blocks covers there =
    let some : 0 < suc (length xs) = omega arith in
    let same : a + 0 ≡ a = omega arith in
    let here : blocks (absolute_of prefix a / block_size) ≡ true =
    sym (ap (λ k. blocks (absolute_of prefix k / block_size)) same) ∙ there 0 some in
    laid-blocks prefix (suc a) xs (with_one o (absolute_of prefix a) x) blocks
    (one-block o (absolute_of prefix a) x blocks covers here)
    (λ k lt. let more : suc k < suc (length xs) = omega (arith, lt) in
    let next : suc a + k ≡ a + suc k = omega arith in
    ap (λ n. blocks (absolute_of prefix n / block_size)) next ∙ there (suc k) more)

-- a block among some that are not too many has room, where all stored ones are among these
room-by : (o : Overlay) (blocks : ℕ → Bool) (block : ℕ) (b : Bool) → has_block o block ≡ b → block < storage_blocks
    → count_below storage_blocks blocks ≤ block_limit → ((k : ℕ) → has_block o k ≡ true → blocks k ≡ true)
    → blocks block ≡ true → has_room o block ≡ true
room-by o blocks block true e lt few covers here =
    or_left (has_block o block) (nat_lt (block_count o) block_limit) e
room-by o blocks block false e lt few covers here =
    let one = count_but_at storage_blocks (has_block o) block true lt in
    let was : one_if (has_block o block) ≡ 0 = ap one_if e in
    let all = count_le storage_blocks (but_at (has_block o) block true) blocks (λ k under h. among k h) in
    let under : count_below storage_blocks (has_block o) < block_limit = omega (arith, one, was, all, few) in
    or_right (has_block o block) (nat_lt (block_count o) block_limit)
    (grind (arith, nat_tests, under))
  where
    among : (k : ℕ) → but_at (has_block o) block true k ≡ true → blocks k ≡ true
    among k h = elim (cases_eq k block) [
      | inl same ↦ ap blocks same ∙ here
      | inr other ↦ covers k (sym (but_at-other (has_block o) block true k other) ∙ h)
    ]

pub room-at : (o : Overlay) (prefix : Option ℕ) (first : ℕ) (bytes : List ℕ) (k address : ℕ)
    → HasRoomFor o prefix first (length bytes) → k < length bytes → address ≡ absolute_of prefix (first + k)
    → address < 1048576
    → has_room (laying o (stores_at prefix first (take k bytes))) (address / block_size) ≡ true
room-at o prefix first bytes k address r lt e inside =
    let size : length (take k bytes) ≡ k = length-take-le k bytes (omega (arith, lt)) in
    let under : address / block_size < storage_blocks = omega (arith, inside) in
    room-by (laying o (stores_at prefix first (take k bytes))) r.blocks (address / block_size) _ refl under
    r.few
    (laid-blocks prefix first (take k bytes) o r.blocks r.covers
    (λ j below. let within : j < length bytes = omega (arith, below, size, lt) in r.there j within))
    (ap (λ a. r.blocks (a / block_size)) e ∙ r.there k lt)

pub first-room : (o : Overlay) (prefix : Option ℕ) (first n address : ℕ) → HasRoomFor o prefix first n → 0 < n
    → address ≡ absolute_of prefix first → address < 1048576 → has_room o (address / block_size) ≡ true
first-room o prefix first n address r some e inside =
    let under : address / block_size < storage_blocks = omega (arith, inside) in
    let same : first + 0 ≡ first = omega arith in
    room-by o r.blocks (address / block_size) _ refl under r.few r.covers
    (ap (λ a. r.blocks (a / block_size)) (e ∙ ap (absolute_of prefix) (sym same)) ∙ r.there 0 some)
