-- What an instruction, a block and an interruption change lies in the lines that they store into.
use Rattle.std.proofs.Common.{◌≡◌, ℕ, zero, suc, ◌+◌, ◌-◌, ◌/◌, ◌≤◌, Bool, true, false, List, [], ◌∷◌, ◌++◌}
use Rattle.std.proofs.Common.{Option, Some, None, refl, sym, ap, ◌∙◌, arith, length, take, drop}
use Rattle.std.specs.Prelude.{◌||◌, ◌&&◌, cond, ◌==◌, unwrap_or, nat_le}
use Rattle.std.specs.List.{list_any}
use Rattle.std.proofs.lemmas.Bool.{true≢false, or_left, or_right}
use Rattle.std.proofs.lemmas.List.{length-take, append-nil}
use Rattle.std.proofs.lemmas.List.Folds.{list_any-append}
use Rattle.z_regs.specs.Prefix.{absolute_of, is_prefix, area_size}
use Rattle.z_regs.specs.Absolute.{absolute_range, absolute_ranges, part_of, to_edge}
use Rattle.z_regs.specs.declared.ranges.Range.{Range}
use Rattle.z_instr.specs.Operands.{from_up}
use Rattle.tx_serial.specs.Overlay.{Overlay, Store, overlay_of, nothing}
use Rattle.tx_footprint.specs.Places.{has_place, stores}
use Rattle.tx_footprint.specs.Sizes.{line_size}
use Rattle.tx_progress.specs.Local.{Local, block_stored, storage_with}
use Rattle.tx_serial.specs.Flat.{Pending, Storage, stores_at, operand_stores, laid_over, with_bytes_at}
use Rattle.tx_serial.specs.Stored.{has_store_in}
use Rattle.tx_progress.specs.Followed.{ChangesIn, beside_in}
use Rattle.tx_progress.specs.Progress.{seen_through}
use Rattle.tx_progress.proofs.SeenStores.{laid_is_seen}
use Rattle.tx_serial.proofs.StoredPlaces.{AreSmall}
use Rattle.tx_progress.proofs.Lines.{seen_test, range_there}
use Rattle.tx_progress.proofs.Facts.{has_store}

-- ---- stores of operands lie in their lines

more_up : (test : ℕ → Bool) (n m a : ℕ) → n ≤ m → list_any test (from_up a n) ≡ true
    → list_any test (from_up a m) ≡ true
more_up test zero m a h e = absurd (true≢false (sym e))
more_up test (suc n) zero a h e = absurd (omega (arith, h))
more_up test (suc n) (suc m) a h e = first_or (test a) (list_any test (from_up (suc a) n)) e
    (λ later. more_up test n m (suc a) (omega (arith, h)) later)
  where
    first_or : (x y : Bool) → (x || y) ≡ true
        → (y ≡ true → list_any test (from_up (suc a) m) ≡ true)
        → (x || list_any test (from_up (suc a) m)) ≡ true
    first_or true y e f = refl
    first_or false y e f = f e

stored_at : (test : ℕ → Bool) (prefix : Option ℕ) (bytes : List ℕ) (a : ℕ)
    → list_any (λ s. test s.address) (stores_at prefix a bytes)
    ≡ list_any (seen_test prefix test) (from_up a (length bytes))
stored_at test prefix [] a = refl
stored_at test prefix (b ∷ bs) a = ap (λ t. test (absolute_of prefix a) || t) (stored_at test prefix bs (suc
    a))

-- the pieces of a range are stored where it is
stored_pieces : (test : Range → Bool) (prefix : Option ℕ) (r : Range) → r.store ≡ true
    → list_any test (absolute_range prefix r) ≡ true
    → list_any (λ q. q.store && test q) (absolute_range prefix r) ≡ true
unfolding absolute_range
stored_pieces test None r s h = ap (λ x. (x && test r) || false) s ∙ h
stored_pieces test (Some p) r s h = by (nat_le r.length (to_edge r.first)) h
  where
    by : (b : Bool) → list_any test (cond b
        (part_of r (absolute_of (Some p) r.first) r.length ∷ [])
        (part_of r (absolute_of (Some p) r.first) (to_edge r.first) ∷
        part_of r (absolute_of (Some p) (r.first + to_edge r.first)) (r.length - to_edge r.first) ∷ [])) ≡
        true
        → list_any (λ q. q.store && test q) (cond b
        (part_of r (absolute_of (Some p) r.first) r.length ∷ [])
        (part_of r (absolute_of (Some p) r.first) (to_edge r.first) ∷
        part_of r (absolute_of (Some p) (r.first + to_edge r.first)) (r.length - to_edge r.first) ∷ [])) ≡
        true
    by true g = ap (λ x. (x && test (part_of r (absolute_of (Some p) r.first) r.length)) || false) s ∙ g
    by false g =
        ap (λ x. (x && test (part_of r (absolute_of (Some p) r.first) (to_edge r.first))) ||
        ((x && test (part_of r (absolute_of (Some p) (r.first + to_edge r.first)) (r.length - to_edge
        r.first)))
        || false)) s ∙ g

abbrev in_line : ℕ → ℕ → Bool
in_line line a = a / line_size == line

one_stored : (prefix : Option ℕ) (r : Range) (bytes : List ℕ) (line : ℕ) → is_prefix prefix ≡ true
    → r.length ≤ area_size → r.store ≡ true → length bytes ≤ r.length
    → has_store_in line_size (stores_at prefix r.first bytes) line ≡ true
    → stores (absolute_range prefix r) line ≡ true
unfolding has_place
one_stored prefix r bytes line ok small s few h =
    stored_pieces (λ q. has_place line_size q line) prefix r s
    (sym (range_there (in_line line) prefix r ok small)
    ∙ more_up (seen_test prefix (in_line line)) (length bytes) r.length r.first few
    (sym (stored_at (in_line line) prefix bytes r.first) ∙ h))

either : (x y : Bool) (a b : Bool) → (x || y) ≡ true → (x ≡ true → a ≡ true) → (y ≡ true → b ≡ true)
    → (a || b) ≡ true
either true y a b h f g = or_left a b (f refl)
either false y a b h f g = or_right a b (g h)

pub stores_in_lines : (prefix : Option ℕ) (ranges : List Range) (bytes : List ℕ) (line : ℕ)
    → is_prefix prefix ≡ true → AreSmall ranges
    → has_store_in line_size (operand_stores prefix ranges bytes) line ≡ true
    → stores (absolute_ranges prefix ranges) line ≡ true
stores_in_lines prefix [] bytes line ok small h = h
stores_in_lines prefix (r ∷ rs) bytes line ok small h =
    list_any-append (λ q. q.store && has_place line_size q line) (absolute_range prefix r)
    (absolute_ranges prefix rs)
    ∙ by r.store refl h (λ others g. stores_in_lines prefix rs others line ok small.1 g)
  where
    few : length (take r.length bytes) ≤ r.length
    few = let e = length-take r.length bytes in omega (arith, e)

    by : (b : Bool) → r.store ≡ b
        → has_store_in line_size (cond b
        (stores_at prefix r.first (take r.length bytes) ++ operand_stores prefix rs (drop r.length bytes))
        (operand_stores prefix rs bytes)) line ≡ true
        → ((others : List ℕ) → has_store_in line_size (operand_stores prefix rs others) line ≡ true
        → stores (absolute_ranges prefix rs) line ≡ true)
        → (stores (absolute_range prefix r) line || stores (absolute_ranges prefix rs) line) ≡ true
    by true s g more =
        either (has_store_in line_size (stores_at prefix r.first (take r.length bytes)) line)
        (has_store_in line_size (operand_stores prefix rs (drop r.length bytes)) line) _ _
        (sym (list_any-append (λ x. in_line line x.address) (stores_at prefix r.first (take r.length bytes))
        (operand_stores prefix rs (drop r.length bytes))) ∙ g)
        (one_stored prefix r (take r.length bytes) line ok small.0 s few)
        (more (drop r.length bytes))
    by false s g more =
        or_right (stores (absolute_range prefix r) line) (stores (absolute_ranges prefix rs) line) (more
        bytes g)

-- ---- bytes beside stores stay

unseen : (o : Option ℕ) (d : ℕ) → ((byte : ℕ) → o ≡ Some byte → ⊥) → unwrap_or o d ≡ d
unseen None d none = refl
unseen (Some byte) d none = absurd (none byte refl)

-- an overlay whose bytes lie in some lines changes those alone
pub seen_in : (overlay : Overlay) (lines : ℕ → Bool) (storage : Storage)
    → ((a byte : ℕ) → overlay a ≡ Some byte → lines (a / line_size) ≡ true)
    → ChangesIn lines storage (seen_through overlay storage)
seen_in overlay lines storage all a h =
    unseen (overlay a) (storage a) (λ byte e. true≢false (sym (all a byte e) ∙ h))

pub laid_in : (stores : List Store) (lines : ℕ → Bool) (storage : Storage)
    → ((line : ℕ) → has_store_in line_size stores line ≡ true → lines line ≡ true)
    → ChangesIn lines storage (laid_over storage stores)
laid_in stores lines storage all a h =
    ap (λ s. s a) (laid_is_seen stores storage)
    ∙ seen_in (overlay_of stores) lines storage
    (λ b byte e. all (b / line_size) (has_store nothing stores line_size b byte e refl)) a h

-- bytes that go to a real address
pub placed_in : (prefix : Option ℕ) (first : ℕ) (bytes : List ℕ) (storage : Storage) (r : Range)
    → is_prefix prefix ≡ true → r.first ≡ first → r.length ≡ length bytes → r.length ≤ area_size
    → r.store ≡ true
    → ChangesIn (stores (absolute_range prefix r)) storage (with_bytes_at prefix first bytes storage)
placed_in prefix first bytes storage r ok at size small s =
    laid_in (stores_at prefix first bytes) (stores (absolute_range prefix r)) storage
    (λ line h. one_stored prefix r bytes line ok small s (omega (arith, size))
    (ap (λ a. has_store_in line_size (stores_at prefix a bytes) line) at ∙ h))

one_range : (prefix : Option ℕ) (r : Range) (line : ℕ)
    → stores (absolute_ranges prefix (r ∷ [])) line ≡ stores (absolute_range prefix r) line
one_range prefix r line = ap (λ rs. stores rs line) (append-nil (absolute_range prefix r))

pub placed_in_lines : (prefix : Option ℕ) (r : Range) (bytes : List ℕ) (storage : Storage)
    → is_prefix prefix ≡ true → r.length ≡ length bytes → r.length ≤ area_size → r.store ≡ true
    → ChangesIn (stores (absolute_ranges prefix (r ∷ []))) storage (with_bytes_at prefix r.first bytes
    storage)
placed_in_lines prefix r bytes storage ok size small s a h =
    placed_in prefix r.first bytes storage r ok refl size small s a
    (sym (one_range prefix r (a / line_size)) ∙ h)

pub block_in_lines : (storage : Storage) (locals : ℕ → Local) (i : ℕ) (b : Pending) (r : Range)
    → is_prefix (locals i).cpu.prefix ≡ true → (locals i).pending ≡ Some b → r.first ≡ b.address
    → r.length ≡ length b.bytes → r.length ≤ area_size → r.store ≡ true
    → ChangesIn (stores (absolute_ranges (locals i).cpu.prefix (r ∷ []))) storage
    (block_stored (beside_in storage locals i)).storage
unfolding block_stored
block_in_lines storage locals i b r ok e at size small s a h =
    ap (λ o. storage_with (locals i).cpu.prefix o storage a) e
    ∙ ap (λ x. with_bytes_at (locals i).cpu.prefix x b.bytes storage a) (sym at)
    ∙ placed_in_lines (locals i).cpu.prefix r b.bytes storage ok size small s a h
