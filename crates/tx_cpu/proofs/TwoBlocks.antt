-- An instruction on two blocks of bytes goes where these lie where they may be touched, outside transactions.
use Rattle.std.proofs.Common.{◌≡◌, ℕ, ◌+◌, ◌-◌, ◌/◌, ◌%◌, ◌<◌, ◌≤◌, Bool, true, false, List, [], ◌∷◌, map}
use Rattle.std.proofs.Common.{None, refl, sym, ap, ◌∙◌, arith, length, get_or}
use Rattle.std.specs.Prelude.{◌&&◌, ◌||◌, not, nat_eq, nat_lt, nat_le}
use Rattle.std.specs.List.{list_any, list_all}
use Rattle.std.proofs.lemmas.Bool.{and_parts, not-true}
use Rattle.std.proofs.lemmas.Bool.Decides.{nat_tests}
use Rattle.z_instr.specs.declared.instr.Instr.{Instr}
use Rattle.z_instr.specs.declared.operand.Demand.{Demand}
use Rattle.z_instr.specs.Facts.{has_two_lists}
use Rattle.z_instr.specs.Operands.{Span, span, IsSmall, pieces, first_address, second_address, length_of, spans_in}
use Rattle.z_instr.specs.Operands.{where_wrong, specification, addressing, protection, operation, unspecified_in, unspecified}
use Rattle.z_instr.specs.Operands.{is_inside, is_stored_into, tested_spans, is_refused_service, inaccessible_in, inaccessible}
use Rattle.z_instr.specs.Access.{accessible_pages, text_pages, unfetched, lies_in}
use Rattle.z_instr.specs.Table.{Entry, entry_at}
use Rattle.z_touch.specs.Refusals.{range_of}
use Rattle.z_touch.proofs.Fetches.{first_decides}
use Rattle.z_touch.proofs.SmallRanges.{inside_without, all-pieces, any-without}
use Rattle.tx_journal.specs.Image as image
use Rattle.tx_serial.specs.Fate.{Goes}
use Rattle.tx_progress.specs.Progress.{Progress}
use Rattle.tx_progress.specs.Trial.{fate_by_progress}
use Rattle.tx_program.specs.Shapes.{IsReady}
use Rattle.tx_program.specs.declared.ready.Ready.{Ready}
use Rattle.tx_attempt.specs.Storages.{storage_of}
use Rattle.tx_cpu.specs.Admits.{Admits}
use Rattle.tx_cpu.specs.Pairs.{IsPairOf, IsOpenPair, pair_operands, pair_ranges}
use Rattle.tx_cpu.proofs.Passing.{open-page, closed-page, ArePassed, tests-pass, passing-goes}
use Rattle.tx_cpu.proofs.Programs.{length_some, length_few}

pub pairs-have-lists : (store : Bool) → has_two_lists (pair_operands store) ≡ true
pairs-have-lists true = refl
pairs-have-lists false = refl

-- ---- the fetch

-- an instruction is fetched whose bytes all lie in one text page
pub fetched-there : (text : List ℕ) (a n : ℕ) → 0 < n → n ≤ 6 → 8192 ≤ a → a + 256 ≤ 1048576 → (a % 2 ≡ 1 → ⊥)
    → a % 4096 ≤ 4090 → list_any (nat_eq (a / 4096)) text ≡ true
    → unfetched (accessible_pages None) (text_pages None text) a n ≡ None
unfolding unfetched
fetched-there text a n some few low ends odd within h =
    let even : nat_eq (a % 2) 1 ≡ false = grind (arith, nat_tests, odd) in
    let pages = accessible_pages None in
    let texts = text_pages None text in
    let below : nat_lt (a / 4096) 256 ≡ true = (let lt : a / 4096 < 256 = omega (arith, ends) in grind (arith, nat_tests)) in
    let above : nat_le 2 (a / 4096) ≡ true = (let le : 2 ≤ a / 4096 = omega (arith, low) in grind (arith, nat_tests)) in
    let usable : lies_in pages a ≡ true = any-without (a / 4096) ∙ (λ k. above k && below k) in
    let readable : lies_in texts a ≡ true = closed-page text (a / 4096) below h in
    (λ k. where_wrong (even k) specification (first_decides pages texts a n some (omega (arith, few, within)) k))
    ∙ (λ k. where_wrong (not (usable k)) addressing (where_wrong (not (readable k)) protection None))

-- ---- the blocks

-- none passes a test that all fail
none-passes : (t : ℕ → Bool) (xs : List ℕ) → list_all (λ x. not (t x)) xs ≡ true → list_any t xs ≡ false
none-passes t [] h = refl
none-passes t (x ∷ xs) h =
    let p = and_parts (not (t x)) (list_all (λ y. not (t y)) xs) h in
    λ k. not-true (t x) p.0 k || none-passes t xs p.1 k

-- a block is not stored into text whose first and last byte are in no text page
apart : (text : List ℕ) (store : Bool) (first n : ℕ) → IsSmall (span first n store)
    → (store ≡ true → list_any (nat_eq (first / 4096)) text ≡ false)
    → (store ≡ true → list_any (nat_eq ((first + n - 1) / 4096)) text ≡ false)
    → is_stored_into (text_pages None text) (span first n store) ≡ false
apart text false first n small here there = refl
apart text true first n small here there =
    let t : ℕ → Bool = λ p. list_any (nat_eq p) (text_pages None text) in
    let one : t (first / 4096) ≡ false = open-page text (first / 4096) (here refl) in
    let other : t ((first + n - 1) / 4096) ≡ false = open-page text ((first + n - 1) / 4096) (there refl) in
    none-passes t (pieces 4096 (span first n true))
    (all-pieces (λ p. not (t p)) (span first n true) small ∙ (λ k. not (one k) && not (other k)))

inside : (first n : ℕ) (store : Bool) → IsSmall (span first n store) → 8192 ≤ first → first + 256 ≤ 1048576
    → is_inside (accessible_pages None) (span first n store) ≡ true
inside first n store small low ends =
    let most = small.most in
    (inside_without (span first n store) small).1 (low, omega (arith, ends, most))

abbrev pair_spans : Bool → ℕ → ℕ → ℕ → List Span
pair_spans store first second n = span first n store ∷ span second n false ∷ []

open-passed : (text : List ℕ) (store : Bool) (first second n : ℕ) → 0 < n → n ≤ 256
    → IsOpenPair store first second n text → ArePassed text (pair_spans store first second n)
open-passed text store first second n some most o =
    let one : IsSmall (span first n store) = record { some = some; most = most } in
    let other : IsSmall (span second n false) = record { some = some; most = most } in
    let a = inside first n store one o.first_low o.first_ends in
    let b = inside second n false other o.second_low o.second_ends in
    let free = apart text store first n one o.free_first o.free_last in
    record { inside = λ k. a k && (b k && true); apart = λ k. free k || false }

-- ---- an instruction on two blocks

spans-of : (store : Bool) (i : Instr) (general : List ℕ) (code : ℕ) → spans_in (pair_operands store) i general code
    ≡ pair_spans store (first_address i general) (second_address i general) (length_of i)
unfolding spans_in
spans-of true i general code = refl
spans-of false i general code = refl

module _ (i : Instr) (general : List ℕ) (store : Bool) (first second n : ℕ)
    (pair : IsPairOf i general store first second n) where
  abbrev row : Entry
  row = entry_at i.op.number

  spans-are : (code : ℕ) → spans_in row.operands i general code ≡ pair_spans store first second n
  spans-are code =
      ap (λ o. spans_in o i general code) pair.row.operands ∙ spans-of store i general code
      ∙ (λ k. pair_spans store (sym pair.first_is k) (sym pair.second_is k) (sym pair.size_is k))

  ranges-are : (code : ℕ) → pair_ranges store first second n ≡ map range_of (spans_in row.operands i general code)
  ranges-are code = sym (ap (map range_of) (spans-are code))

  specified : (depth : ℕ) → unspecified i general depth ≡ None
  unfolding unspecified_in
  specified depth = ap (λ (d : Demand). unspecified_in d row.operands i general depth) pair.row.demand

  usable : (text : List ℕ) (code depth : ℕ) → IsOpenPair store first second n text
      → inaccessible i general code depth (accessible_pages None) (text_pages None text) ≡ None
  unfolding inaccessible_in
  usable text code depth o =
      (λ k. where_wrong (not (list_all (is_inside (accessible_pages None))
      (tested_spans (pair.row.demand k) (spans-are code k) i general depth))) addressing
      (where_wrong (list_any (is_stored_into (text_pages None text))
      (tested_spans (pair.row.demand k) (spans-are code k) i general depth)) protection
      (where_wrong (is_refused_service (pair.row.demand k) i) operation None)))
      ∙ tests-pass text (pair_spans store first second n)
      (open-passed text store first second n pair.some pair.most o)

-- it goes
pub pair-goes : (text bytes : List ℕ) (q : Progress) (r : Ready) (store : Bool) (first second n : ℕ)
    → q.cpu.prefix ≡ None → IsReady bytes text q.cpu.address r
    → Admits q r.instr (pair_ranges store first second n)
    → ((size : ℕ) → 0 < size → size ≤ 6
    → unfetched (accessible_pages None) (text_pages None text) q.cpu.address size ≡ None)
    → IsPairOf r.instr q.cpu.general store first second n → IsOpenPair store first second n text
    → fate_by_progress text (storage_of bytes) q ≡ Goes r.instr (pair_ranges store first second n)
pair-goes text bytes q r store first second n bare ready lets fetched pair o =
    let c = q.cpu in
    passing-goes text bytes q r (pair_ranges store first second n) bare ready lets
    (fetched (image.length_at bytes c.address) (length_some (get_or bytes c.address 0)) (length_few (get_or bytes c.address 0)))
    (ranges-are r.instr c.general store first second n pair c.condition)
    (specified r.instr c.general store first second n pair (length q.nest))
    (usable r.instr c.general store first second n pair text c.condition (length q.nest) o)
