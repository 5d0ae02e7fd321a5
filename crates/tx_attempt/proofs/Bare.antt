-- An instruction that is executed on storage as it is, where an attempt sees its operands so.
use Rattle.std.proofs.Common.{◌≡◌, ℕ, ◌+◌, ◌*◌, ◌/◌, ◌%◌, ◌<◌, ◌≤◌, Bool, true, false, List, [], ◌∷◌, Option, None, Some}
use Rattle.std.proofs.Common.{refl, sym, ap, ◌∙◌, arith, length, get_or, take}
use Rattle.std.specs.Prelude.{map, cond, unwrap_or, is_some, All}
use Rattle.std.proofs.lemmas.Bool.{true≢false}
use Rattle.z_regs.specs.Absolute.{IsAccessible}
use Rattle.z_regs.specs.Cpu.{Cpu}
use Rattle.z_regs.specs.Prefix.{storage_size, absolute_of}
use Rattle.z_regs.specs.declared.ranges.Range.{Range}
use Rattle.z_regs.proofs.Writes.{written_same}
use Rattle.z_instr.specs.declared.instr.Instr.{Instr}
use Rattle.z_touch.specs.Refusals.{span_of}
use Rattle.z_effect.specs.After.{touched, range_at, written, storage_after, cpu_after}
use Rattle.z_effect.specs.One.{one}
use Rattle.z_effect.specs.Outcome.{Outcome, Did, Overflowed, Divides, Aborts}
use Rattle.bit_set.specs.Counts.{count_below, one_if}
use Rattle.bit_set.proofs.Counts.{count_but_at}
use Rattle.store_cache.specs.Overlay.{Overlay, block_count, has_block}
use Rattle.store_cache.specs.Sizes.{block_size, storage_blocks}
use Rattle.store_cache.proofs.Blocks.{has_block-at}
use Rattle.tx_serial.specs.Fate.{operands}
use Rattle.tx_serial.specs.Flat.{Storage, bytes_seen, operand_bytes}
use Rattle.tx_progress.specs.Progress.{seen_through}
use Rattle.tx_attempt.specs.declared.performing.Ended.{Ended}
use Rattle.tx_attempt.specs.Storages.{storage_of}
use Rattle.tx_attempt.specs.Performed.{IsFetched, IsLeft, IsKeptApart, StoresFirst, no_range, first_size}
use Rattle.tx_attempt.specs.Performed.{first_bytes}
use Rattle.tx_attempt.proofs.Fetching.{all-inside, touched-fetched, taken-at}
use Rattle.tx_attempt.proofs.Returning.{after-over}
use Rattle.tx_attempt.proofs.Stored.{none-written, plain-outcome}
use Rattle.z_regs.proofs.OneArea.{length-range_at}

-- an option without a value
pub none-so : (o : Option ℕ) → is_some o ≡ false → o ≡ None
none-so None h = refl
none-so (Some p) h = absurd (true≢false h)

-- ---- where no block is stored, no byte is

-- none of those that are counted holds
count-none : (n : ℕ) (f : ℕ → Bool) (at : ℕ) (b : Bool) → f at ≡ b → at < n → count_below n f ≡ 0 → f at ≡ false
count-none n f at false e lt h = e
count-none n f at true e lt h =
    let whole = count_but_at n f at false lt in
    let one : one_if (f at) ≡ 1 = ap one_if e in
    absurd (omega (arith, whole, one, h))

-- a byte that is stored would be one of its block
none-at : (o : Overlay) (a : ℕ) (b : Bool) → is_some (o a) ≡ b → has_block o (a / block_size) ≡ false
    → is_some (o a) ≡ false
none-at o a false e h = e
none-at o a true e h =
    let same : a / block_size * block_size + a % block_size ≡ a = omega arith in
    let under : a % block_size < block_size = omega arith in
    absurd (true≢false (sym (has_block-at o (a / block_size) (a % block_size) under
    (ap (λ n. is_some (o n)) same ∙ e)) ∙ h))

-- so all of storage is bare
pub none-stored : (o : Overlay) (a : ℕ) → block_count o ≡ 0 → a < storage_size → o a ≡ None
none-stored o a h lt =
    let under : a / block_size < storage_blocks = omega (arith, lt) in
    none-so (o a)
    (none-at o a _ refl (count-none storage_blocks (has_block o) (a / block_size) _ refl under h))

-- ---- bytes over which nothing is stored

pub bare-one : (o : Overlay) (prefix : Option ℕ) (r : Range) (s : List ℕ) → prefix ≡ None
    → ((k : ℕ) → k < r.length → o (r.first + k) ≡ None)
    → IsFetched prefix (seen_through o (storage_of s)) s r
bare-one o prefix r s none bare k lt =
    sym (ap (λ (p : Option ℕ). seen_through o (storage_of s) (absolute_of p (r.first + k))) none
    ∙ ap (λ (v : Option ℕ). unwrap_or v (get_or s (r.first + k) 0)) (bare k lt))

-- so many of them, from an address on
pub bare-seen : (o : Overlay) (prefix : Option ℕ) (first n : ℕ) (s : List ℕ) → prefix ≡ None
    → ((k : ℕ) → k < n → o (first + k) ≡ None) → first + n ≤ length s
    → range_at s first n ≡ bytes_seen prefix (seen_through o (storage_of s)) first n
bare-seen o prefix first n s none bare h =
    taken-at n first s (λ a. seen_through o (storage_of s) (absolute_of prefix a))
    (bare-one o prefix (record { first = first; length = n; store = false }) s none bare) h

-- ---- nothing is stored

-- nothing is kept apart of an instruction that does not store into its first operand
pub none-apart : (need : List Range) (t stored : List ℕ) → (get_or need 0 no_range).store ≡ false
    → take (first_size need) stored ≡ first_bytes need t
none-apart [] t stored h = refl
none-apart (r ∷ rs) t stored h =
    ap (λ b. take (cond b r.length 0) stored) h
    ∙ sym (ap (λ b. cond b (range_at t r.first r.length) []) h)

-- and storage stays
pub none-after : (need : List Range) (o : Outcome) (s : List ℕ) → StoresFirst need
    → (get_or need 0 no_range).store ≡ false → storage_after (map span_of need) s o ≡ s
none-after [] (Did c bytes) s first h = refl
none-after [] (Overflowed c bytes) s first h = refl
none-after (r ∷ rs) (Did c bytes) s first h = none-written (r ∷ rs) bytes s (h, first)
none-after (r ∷ rs) (Overflowed c bytes) s first h = none-written (r ∷ rs) bytes s (h, first)
none-after need Divides s first h = refl
none-after need (Aborts code) s first h = refl

-- ---- something is stored, and the bytes that were there come back

pub brought-back : (need : List Range) (o : Outcome) (s t new kept : List ℕ) → StoresFirst need
    → (get_or need 0 no_range).first + (get_or need 0 no_range).length ≤ length s
    → kept ≡ range_at s (get_or need 0 no_range).first (get_or need 0 no_range).length
    → t ≡ storage_after (map span_of need) s o
    → new ≡ written t (get_or need 0 no_range).first kept → new ≡ s
brought-back need o s t new kept first h ek et en =
    let a = get_or need 0 no_range in
    let size : length kept ≡ a.length = ap length ek ∙ length-range_at s a.first a.length h in
    en ∙ ap (λ (x : List ℕ). written x a.first kept) et ∙ after-over need o s kept first h size
    ∙ ap (written s a.first) ek ∙ written_same s a.first a.length h

-- ---- the outcome

pub apart-so : (i : Instr) (c new : Cpu) (prefix : Option ℕ) (need : List Range) (s t stored : List ℕ)
    (e : Ended) → need ≡ operands i c → All (IsAccessible prefix) need → length s ≡ storage_size
    → ((depth : ℕ) → IsLeft (one i c depth (touched (map span_of need) s)) need c new s t e)
    → take (first_size need) stored ≡ first_bytes need t → (seen : Storage) (depth : ℕ)
    → All (IsFetched prefix seen s) need
    → IsKeptApart (one i c depth (operand_bytes prefix seen need)) (first_size need) c new stored e
apart-so i c new prefix need s t stored e en accessible size left es seen depth all =
    let inside = all-inside prefix need s size accessible in
    let fetched = touched-fetched prefix seen need s inside all in
    record {
      value = plain-outcome i c new depth prefix seen need s t stored e en inside fetched (left depth) es;
      image = (left depth).image ∙ ap (λ (bs : List ℕ). cpu_after c (one i c depth bs)) fetched;
    }
