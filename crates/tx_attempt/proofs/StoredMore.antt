-- One byte more that an attempt stores, in a block of its footprint.
use Rattle.std.proofs.Common.{◌≡◌, ◌≢◌, ℕ, ◌+◌, ◌*◌, ◌/◌, ◌%◌, ◌<◌, ◌≤◌, true, Option, Some, None}
use Rattle.std.proofs.Common.{refl, sym, ap, ◌∙◌, arith}
use Rattle.std.specs.Prelude.{IfSome, is_some}
use Rattle.std.proofs.lemmas.Bool.{true≢false}
use Rattle.z_regs.specs.Prefix.{storage_size}
use Rattle.tx_footprint.specs.Touched.{Sets, sets_of, block_count}
use Rattle.store_cache.specs.Overlay.{Overlay, has_block}
use Rattle.store_cache.specs.Stores.{Stores, has_room, with_store, lasting_bytes}
use Rattle.store_cache.specs.Entries.{Entries, stores_of}
use Rattle.store_cache.specs.Sizes.{block_size, block_limit}
use Rattle.store_cache.proofs.Blocks.{has_block-at}
use Rattle.store_cache.proofs.Overlays.{with_one-other}
use Rattle.tx_attempt.specs.Tracked.{Tracked, IsSound}
use Rattle.tx_attempt.proofs.GatheredBlocks.{one-block, first-room}

-- a stored byte makes its block a stored one
pub some-block : (o : Overlay) (a : ℕ) (r : Option ℕ) (P : Type 0) → r ≡ o a
    → (has_block o (a / block_size) ≡ true → P) → IfSome r (λ byte. P)
some-block o a None P e h = tt
some-block o a (Some byte) P e h =
    let here : a / block_size * block_size + a % block_size ≡ a = omega arith in
    h (has_block-at o (a / block_size) (a % block_size) (omega arith)
    (ap is_some (ap o here ∙ sym e)))

-- there is room for it
pub more-room : (t : Tracked) (address blocks : ℕ) → IsSound t → address < storage_size
    → (sets_of t.footprint).blocks (address / block_size) ≡ true
    → blocks ≡ block_count (sets_of t.footprint) → blocks ≤ block_limit
    → has_room (stores_of t.stores).overlay (address / block_size) ≡ true
more-room t address blocks sound within here count few =
    first-room (stores_of t.stores).overlay None address 1 address (record {
      blocks = (sets_of t.footprint).blocks;
      few = omega (arith, count, few);
      covers = sound.blocks;
      there = λ k lt.
          let same : address + k ≡ address = omega (arith, lt) in
          ap (λ a. (sets_of t.footprint).blocks (a / block_size)) same ∙ here;
    }) (omega arith) refl within

-- and the attempt stays sound
pub more-sound : (t : Tracked) (s : Entries) (address byte : ℕ) → IsSound t → address < storage_size
    → (sets_of t.footprint).blocks (address / block_size) ≡ true
    → stores_of s ≡ with_store (stores_of t.stores) address byte → IsSound (record t { stores = s })
more-sound t s address byte sound within here is =
    let old = (stores_of t.stores).overlay in
    record {
      rests = λ none. absurd (true≢false (sym here ∙ ap (λ (x : Sets). x.blocks (address / block_size))
          (sound.rests none).footprint));
      opens = sound.opens;
      blocks = λ block h. one-block old address byte (sets_of t.footprint).blocks sound.blocks here block
          (sym (ap (λ (x : Stores). has_block x.overlay block) is) ∙ h);
      inside = λ a past.
          let other : a ≢ address = λ e. absurd (omega (arith, e, past, within)) in
          ap (λ (x : Stores). x.overlay a) is ∙ with_one-other old address byte a other ∙ sound.inside a past;
      lasts = λ a past. ap (λ (x : Stores). lasting_bytes x.lasting a) is ∙ sound.lasts a past;
      single = sound.single;
      few = sound.few;
      counted = sound.counted;
      block = sound.block;
    }
