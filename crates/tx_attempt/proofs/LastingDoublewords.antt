-- A doubleword that NTSTG stores is stored byte by byte, and lasts so.
use Rattle.std.proofs.Common.{◌≡◌, ℕ, ◌+◌, ◌*◌, ◌/◌, ◌%◌, true}
use Rattle.std.proofs.Common.{Option, Some, None, ap, ◌∙◌, arith, inl, inr}
use Rattle.std.proofs.lemmas.Bool.{cases_lt}
use Rattle.byteorder.specs.Endian.{big_bytes}
use Rattle.byteorder.specs.Numbers.{length-bytes_high_first}
use Rattle.z_regs.specs.Prefix.{is_prefix, absolute_of}
use Rattle.z_regs.proofs.Exchange.{area, moves}
use Rattle.store_cache.specs.Overlay.{Overlay, with_one, with_bytes}
use Rattle.store_cache.specs.Stores.{lasting_bytes}
use Rattle.store_cache.proofs.Overlays.{lasting_bytes-with_one}
use Rattle.tx_serial.specs.Flat.{stores_at}
use Rattle.tx_progress.specs.Progress.{laying}
use Rattle.tx_attempt.proofs.GatheredRuns.{run-laid}

pub aligned-place : (prefix : Option ℕ) (a : ℕ) → is_prefix prefix ≡ true → a % 8 ≡ 0
    → absolute_of prefix a % 8 ≡ 0
aligned-place None a ok even = even
aligned-place (Some p) a ok even =
    let r = area p ok in
    let m = moves p a r.low in
    elim (cases_lt a 8192) [
      | inl low ↦ omega (arith, m.first low, even, r.aligned)
      | inr high ↦ elim (cases_lt a p) [
        | inl below ↦ omega (arith, m.between high below, even)
        | inr from ↦ elim (cases_lt a (p + 8192)) [
          | inl own ↦ omega (arith, m.own from own, even, r.aligned)
          | inr past ↦ omega (arith, m.beyond past, even)
        ]
      ]
    ]

pub doubleword-laid : (prefix : Option ℕ) (a value : ℕ) (o : Overlay) → is_prefix prefix ≡ true → a % 8 ≡ 0
    → with_bytes o (absolute_of prefix a) (big_bytes 8 value)
    ≡ laying o (stores_at prefix a (big_bytes 8 value))
doubleword-laid prefix a value o ok even =
    run-laid prefix a (big_bytes 8 value) o ok (omega (arith, even, length-bytes_high_first 8 value))

pub doubleword-lasts : (prefix : Option ℕ) (a value : ℕ) (o : Overlay) → is_prefix prefix ≡ true → a % 8 ≡ 0
    → lasting_bytes (with_one o (absolute_of prefix a / 8) value)
    ≡ laying (lasting_bytes o) (stores_at prefix a (big_bytes 8 value))
doubleword-lasts prefix a value o ok even =
    let place = absolute_of prefix a in
    let same : place / 8 * 8 ≡ place = omega (arith, aligned-place prefix a ok even) in
    lasting_bytes-with_one o (place / 8) value
    ∙ ap (λ n. with_bytes (lasting_bytes o) n (big_bytes 8 value)) same
    ∙ doubleword-laid prefix a value (lasting_bytes o) ok even
