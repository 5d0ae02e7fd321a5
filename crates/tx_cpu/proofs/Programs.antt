-- Instructions that were read before they are executed: they are the ones that are seen.
use Rattle.std.proofs.Common.{◌≡◌, ℕ, Bool, ◌+◌, ◌<◌, ◌≤◌, true, false, List}
use Rattle.std.proofs.Common.{length, get_or, take, drop, Option, sym, ap, ◌∙◌, arith}
use Rattle.std.specs.Prelude.{if◌then◌else◌, nat_lt, unwrap_or}
use Rattle.z_regs.specs.Prefix.{storage_size, absolute_of}
use Rattle.z_instr.specs.Layout.{length_by}
use Rattle.z_instr.specs.Computing.{reading_of}
use Rattle.store_cache.specs.Overlay.{Overlay}
use Rattle.tx_journal.specs.Image as image
use Rattle.tx_serial.specs.Fate.{length_at, instruction_at}
use Rattle.tx_progress.specs.Progress.{Progress, seen_through}
use Rattle.tx_progress.specs.Trial.{at_hand}
use Rattle.tx_attempt.specs.Storages.{storage_of}
use Rattle.tx_attempt.specs.Plain.{IsPlain}
use Rattle.tx_program.specs.Programs.{read_at}
use Rattle.tx_attempt.proofs.Fetching.{taken-moved}

-- ---- plain bytes are seen as they are in storage

pub seen-plain : (o : Overlay) (prefix : Option ℕ) (first place k : ℕ) (bytes : List ℕ) → IsPlain o prefix first place
    → k < 6 → get_or bytes (place + k) 0 ≡ seen_through o (storage_of bytes) (absolute_of prefix (first + k))
seen-plain o prefix first place k bytes plain lt =
    sym (ap (λ a. seen_through o (storage_of bytes) a) (plain.there k lt)
    ∙ ap (λ (b : Option ℕ). unwrap_or b (get_or bytes (place + k) 0)) (plain.bare k lt))

-- an instruction has two to six bytes
pub length_some : (b : ℕ) → 0 < length_by b
length_some b = some (nat_lt b 64) (nat_lt b 192)
  where
    some : (x y : Bool) → 0 < (if x then 2 else if y then 4 else 6)
    some true y = omega arith
    some false true = omega arith
    some false false = omega arith

pub length_few : (b : ℕ) → length_by b ≤ 6
length_few b = few (nat_lt b 64) (nat_lt b 192)
  where
    few : (x y : Bool) → (if x then 2 else if y then 4 else 6) ≤ 6
    few true y = omega arith
    few false true = omega arith
    few false false = omega arith

pub plain_length : (q : Progress) (bytes : List ℕ) (place : ℕ) → IsPlain q.overlay q.cpu.prefix q.cpu.address place
    → image.length_at bytes place ≡ length_at (at_hand (storage_of bytes) q)
plain_length q bytes place plain =
    let here : place + 0 ≡ place = omega arith in
    let there : q.cpu.address + 0 ≡ q.cpu.address = omega arith in
    ap length_by (ap (λ a. get_or bytes a 0) (sym here)
    ∙ seen-plain q.overlay q.cpu.prefix q.cpu.address place 0 bytes plain (omega arith)
    ∙ ap (λ a. seen_through q.overlay (storage_of bytes) (absolute_of q.cpu.prefix a)) there)

pub plain_reading : (q : Progress) (bytes : List ℕ) (place : ℕ) → length bytes ≡ storage_size
    → IsPlain q.overlay q.cpu.prefix q.cpu.address place
    → read_at bytes place ≡ instruction_at (at_hand (storage_of bytes) q)
plain_reading q bytes place size plain =
    let seen = seen_through q.overlay (storage_of bytes) in
    let n = length_at (at_hand (storage_of bytes) q) in
    let most : n ≤ 6 = length_few (seen (absolute_of q.cpu.prefix q.cpu.address)) in
    let ends = plain.ends in
    ap (λ m. reading_of (take m (drop place bytes))) (plain_length q bytes place plain)
    ∙ ap reading_of (taken-moved n place q.cpu.address bytes (λ a. seen (absolute_of q.cpu.prefix a))
    (λ k lt. seen-plain q.overlay q.cpu.prefix q.cpu.address place k bytes plain (omega (arith, lt, most)))
    (omega (arith, most, ends, size)))
