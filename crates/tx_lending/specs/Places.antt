-- Where an instruction touches storage, by absolute addresses, and storages that have the same bytes there.
use Rattle.std.specs.Prelude.{◌≡◌, ℕ, Bool, true, nat_eq, if◌then◌else◌, List, map, Option}
use Rattle.std.specs.List.{list_any, flat_map, filter}
use Rattle.z_regs.specs.Prefix.{absolute_of}
use Rattle.z_regs.specs.declared.ranges.Range.{Range}
use Rattle.z_instr.specs.Layout.{length_by}
use Rattle.z_instr.specs.Operands.{from_up}
use Rattle.store_cache.specs.Overlay.{Overlay}
use Rattle.tx_serial.specs.Flat.{Storage}
use Rattle.tx_progress.specs.Progress.{Progress, seen_through}

-- ---- places

-- so many bytes from a real address on, by absolute addresses
abbrev pub places_from : Option ℕ → ℕ → ℕ → List ℕ
places_from prefix first length = map (absolute_of prefix) (from_up first length)

-- the bytes of the next instruction, as many as the first of them says
abbrev pub text_places : Storage → Progress → List ℕ
text_places storage q =
    let first = absolute_of q.cpu.prefix q.cpu.address in
    places_from q.cpu.prefix q.cpu.address (length_by (seen_through q.overlay storage first))

-- the bytes of operands
abbrev pub operand_places : List Range → Progress → List ℕ
operand_places ranges q = flat_map (λ r. places_from q.cpu.prefix r.first r.length) ranges

-- those of the operands that are stored
abbrev pub stored_places : List Range → Progress → List ℕ
stored_places ranges q = operand_places (filter (λ r. r.store) ranges) q

-- ---- storages at marked places

-- these places, as marks
abbrev pub is_among : List ℕ → ℕ → Bool
is_among places a = list_any (nat_eq a) places

-- at marked places a CPU sees the same byte through what it has stored, whichever of two storages lies below
abbrev pub LookAlike : (ℕ → Bool) → Overlay → Storage → Storage → Type 0
LookAlike marked overlay s t =
    (a : ℕ) → marked a ≡ true → seen_through overlay t a ≡ seen_through overlay s a

-- the marked bytes of one storage, laid over another
abbrev pub over : (ℕ → Bool) → Storage → Storage → Storage
over marked own other a = if marked a then own a else other a

-- what was left of two storages has come from them by the same stores
pub record AreStoredAlike (s t left_of_s left_of_t : Storage) : Type 0 where
  pub stores : Overlay
  pub first : left_of_s ≡ seen_through stores s
  pub second : left_of_t ≡ seen_through stores t
