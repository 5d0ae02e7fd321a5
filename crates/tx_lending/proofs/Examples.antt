-- Worked values: a loop's LG, AGHI and STG at 4000 in hexadecimal, in text page 4, made away on two storages that have
-- the same bytes where they look and others elsewhere; and which instructions may be made away.
use Rattle.std.proofs.Common.{◌≡◌, refl, ℕ, ◌+◌, ◌-◌, Bool, true, false, List, [], ◌∷◌, ◌++◌}
use Rattle.std.proofs.Common.{length, get_or, Option, Some, None}
use Rattle.std.specs.Prelude.{◌&&◌, nat_lt, nat_le, if◌then◌else◌, map, is_some, unwrap_or}
use Rattle.bit_set.specs.Counts.{count_below}
use Rattle.z_arith.specs.Sum.{add_of}
use Rattle.z_arith.specs.Quotient.{divide_word_of}
use Rattle.z_regs.specs.Cpu.{started}
use Rattle.z_regs.specs.Absolute.{absolute_range}
use Rattle.z_instr.specs.declared.instr.Instr.{Instr}
use Rattle.z_instr.specs.Table.{entry_at, table, kind_at}
use Rattle.z_instr.specs.Computing.{reading_of, row_number}
use Rattle.z_instr.specs.Access.{accessible_pages, text_pages, unfetched}
use Rattle.z_instr.specs.Operands.{spans_in, unspecified_in, inaccessible_in}
use Rattle.z_effect.specs.Operations.{combined}
use Rattle.z_effect.specs.GeneralEffect.{general_effect}
use Rattle.z_effect.specs.BranchEffect.{branch_effect}
use Rattle.z_effect.specs.StorageEffect.{storage_effect}
use Rattle.z_effect.specs.TransactionEffect.{transaction_effect}
use Rattle.tx_constraint.specs.Octowords.{with_octowords}
use Rattle.tx_constraint.specs.Kept.{next_text_breach, next_operand_breach}
use Rattle.tx_footprint.specs.Places.{has_place}
use Rattle.tx_serial.specs.Fate.{cause_in}
use Rattle.tx_serial.specs.Flat.{Storage, laid_over}
use Rattle.tx_progress.specs.Doing.{executed}
use Rattle.tx_progress.specs.Local.{Beside, settled}
use Rattle.tx_progress.specs.Trial.{fate_by_progress}
use Rattle.store_cache.specs.Overlay.{nothing, with_one}
use Rattle.tx_lending.specs.Away.{is_plain, ran, touched, stored}
use Rattle.tx_lending.specs.Stranger.{waiting, waits_at}

-- ---- a loop

-- bytes at an address, over storage
abbrev placed : ℕ → List ℕ → Storage → Storage
placed first bytes storage a =
    if nat_le first a && nat_lt a (first + length bytes) then get_or bytes (a - first) 0 else storage a

-- LG 1,X'9000'; AGHI 1,1; STG 1,X'9000'
abbrev counting : List ℕ
counting =
    0xE3 ∷ 0x10 ∷ 0x00 ∷ 0x00 ∷ 0x09 ∷ 0x04 ∷ 0xA7 ∷ 0x1B ∷ 0x00 ∷ 0x01 ∷ 0xE3 ∷ 0x10 ∷ 0x00 ∷ 0x00 ∷ 0x09 ∷ 0x24 ∷ []

-- that program and a counter that is 5, over bytes that are all the same
abbrev storage_of : ℕ → Storage
storage_of byte = placed 0x4000 counting (placed 0x9000 (0 ∷ 0 ∷ 0 ∷ 0 ∷ 0 ∷ 0 ∷ 0 ∷ 5 ∷ []) (λ a. byte))

abbrev on : Storage → Beside
on storage = record { local = settled (started 0x4000); storage = storage }

abbrev left_of : ℕ → ℕ → Beside
left_of byte k = ran (4 ∷ []) k (on (storage_of byte))

-- register 1, the address, the counter's last byte, the byte before the counter and the one behind it
abbrev shown : Beside → List ℕ
shown b =
    get_or b.local.attempt.cpu.general 1 0
    ∷ b.local.attempt.cpu.address
    ∷ b.storage 0x9007
    ∷ b.storage 0x8FFF
    ∷ b.storage 0x9008
    ∷ []

-- after each turn on zeros, and on sevens: the same but for bytes that no turn has looked at
counted : map (λ k. shown (left_of 0 k)) (0 ∷ 1 ∷ 2 ∷ 3 ∷ [])
    ≡ (0 ∷ 0x4000 ∷ 5 ∷ 0 ∷ 0 ∷ []) ∷ (5 ∷ 0x4006 ∷ 5 ∷ 0 ∷ 0 ∷ []) ∷ (6 ∷ 0x400A ∷ 5 ∷ 0 ∷ 0 ∷ [])
    ∷ (6 ∷ 0x4010 ∷ 6 ∷ 0 ∷ 0 ∷ []) ∷ []
unfolding ran executed fate_by_progress cause_in laid_over reading_of row_number entry_at table accessible_pages
    text_pages unfetched spans_in unspecified_in inaccessible_in kind_at combined general_effect branch_effect
    storage_effect transaction_effect absolute_range has_place count_below next_text_breach next_operand_breach
    with_octowords add_of divide_word_of
counted = refl

elsewhere : shown (left_of 7 3) ≡ 6 ∷ 0x4010 ∷ 6 ∷ 7 ∷ 7 ∷ []
unfolding ran executed fate_by_progress cause_in laid_over reading_of row_number entry_at table accessible_pages
    text_pages unfetched spans_in unspecified_in inaccessible_in kind_at combined general_effect branch_effect
    storage_effect transaction_effect absolute_range has_place count_below next_text_breach next_operand_breach
    with_octowords add_of divide_word_of
elsewhere = refl

-- ---- what was touched, and what was stored

-- the bytes of the first instruction after one turn, and those of the others after three; the counter; and nothing else
marked : map (touched (4 ∷ []) 1 (on (storage_of 0))) (0x3FFF ∷ 0x4000 ∷ 0x4005 ∷ 0x4006 ∷ 0x9007 ∷ [])
    ++ map (touched (4 ∷ []) 3 (on (storage_of 0)))
    (0x4005 ∷ 0x4006 ∷ 0x400F ∷ 0x4010 ∷ 0x8FFF ∷ 0x9000 ∷ 0x9007 ∷ 0x9008 ∷ [])
    ≡ false ∷ true ∷ true ∷ false ∷ true
    ∷ true ∷ true ∷ true ∷ false ∷ false ∷ true ∷ true ∷ false ∷ []
unfolding ran touched executed fate_by_progress cause_in laid_over reading_of row_number entry_at table accessible_pages
    text_pages unfetched spans_in unspecified_in inaccessible_in kind_at combined general_effect branch_effect
    storage_effect transaction_effect absolute_range has_place count_below next_text_breach next_operand_breach
    with_octowords add_of divide_word_of
marked = refl

-- nothing after two turns, the counter after three
stored_so : map (stored (4 ∷ []) 2 (on (storage_of 0))) (0x4000 ∷ 0x9000 ∷ 0x9007 ∷ [])
    ++ map (stored (4 ∷ []) 3 (on (storage_of 0))) (0x4000 ∷ 0x8FFF ∷ 0x9000 ∷ 0x9007 ∷ 0x9008 ∷ [])
    ≡ false ∷ false ∷ false ∷ false ∷ false ∷ true ∷ true ∷ false ∷ []
unfolding ran stored executed fate_by_progress cause_in laid_over reading_of row_number entry_at table accessible_pages
    text_pages unfetched spans_in unspecified_in inaccessible_in kind_at combined general_effect branch_effect
    storage_effect transaction_effect absolute_range has_place count_below next_text_breach next_operand_breach
    with_octowords add_of divide_word_of
stored_so = refl

-- ---- inside a transaction

-- TBEGIN 0,X'FF00' before them
abbrev inside_of : ℕ → Beside
inside_of byte =
    ran (4 ∷ []) 1 (on (placed 0x4000 (0xE5 ∷ 0x60 ∷ 0x00 ∷ 0x00 ∷ 0xFF ∷ 0x00 ∷ counting)
    (placed 0x9000 (0 ∷ 0 ∷ 0 ∷ 0 ∷ 0 ∷ 0 ∷ 0 ∷ 5 ∷ []) (λ a. byte))))

-- that CPU, whose attempt has stored this byte at A000 before
abbrev stranger : ℕ → Beside → Beside
stranger byte b = record b {
  local = record b.local { attempt = record b.local.attempt { overlay = with_one nothing 0xA000 byte } };
}

-- register 1, the address, and the bytes that wait at the end of the counter, at A000 and behind the counter
abbrev waits_in : Beside → ℕ × ℕ × List (Option ℕ)
waits_in b = (
  get_or b.local.attempt.cpu.general 1 0,
  b.local.attempt.cpu.address,
  map b.local.attempt.overlay (0x9007 ∷ 0xA000 ∷ 0x9008 ∷ []),
)

-- a byte that so many turns have stored and that waits, or 300
abbrev waited : ℕ → ℕ → ℕ
waited k a = unwrap_or (waiting (4 ∷ []) k (inside_of 0) a) 300

-- the counter waits, and is not stored
waits : waits_in (ran (4 ∷ []) 3 (inside_of 0)) ≡ (6, 0x4016, Some 6 ∷ None ∷ None ∷ [])
unfolding ran touched stored waiting executed fate_by_progress cause_in laid_over reading_of row_number entry_at table
    accessible_pages text_pages unfetched spans_in unspecified_in inaccessible_in kind_at combined general_effect
    branch_effect storage_effect transaction_effect absolute_range has_place count_below next_text_breach
    next_operand_breach with_octowords add_of divide_word_of
waits = refl

not_stored : (ran (4 ∷ []) 3 (inside_of 0)).storage 0x9007
    ∷ map (waited 3) (0x8FFF ∷ 0x9000 ∷ 0x9007 ∷ 0xA000 ∷ [])
    ≡ 5 ∷ 300 ∷ 0 ∷ 6 ∷ 300 ∷ []
unfolding ran touched stored waiting executed fate_by_progress cause_in laid_over reading_of row_number entry_at table
    accessible_pages text_pages unfetched spans_in unspecified_in inaccessible_in kind_at combined general_effect
    branch_effect storage_effect transaction_effect absolute_range has_place count_below next_text_breach
    next_operand_breach with_octowords add_of divide_word_of
not_stored = refl

marked_inside : map (waits_at (4 ∷ []) 3 (inside_of 0)) (0x8FFF ∷ 0x9000 ∷ 0x9007 ∷ 0x9008 ∷ 0xA000 ∷ [])
    ++ map (stored (4 ∷ []) 3 (inside_of 0)) (0x9000 ∷ 0x9007 ∷ [])
    ++ map (touched (4 ∷ []) 3 (inside_of 0)) (0x4005 ∷ 0x4006 ∷ 0x4015 ∷ 0x4016 ∷ 0x9007 ∷ 0x9008 ∷ [])
    ≡ false ∷ true ∷ true ∷ false ∷ false
    ∷ false ∷ false ∷ false ∷ true ∷ true ∷ false ∷ true ∷ false ∷ []
unfolding ran touched stored waits_at executed fate_by_progress cause_in laid_over reading_of row_number entry_at table
    accessible_pages text_pages unfetched spans_in unspecified_in inaccessible_in kind_at combined general_effect
    branch_effect storage_effect transaction_effect absolute_range has_place count_below next_text_breach
    next_operand_breach with_octowords add_of divide_word_of
marked_inside = refl

-- another CPU inside, over sevens, keeps what it has stored before
beside_it : waits_in (ran (4 ∷ []) 3 (stranger 9 (inside_of 7))) ≡ (6, 0x4016, Some 6 ∷ Some 9 ∷ None ∷ [])
unfolding ran executed fate_by_progress cause_in laid_over reading_of row_number entry_at table accessible_pages
    text_pages unfetched spans_in unspecified_in inaccessible_in kind_at combined general_effect branch_effect
    storage_effect transaction_effect absolute_range has_place count_below next_text_breach next_operand_breach
    with_octowords add_of divide_word_of
beside_it = refl

-- ---- which instructions may be made away

abbrev may : Option Instr → Bool
may None = false
may (Some i) = is_plain i

-- what of them may be, and what are instructions at all
abbrev told_of : List (List ℕ) → List Bool × List Bool
told_of list = (map (λ bytes. may (reading_of bytes)) list, map (λ bytes. is_some (reading_of bytes)) list)

-- TBEGIN, TBEGINC, TEND, TABORT, NTSTG, PPA and SVC are made at home
at_home : told_of (
    (0xE5 ∷ 0x60 ∷ 0x00 ∷ 0x00 ∷ 0xFF ∷ 0x00 ∷ [])
    ∷ (0xE5 ∷ 0x61 ∷ 0x00 ∷ 0x00 ∷ 0xFF ∷ 0x00 ∷ [])
    ∷ (0xB2 ∷ 0xF8 ∷ 0x00 ∷ 0x00 ∷ [])
    ∷ (0xB2 ∷ 0xFC ∷ 0x01 ∷ 0x01 ∷ [])
    ∷ (0xE3 ∷ 0x10 ∷ 0x00 ∷ 0x00 ∷ 0x09 ∷ 0x25 ∷ [])
    ∷ (0xB2 ∷ 0xE8 ∷ 0x10 ∷ 0x12 ∷ [])
    ∷ (0x0A ∷ 0x00 ∷ [])
    ∷ []
    ) ≡ (
      false ∷ false ∷ false ∷ false ∷ false ∷ false ∷ false ∷ [],
      true ∷ true ∷ true ∷ true ∷ true ∷ true ∷ true ∷ [],
    )
unfolding reading_of row_number entry_at table
at_home = refl

-- LG, AGHI, STG, J and ETND may be made away
away : map (λ bytes. may (reading_of bytes)) (
    (0xE3 ∷ 0x10 ∷ 0x00 ∷ 0x00 ∷ 0x09 ∷ 0x04 ∷ [])
    ∷ (0xA7 ∷ 0x1B ∷ 0x00 ∷ 0x01 ∷ [])
    ∷ (0xE3 ∷ 0x10 ∷ 0x00 ∷ 0x00 ∷ 0x09 ∷ 0x24 ∷ [])
    ∷ (0xA7 ∷ 0xF4 ∷ 0x00 ∷ 0x04 ∷ [])
    ∷ (0xB2 ∷ 0xEC ∷ 0x00 ∷ 0x10 ∷ [])
    ∷ []
    ) ≡ true ∷ true ∷ true ∷ true ∷ true ∷ []
unfolding reading_of row_number entry_at table
away = refl
