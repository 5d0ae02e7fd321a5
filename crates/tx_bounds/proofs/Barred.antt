-- The constraints bar the one instruction that aborts its own transaction.
use Rattle.std.proofs.Common.{◌≡◌, ℕ, Bool, true, false, List, refl, sym, ◌∙◌, not}
use Rattle.std.specs.Prelude.{◌&&◌}
use Rattle.std.proofs.lemmas.Bool.{true≢false}
use Rattle.z_regs.specs.Cpu.{Cpu}
use Rattle.z_instr.specs.declared.instr.Instr.{Instr}
use Rattle.z_instr.specs.Operands.{first_address}
use Rattle.z_instr.specs.Table.{Entry, entry_at, kind_at}
use Rattle.z_instr.proofs.PlainImmediates.{not_second}
use Rattle.z_effect.specs.One.{one, length_of}
use Rattle.z_effect.specs.Outcome.{Outcome, Did, Divides, Aborts}
use Rattle.z_effect.specs.Outcome as outcome
use Rattle.z_effect.proofs.Aborting.{AbortsBy, aborts_itself, effect_by}
use Rattle.tx_progress.proofs.Rows.{any_row}

-- an instruction that does not abort its transaction
abbrev pub AbortsNot : Outcome → Type 0
AbortsNot (Did c bytes) = Unit {0}
AbortsNot (outcome.Overflowed c bytes) = Unit {0}
AbortsNot Divides = Unit {0}
AbortsNot (Aborts code) = ⊥

-- one that may not abort does not
not_by : (may : Bool) (a : ℕ) (o : Outcome) → may ≡ false → AbortsBy may a o → AbortsNot o
not_by may a (Did c bytes) e by = tt
not_by may a (outcome.Overflowed c bytes) e by = tt
not_by may a Divides e by = tt
not_by may a (Aborts code) e by = true≢false (sym by.0 ∙ e)

-- an instruction that aborts its transaction is not permitted
abbrev is_barred : Entry → Bool
is_barred e = not (e.permitted && aborts_itself e.kind)

-- so it is of each row of the table
barred_rows : (n : ℕ) → is_barred (entry_at n) ≡ true
barred_rows = any_row is_barred refl refl

-- what the constraints permit does not abort its transaction
pub permitted_not : (i : Instr) (c : Cpu) (depth : ℕ) (bytes : List ℕ)
    → (entry_at i.op.number).permitted ≡ true → AbortsNot (one i c depth bytes)
unfolding kind_at
permitted_not i c depth bytes h =
    let aborts = aborts_itself (entry_at i.op.number).kind in
    not_by aborts (first_address i c.general) (one i c depth bytes)
    (not_second (entry_at i.op.number).permitted aborts (barred_rows i.op.number) h)
    (effect_by aborts (kind_at i.op.number) (length_of i) i c depth bytes (λ is. is))
