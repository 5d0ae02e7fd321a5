-- What an instruction leaves of the bytes before.
use Rattle.std.proofs.Common.{◌≡◌, ℕ, ◌<◌, Bool, true, false, List, refl, ap, ◌∙◌, length}
use Rattle.std.specs.Prelude.{if◌then◌else◌}
use Rattle.std.specs.List.{slice_index_or}
use Rattle.z_regs.specs.declared.ranges.Range.{Range}
use Rattle.z_instr.specs.declared.instr.Instr.{Instr}
use Rattle.tx_progress.specs.Doing.{Executed, executed}
use Rattle.tx_progress.specs.Local.{Beside}
use Rattle.tx_progress.specs.Progress.{is_live}
use Rattle.tx_cpu.specs.Parts.{Parts, local_of, beside}
use Rattle.tx_marks.specs.Away.{is_plain}
use Rattle.tx_marks.specs.Places.{is_among, operand_places}
use Rattle.tx_marks.specs.Own.{is_touched, bytes_at}
use Rattle.tx_run.specs.Made.{Made, now, StartsAlike}
use Rattle.tx_run.proofs.Frame.{executed-elsewhere}
use Rattle.tx_serial.proofs.TextStays.{contraposed}

-- the bytes before are as they were where all that is changed is marked
given-stays : (marks : List Bool) (before old new : List ℕ)
    → ((a : ℕ) → slice_index_or marks a false ≡ false → bytes_at new a ≡ bytes_at old a) → (a : ℕ)
    → (if slice_index_or marks a false then bytes_at before a else bytes_at new a)
    ≡ (if slice_index_or marks a false then bytes_at before a else bytes_at old a)
given-stays marks before old new same a = by (slice_index_or marks a false) (same a)
  where
    by : (b : Bool) → (b ≡ false → bytes_at new a ≡ bytes_at old a)
        → (if b then bytes_at before a else bytes_at new a) ≡ (if b then bytes_at before a else bytes_at old a)
    by true h = refl
    by false h = h refl

pub executed-starts : (m other : Made) (i : Instr) (ranges : List Range) → other.start ≡ m.start
    → other.own.before ≡ m.own.before → other.own.touched ≡ m.own.touched
    → now other ≡ (executed i ranges (now m)).after → is_plain i ≡ true
    → (is_live (local_of m.reached).attempt ≡ true → 0 < length (local_of m.reached).attempt.nest)
    → ((a : ℕ) → is_among (operand_places ranges (local_of m.reached).attempt) a ≡ true → is_touched m.own a ≡ true)
    → StartsAlike m other
executed-starts m other i ranges start before marks after plain opens marked = record {
  start = start;
  given = λ a.
      ap (λ (x : List Bool). if slice_index_or x a false then bytes_at other.own.before a else bytes_at other.own.now a)
      marks
      ∙ ap (λ (x : List ℕ). if is_touched m.own a then bytes_at x a else bytes_at other.own.now a) before
      ∙ given-stays m.own.touched m.own.before m.own.now other.own.now (λ place bare.
      ap (λ (b : Beside). b.storage place) after
      ∙ executed-elsewhere i ranges (now m) place plain opens
      (contraposed (is_among (operand_places ranges (local_of m.reached).attempt) place) (is_touched m.own place)
      (marked place) bare)) a;
}

-- what an instruction leaves of a CPU, which is the same as another one
pub executed-by : (x : Executed) (i : Instr) (ranges : List Range) (p q : Parts) (bytes : List ℕ)
    → x ≡ executed i ranges (beside p bytes) → p ≡ q → x.after ≡ (executed i ranges (beside q bytes)).after
executed-by x i ranges p q bytes is same =
    ap (λ (y : Executed). y.after) is ∙ ap (λ (r : Parts). (executed i ranges (beside r bytes)).after) same
