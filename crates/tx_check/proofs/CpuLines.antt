-- What a CPU can have, and what is told of it.
use Rattle.std.proofs.Common.{◌≡◌, ◌∙◌, sym, refl, subst, ℕ, ◌+◌, ◌<◌, ◌≤◌, true}
use Rattle.std.proofs.Common.{List, length, map, get_or, [], Option, Some, None, ◌++◌, ◌∷◌, zero, suc}
use Rattle.std.specs.Prelude.{is_none, slice_get}
use Rattle.tx_journal.specs.declared.image.Show.{Show}
use Rattle.report_text.specs.Report.{state_part}
use Rattle.tx_check.specs.Seen.{shown_seen}
use Rattle.std.proofs.lemmas.Option.{slice_get_within, get_or_from_slice_get}
use Rattle.tx_journal.specs.Content.{Content}
use Rattle.tx_serial.specs.Apply.{may_act}
use Rattle.tx_serial.specs.Flat.{FlatState, Pending, address_of}
use Rattle.tx_serial.specs.Run.{run}
use Rattle.z_regs.specs.Cpu.{Cpu}
use Rattle.tx_flat.specs.Open.{IsOpen}
use Rattle.report_form.specs.Sheet.{IsSheet, last_of}
use Rattle.report_form.specs.declared.sheet.Sheet.{Sheet}
use Rattle.report_form.specs.declared.rows.Row.TheVariants as row
use Rattle.report_form.specs.Rows.{IsRow}
use Rattle.tx_check.specs.declared.writing.Seen.{Seen}
use Rattle.tx_check.specs.Told.{IsLive}
use Rattle.tx_check.specs.Sound.{cpu_place}
use Rattle.tx_check.proofs.FormLines.{HasRow, cpu_line}

none_of : (b : Option Pending) → is_none (address_of b) ≡ is_none b
none_of None = refl
none_of (Some b) = refl

-- the run is open and so deep
pub is_live : (f : FlatState) (i depth completed claimed : ℕ) (c : Cpu) → may_act f i ≡ true → 1 ≤ completed
    → IsOpen (run f i completed) c depth → depth ≡ claimed
    → IsLive f i (record { depth = claimed; completed = completed })
is_live f i depth completed claimed c acts some still same = record {
  acts = acts;
  some = some;
  mark = still.mark;
  deep = still.deep ∙ same;
}

-- ---- the lines of a CPU

-- the lines of the attempt and of the counts of a CPU stand at their places
pub record HasLines (lines : List (List ℕ)) (place : ℕ) : Type 0 where
  pub attempt_there : place + 8 < length lines
  pub attempt_row : IsRow 0 row.Attempt (get_or lines (place + 8) [])
  pub counts_there : place + 10 < length lines
  pub counts_row : IsRow 0 row.Counts (get_or lines (place + 10) [])

any_attempt : (last : ℕ) (line : List ℕ) → IsRow last row.Attempt line → IsRow 0 row.Attempt line
unfolding IsRow
any_attempt last line h = h

any_counts : (last : ℕ) (line : List ℕ) → IsRow last row.Counts line → IsRow 0 row.Counts line
unfolding IsRow
any_counts last line h = h

pub has_lines : (image : Content) (lines : List (List ℕ)) (s : Sheet) (i : ℕ) → IsSheet image lines s
    → i < length image.cpus → HasLines lines (cpu_place i)
has_lines image lines s i sheet below =
    let a : HasRow (last_of image) row.Attempt lines (cpu_place i + 8) =
    cpu_line image lines s.entries sheet.events i 8 row.Attempt sheet.form below refl in
    let c : HasRow (last_of image) row.Counts lines (cpu_place i + 10) =
    cpu_line image lines s.entries sheet.events i 10 row.Counts sheet.form below refl in
    record {
      attempt_there = slice_get_within lines (cpu_place i + 8) a.line a.there;
      attempt_row =
          any_attempt (last_of image) _
          (subst (IsRow (last_of image) row.Attempt) (sym (get_or_from_slice_get lines (cpu_place i + 8) a.line [] a.there))
          a.row);
      counts_there = slice_get_within lines (cpu_place i + 10) c.line c.there;
      counts_row =
          any_counts (last_of image) _
          (subst (IsRow (last_of image) row.Counts) (sym (get_or_from_slice_get lines (cpu_place i + 10) c.line [] c.there))
          c.row);
    }

-- ---- CPUs one after the other

-- what holds of each holds of one more
pub each_more : (P : ℕ → Seen → Type 0) (xs : List Seen) (x : Seen)
    → ((i : ℕ) (s : Seen) → slice_get xs i ≡ Some s → P i s) → P (length xs) x
    → (i : ℕ) (s : Seen) → slice_get (xs ++ x ∷ []) i ≡ Some s → P i s
each_more P [] x each here zero s at = subst (P 0) (let e : x ≡ s = cc in e) here
each_more P [] x each here (suc i) s at = absurd cc
each_more P (y ∷ ys) x each here zero s at = each 0 s at
each_more P (y ∷ ys) x each here (suc i) s at =
    each_more (λ k. P (suc k)) ys x (λ k. each (suc k)) here i s at

-- the text, by what it is written of
pub written_as : (text : List ℕ) (cs cpus : List Seen) (shows : List Show) (st bytes : List ℕ)
    → text ≡ state_part (map shown_seen cs) shows st → cs ≡ cpus → st ≡ bytes
    → text ≡ state_part (map shown_seen cpus) shows bytes
written_as text cs cpus shows st bytes is a b = is ∙ (λ k. state_part (map shown_seen (a k)) shows (b k))
