-- How many lines there can be, and how great the number of a faulty line.
use Rattle.std.proofs.Common.{◌≡◌, ℕ, suc, ◌+◌, ◌≤◌, arith, Bool, true, false}
use Rattle.std.proofs.Common.{List, [], ◌∷◌, length, take, drop, inl, inr}
use Rattle.std.specs.Prelude.{◌==◌, if◌then◌else◌}
use Rattle.std.proofs.lemmas.List.{length-drop, length-take}
use Rattle.tx_journal.specs.Content.{Content}
use Rattle.report_form.specs.declared.rows.Row.{Row}
use Rattle.report_form.specs.declared.lines.Part.{Part}
use Rattle.report_form.specs.Lines.{Faulty, Fit, rows_of}
use Rattle.report_form.specs.Sheet.{IsFirstFault, FaultyAt, in_head, no_history, in_history, no_schedule, in_schedule}
use Rattle.report_form.specs.Sheet.{head_parts, history_parts, schedule_parts}
use Rattle.report_form.specs.Sheet.{too_many, last_of, history_at, schedule_at}
use Rattle.report_form.specs.Sheet.{HasForm}
use Rattle.tx_check.proofs.FormLines.{history_size}
use Rattle.tx_replay.specs.Replay.{IsFirstMisfit}
use Rattle.report_form.specs.declared.places.Place.{Place}
use Rattle.report_form.specs.Text.{lines_of, in_front}

front_more : (byte : ℕ) (ls : List (List ℕ)) → length (in_front byte ls) ≤ suc (length ls)
front_more byte [] = omega arith
front_more byte (l ∷ ls) = omega arith

lines_more : (byte : ℕ) (ls : List (List ℕ)) (n : ℕ) → length ls ≤ n → (b : Bool)
    → length (if b then (byte ∷ []) ∷ ls else in_front byte ls) ≤ suc n
lines_more byte ls n low true = omega (arith, low)
lines_more byte ls n low false = let f = front_more byte ls in omega (arith, low, f)

-- no more lines than bytes
pub few_lines : (text : List ℕ) → length (lines_of text) ≤ length text
unfolding lines_of
few_lines [] = omega arith
few_lines (byte ∷ rest) = lines_more byte (lines_of rest) (length rest) (few_lines rest) (byte == 10)

fault_low : (last : ℕ) (rows : List Row) (lines : List (List ℕ)) (k : ℕ) → Faulty last rows lines k
    → k ≤ length lines + 1
fault_low last [] lines k fault = absurd fault
fault_low last (r ∷ rows) [] k fault = omega (arith, fault)
fault_low last (r ∷ rows) (l ∷ lines) k (inl here) = let h = here.0 in omega (arith, h)
fault_low last (r ∷ rows) (l ∷ lines) k (inr behind) =
    let low = fault_low last rows lines behind.1.before behind.1.fault in
    let c = behind.1.counted in omega (arith, low, c)

parts_low : (image : Content) (lines : List (List ℕ)) (parts : List Part) (at k : ℕ) → at ≤ length lines
    → FaultyAt image lines parts at k → k ≤ length lines + 1
parts_low image lines parts at k within h =
    let low = fault_low (last_of image) (rows_of parts) (drop at lines) h.before h.fault in
    let d = length-drop at lines in
    let c = h.counted in
    omega (arith, low, d, c, within)

fit_low : (last : ℕ) (rows : List Row) (lines : List (List ℕ)) → Fit last rows lines → length rows ≤ length lines
fit_low last [] lines fit = omega arith
fit_low last (r ∷ rows) [] fit = absurd fit
fit_low last (r ∷ rows) (l ∷ lines) fit = let low = fit_low last rows lines fit.1 in omega (arith, low)

-- the number of the first fault is at most one above the number of lines
pub fault_number : (image : Content) (lines : List (List ℕ)) (k : ℕ) → IsFirstFault image lines k
    → k ≤ length lines + 1
fault_number image lines k (in_head f) = parts_low image lines (head_parts image) 0 k (omega arith) f
fault_number image lines k (no_history fit lacks) =
    let low = fit_low (last_of image) (rows_of (head_parts image)) lines fit in
    let c = lacks.counted in omega (arith, low, c)
fault_number image lines k (in_history entries head f) =
    let t = head.count.there in
    parts_low image lines (history_parts entries) (history_at image + 1) k (omega (arith, t)) f
fault_number image lines k (no_schedule entries head fit lacks) =
    let t = head.count.there in
    let low = fit_low (last_of image) (rows_of (history_parts entries)) (drop (history_at image + 1) lines) fit in
    let d = length-drop (history_at image + 1) lines in
    let c = lacks.counted in omega (arith, low, c, d, t)
fault_number image lines k (in_schedule entries events h f) =
    let t = h.count.there in
    parts_low image lines (schedule_parts events) (schedule_at image entries + 1) k (omega (arith, t)) f
fault_number image lines k (too_many entries events h f less is) = omega (arith, less, is)

-- no more entries than lines
pub few_entries : (image : Content) (lines : List (List ℕ)) (entries events : ℕ)
    → HasForm image lines entries events → entries ≤ length lines
few_entries image lines entries events form =
    let whole = form.whole in let size = history_size image entries in omega (arith, whole, size)

-- the entries stand in a text that has the form
pub entries_there : (image : Content) (text : List ℕ) (p : Place) (entries events : ℕ)
    → HasForm image (lines_of text) entries events → p.line ≡ history_at image + 1
    → entries ≤ length (drop p.line (lines_of text))
entries_there image text p entries events form begins =
    let whole = form.whole in
    let size = history_size image entries in
    let behind = length-drop p.line (lines_of text) in
    omega (arith, whole, size, behind, begins)

-- the number of an entry that does not fit is no greater than their number
pub misfit_low : (image : Content) (lines : List (List ℕ)) (entries number : ℕ)
    → IsFirstMisfit image (take entries lines) number → number ≤ length lines
misfit_low image lines entries number h =
    let there = h.within in
    let counted = h.counted in
    let few = length-take entries lines in
    omega (arith, there, counted, few)
