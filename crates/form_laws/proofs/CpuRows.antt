-- The lines of a CPU, and of all CPUs.
use Rattle.std.proofs.Common.{◌≡◌, ◌∙◌, ap, sym, refl, subst, ℕ, zero, suc, ◌+◌, ◌<◌, ◌≤◌, ◌^◌, arith}
use Rattle.std.proofs.Common.{List, [], ◌∷◌, ◌++◌, append_assoc, length, take, drop, inl, inr}
use Rattle.std.proofs.Common.{Option, Some, None}
use Rattle.std.specs.Prelude.{codes, replicate, slice_get}
use Rattle.std.specs.List.{flat_map}
use Rattle.std.specs.Fmt.{decimal}
use Rattle.std.proofs.lemmas.List.{length-take-le, length-drop}
use Rattle.std.proofs.lemmas.List.Concat.{flat_map-append}
use Rattle.z_regs.specs.Cpu.{Cpu}
use Rattle.z_regs.specs.declared.image.RunState.{RunState}
use Rattle.z_regs.specs.declared.image.RunState.TheVariants.{Running, Halted, Interrupted}
use Rattle.report_form.specs.declared.words.Name.{Name}
use Rattle.report_form.specs.declared.words.Name.TheVariants as name
use Rattle.report_form.specs.declared.words.Word.TheVariants.{Fixed, AtMost, Digits}
use Rattle.report_form.specs.declared.rows.Row.TheVariants as row
use Rattle.report_form.specs.declared.lines.Part.{Part}
use Rattle.report_form.specs.Words.{name_text}
use Rattle.report_form.specs.Spelling.{Spelled}
use Rattle.report_form.specs.Rows.{IsRow, most, most_completed}
use Rattle.report_form.specs.Lines.{rows_of}
use Rattle.report_form.specs.Sheet.{cpus_parts, cpu_parts}
use Rattle.report_text.specs.Digits.{labelled, halfword_text, word_text, doubleword_text, digit_text}
use Rattle.report_text.specs.Processor.{state_line, state_text, interrupted_text, psw_line, general_line}
use Rattle.report_text.specs.Processor.{access_line}
use Rattle.report_text.specs.Processor.{attempt_line, live_line, pending_line, counts_line}
use Rattle.report_text.specs.Shown.{ShownCpu}
use Rattle.report_text.specs.declared.processors.Attempt.{Attempt}
use Rattle.report_text.specs.declared.processors.Counts.{Counts}
use Rattle.form_laws.specs.Reportable.{IsShort, AreCounts, CanBeTold}
use Rattle.form_laws.proofs.Words.{word_then, word_last, a_number, a_digit, values_then}
use Rattle.form_laws.proofs.Words.{halfword_digits, word_digits, doubleword_digits}
use Rattle.form_laws.proofs.Lists.{cpu_list, cpus_list}
use Rattle.form_laws.proofs.Telling.{Tells, tells_nothing, tells_more, tells_behind}

-- ---- the lines one by one

small : (limit n : ℕ) → n < 2 ^ 64 → limit ≡ 18446744073709551615 → n ≤ limit
small limit n fits is = omega (arith, fits, is)

state_row : (last i : ℕ) (s : RunState) → i < 2 ^ 64 → i ≤ last → IsRow last row.State (state_line i s)
unfolding IsRow state_line state_text interrupted_text
state_row last i Halted fits within =
    inl (word_then (Fixed name.Cpu) _ _ (codes "CPU") _ 32 refl refl
    (word_then (AtMost last) _ _ (decimal i) _ 32 refl (a_number last i fits within)
    (word_last (Fixed name.Halted) (codes "HALTED") refl)))
state_row last i Running fits within =
    inr (inl (word_then (Fixed name.Cpu) _ _ (codes "CPU") _ 32 refl refl
    (word_then (AtMost last) _ _ (decimal i) _ 32 refl (a_number last i fits within)
    (word_last (Fixed name.Running) (codes "RUNNING") refl))))
state_row last i (Interrupted code) fits within =
    inr (inr (word_then (Fixed name.Cpu) _ _ (codes "CPU") _ 32 refl refl
    (word_then (AtMost last) _ _ (decimal i) _ 32 refl (a_number last i fits within)
    (word_then (Fixed name.Interrupted) _ _ (codes "INTERRUPTED") _ 32 refl refl
    (word_last (Digits 4) (halfword_text code) (halfword_digits code))))))

psw_row : (last : ℕ) (c : Cpu) → c.condition < 2 ^ 64 → c.mask < 16 → IsRow last row.Psw (psw_line c)
unfolding IsRow psw_line
psw_row last c condition mask =
    word_then (Fixed name.Psw) _ _ (codes "PSW") _ 32 refl refl
    (word_then (Digits 16) _ _ (doubleword_text c.address) _ 32 refl (doubleword_digits c.address)
    (word_then (Fixed name.Condition) _ _ (codes "CC") _ 32 refl refl
    (word_then (AtMost most) _ _ (decimal c.condition) _ 32 refl
    (a_number most c.condition condition (omega (arith, condition)))
    (word_then (Fixed name.Mask) _ _ (codes "MASK") _ 32 refl refl
    (word_last (Digits 1) (digit_text c.mask) (a_digit c.mask mask))))))

four_words : (first : Name) (values : List ℕ) → length values ≡ 4
    → Spelled (Fixed name.General ∷ Fixed first ∷ Digits 16 ∷ Digits 16 ∷ Digits 16 ∷ Digits 16 ∷ [])
    (codes "GR" ++ 32 ∷ (name_text first ++ (flat_map (λ v. 32 ∷ doubleword_text v) values ++ 10 ∷ [])))
four_words first values size =
    word_then (Fixed name.General) _ _ (codes "GR") _ 32 refl refl
    (subst (λ n. Spelled (Fixed first ∷ replicate n (Digits 16))
    (name_text first ++ (flat_map (λ v. 32 ∷ doubleword_text v) values ++ 10 ∷ []))) size
    (values_then 16 doubleword_text doubleword_digits (Fixed first) (name_text first) refl refl values))

general_row : (last : ℕ) (first : Name) (label values : List ℕ) → label ≡ codes "GR " ++ name_text first
    → length values ≡ 4 → IsRow last (row.General first) (general_line label values)
unfolding IsRow general_line
general_row last first label values is size =
    subst (λ l. Spelled (Fixed name.General ∷ Fixed first ∷ Digits 16 ∷ Digits 16 ∷ Digits 16 ∷ Digits 16
    ∷ [])
    (l ++ (flat_map (λ v. 32 ∷ doubleword_text v) values ++ 10 ∷ []))) (sym is)
    (four_words first values size)

eight_words : (first : Name) (values : List ℕ) → length values ≡ 8
    → Spelled (Fixed name.Access ∷ Fixed first ∷ replicate 8 (Digits 8))
    (codes "AR" ++ 32 ∷ (name_text first ++ (flat_map (λ v. 32 ∷ word_text v) values ++ 10 ∷ [])))
eight_words first values size =
    word_then (Fixed name.Access) _ _ (codes "AR") _ 32 refl refl
    (subst (λ n. Spelled (Fixed first ∷ replicate n (Digits 8))
    (name_text first ++ (flat_map (λ v. 32 ∷ word_text v) values ++ 10 ∷ []))) size
    (values_then 8 word_text word_digits (Fixed first) (name_text first) refl refl values))

access_row : (last : ℕ) (first : Name) (label values : List ℕ) → label ≡ codes "AR " ++ name_text first
    → length values ≡ 8 → IsRow last (row.Access first) (access_line label values)
unfolding IsRow access_line
access_row last first label values is size =
    subst (λ l. Spelled (Fixed name.Access ∷ Fixed first ∷ replicate 8 (Digits 8))
    (l ++ (flat_map (λ v. 32 ∷ word_text v) values ++ 10 ∷ []))) (sym is)
    (eight_words first values size)

attempt_row : (last : ℕ) (o : Option Attempt) → IsShort o → IsRow last row.Attempt (attempt_line o)
unfolding IsRow attempt_line live_line labelled
attempt_row last None short =
    inl (word_then (Fixed name.Transaction) _ _ (codes "TX") _ 32 refl refl
    (word_last (Fixed name.Nothing) (codes "NONE") refl))
attempt_row last (Some a) short =
    let deep = short.0 in
    let few = short.1 in
    inr (word_then (Fixed name.Transaction) _ _ (codes "TX") _ 32 refl refl
    (word_then (Fixed name.Depth) _ _ (codes "DEPTH") _ 32 refl refl
    (word_then (AtMost most) _ _ (decimal a.depth) _ 32 refl (a_number most a.depth deep (omega
    (arith, deep)))
    (word_then (Fixed name.Completed) _ _ (codes "COMPLETED") _ 32 refl refl
    (word_last (AtMost most_completed) (decimal a.completed)
    (a_number most_completed a.completed (omega (arith, few)) few))))))

pending_row : (last : ℕ) (o : Option ℕ) → IsRow last row.Pending (pending_line o)
unfolding IsRow pending_line
pending_row last None =
    inl (word_then (Fixed name.Pending) _ _ (codes "PENDING") _ 32 refl refl
    (word_last (Fixed name.Nothing) (codes "NONE") refl))
pending_row last (Some address) =
    inr (word_then (Fixed name.Pending) _ _ (codes "PENDING") _ 32 refl refl
    (word_last (Digits 16) (doubleword_text address) (doubleword_digits address)))

counts_row : (last : ℕ) (c : Counts) → AreCounts c → IsRow last row.Counts (counts_line c)
unfolding IsRow counts_line labelled
counts_row last c are =
    let turns = are.turns in
    let asked = are.asked in
    let rejected = are.rejected in
    let commits = are.commits in
    let aborts = are.aborts in
    word_then (Fixed name.Counts) _ _ (codes "COUNTS") _ 32 refl refl
    (word_then (Fixed name.Turns) _ _ (codes "TURNS") _ 32 refl refl
    (word_then (AtMost most) _ _ (decimal c.turns) _ 32 refl (a_number most c.turns turns (omega
    (arith, turns)))
    (word_then (Fixed name.Asked) _ _ (codes "ASKED") _ 32 refl refl
    (word_then (AtMost most) _ _ (decimal c.asked) _ 32 refl (a_number most c.asked asked (omega
    (arith, asked)))
    (word_then (Fixed name.Rejected) _ _ (codes "REJECTED") _ 32 refl refl
    (word_then (AtMost most) _ _ (decimal c.rejected) _ 32 refl
    (a_number most c.rejected rejected (omega (arith, rejected)))
    (word_then (Fixed name.Commits) _ _ (codes "COMMITS") _ 32 refl refl
    (word_then (AtMost most) _ _ (decimal c.commits) _ 32 refl
    (a_number most c.commits commits (omega (arith, commits)))
    (word_then (Fixed name.Aborts) _ _ (codes "ABORTS") _ 32 refl refl
    (word_last (AtMost most) (decimal c.aborts) (a_number most c.aborts aborts (omega
    (arith, aborts)))))))))))))

-- ---- a CPU

so_many : (n k : ℕ) (xs : List ℕ) → k + n ≤ length xs → length (take n (drop k xs)) ≡ n
so_many n k xs enough =
    length-take-le n (drop k xs) (let d = length-drop k xs in omega (arith, d, enough))

first_many : (n : ℕ) (xs : List ℕ) → n ≤ length xs → length (take n xs) ≡ n
first_many n xs enough = length-take-le n xs enough

cpu_tells : (last i : ℕ) (c : ShownCpu) → i < 2 ^ 64 → i ≤ last → CanBeTold c
    → Tells last (rows_of cpu_parts) (cpu_list i c)
cpu_tells last i c fits within h =
    let general = c.cpu.general in
    let access = c.cpu.access in
    let g = h.general in
    let a = h.access in
    tells_more last _ _ _ _ (state_row last i c.cpu.state fits within)
    (tells_more last _ _ _ _ (psw_row last c.cpu h.condition h.mask)
    (tells_more last _ _ _ _
    (general_row last name.From0 (codes "GR 00") (take 4 general) refl (first_many 4 general (omega
    (arith, g))))
    (tells_more last _ _ _ _
    (general_row last name.From4 (codes "GR 04") (take 4 (drop 4 general)) refl (so_many 4 4 general (omega
    (arith, g))))
    (tells_more last _ _ _ _
    (general_row last name.From8 (codes "GR 08") (take 4 (drop 8 general)) refl (so_many 4 8 general (omega
    (arith, g))))
    (tells_more last _ _ _ _
    (general_row last name.From12 (codes "GR 12") (take 4 (drop 12 general)) refl
    (so_many 4 12 general (omega (arith, g))))
    (tells_more last _ _ _ _
    (access_row last name.From0 (codes "AR 00") (take 8 access) refl (first_many 8 access (omega (arith, a))))
    (tells_more last _ _ _ _
    (access_row last name.From8 (codes "AR 08") (take 8 (drop 8 access)) refl (so_many 8 8 access (omega
    (arith, a))))
    (tells_more last _ _ _ _ (attempt_row last c.attempt h.attempt)
    (tells_more last _ _ _ _ (pending_row last c.pending)
    (tells_more last _ _ _ _ (counts_row last c.counts h.counts) (tells_nothing last)))))))))))

-- ---- all CPUs

-- a CPU in front of others
pub cpus_front : (n : ℕ) → rows_of (cpus_parts (suc n)) ≡ rows_of cpu_parts ++ rows_of (cpus_parts n)
cpus_front zero = refl
cpus_front (suc n) =
    let cut = λ (k : ℕ). flat_map-append (λ (p : Part). replicate p.count p.row) (cpus_parts k) cpu_parts in
    cut (suc n) ∙ ap (λ rows. rows ++ rows_of cpu_parts) (cpus_front n)
    ∙ append_assoc (rows_of cpu_parts) (rows_of (cpus_parts n)) (rows_of cpu_parts)
    ∙ ap (λ rows. rows_of cpu_parts ++ rows) (sym (cut n))

-- the lines of CPUs, whose numbers begin with this
pub cpus_tell : (last n : ℕ) (cpus : List ShownCpu) → last < 2 ^ 64 → n + length cpus ≤ last + 1
    → ((k : ℕ) (c : ShownCpu) → slice_get cpus k ≡ Some c → CanBeTold c)
    → Tells last (rows_of (cpus_parts (length cpus))) (cpus_list n cpus)
unfolding cpus_list
cpus_tell last n [] fits within each = tells_nothing last
cpus_tell last n (c ∷ cs) fits within each =
    let low : n ≤ last = omega (arith, within) in
    let one = cpu_tells last n c (omega (arith, low, fits)) low (each 0 c refl) in
    let more = cpus_tell last (n + 1) cs fits (omega (arith, within)) (λ k d at. each (suc k) d at) in
    subst (λ rows. Tells last rows (cpu_list n c ++ cpus_list (n + 1) cs)) (sym (cpus_front (length cs)))
    (tells_behind last (rows_of cpu_parts) (rows_of (cpus_parts (length cs))) (cpu_list n c) (cpus_list
    (n + 1) cs)
    one more)
