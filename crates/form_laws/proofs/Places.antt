-- Where the lines of a report stand.
use Rattle.std.proofs.Common.{◌≡◌, ◌∙◌, ap, sym, refl, ℕ, zero, suc, ◌+◌, ◌*◌, ◌/◌, ◌%◌, arith}
use Rattle.std.proofs.Common.{Bool, true, false, List, [], ◌∷◌, ◌++◌, append_assoc, append-nil, length}
use Rattle.std.proofs.Common.{length-append}
use Rattle.std.proofs.Common.{take, drop, get_or, map, Some, inl, inr}
use Rattle.std.specs.Prelude.{codes, replicate, slice_get, if◌then◌else◌, ◌==◌}
use Rattle.std.specs.List.{flat_map}
use Rattle.std.proofs.lemmas.Bool.{cases_lt}
use Rattle.std.proofs.lemmas.List.{length-map, length-replicate}
use Rattle.std.proofs.lemmas.List.Concat.{flat_map-append}
use Rattle.std.proofs.Math.Seq.{take-append_seam}
use Rattle.tx_journal.specs.Content.{Content}
use Rattle.tx_journal.specs.Lines.{entry_text}
use Rattle.tx_journal.specs.Schedule.{schedule_text}
use Rattle.tx_journal.specs.declared.image.Show.{Show}
use Rattle.report_form.specs.declared.rows.Row.TheVariants as row
use Rattle.report_form.specs.declared.lines.Part.{Part}
use Rattle.report_form.specs.Lines.{rows_of}
use Rattle.report_form.specs.Sheet.{cpus_parts, cpu_parts, show_parts, history_at, once, times}
use Rattle.report_text.specs.Digits.{number_line}
use Rattle.report_text.specs.Processor.{attempt_line, counts_line}
use Rattle.report_text.specs.Report.{schedule_lines}
use Rattle.report_text.specs.Storage.{bytes_at, block_line}
use Rattle.report_text.specs.Shown.{Shown, ShownCpu}
use Rattle.form_laws.proofs.Lists.{lines_to, cpu_list, cpus_list, bytes_piece, bytes_list, show_list}
use Rattle.form_laws.proofs.Lists.{shows_list}
use Rattle.form_laws.proofs.Lists.{head_list, behind_entries, behind_head, report_list, schedule_list}
use Rattle.form_laws.proofs.Lists.{schedule_told, joined}
use Rattle.form_laws.proofs.CpuRows.{cpus_front}
use Rattle.form_laws.proofs.Telling.{zero_left, some_left}

-- ---- how many lines

numbered_length : (piece : ℕ → List ℕ) (n : ℕ) → length (lines_to piece n) ≡ n
unfolding lines_to
numbered_length piece zero = refl
numbered_length piece (suc n) =
    let a = length-append (lines_to piece n) (piece n ∷ []) in
    let more = numbered_length piece n in
    omega (arith, a, more)

cpus_length : (n : ℕ) (cpus : List ShownCpu)
    → length (cpus_list n cpus) ≡ length (rows_of (cpus_parts (length cpus)))
unfolding cpus_list
cpus_length n [] = refl
cpus_length n (c ∷ cs) =
    let a = length-append (cpu_list n c) (cpus_list (n + 1) cs) in
    let b = ap length (cpus_front (length cs)) in
    let d = length-append (rows_of cpu_parts) (rows_of (cpus_parts (length cs))) in
    let more = cpus_length (n + 1) cs in
    let eleven : length (rows_of cpu_parts) ≡ 11 = refl in
    omega (arith, a, b, d, more, eleven)

left_by : (n : ℕ) → (if n % 16 == 0 then 0 else 1) + n / 16 ≡ (n + 15) / 16
left_by n =
    elim (cases_lt 0 (n % 16)) [
      | inl some ↦ ap (λ (b : Bool). (if b then 0 else 1) + n / 16) (some_left n some) ∙ omega (arith, some)
      | inr none ↦
          let is : n % 16 ≡ 0 = omega (arith, none) in
          ap (λ (b : Bool). (if b then 0 else 1) + n / 16) (zero_left n is) ∙ omega (arith, is)
    ]

show_length : (storage : List ℕ) (s : Show) → length (show_list storage s) ≡ length (rows_of (show_parts s))
unfolding show_list
show_length storage s = by s.fields
  where
    by : (b : Bool)
        → length (if b then block_line s.first (bytes_at storage s.first 256) ∷ []
        else bytes_list storage s.first s.length)
        ≡ length (rows_of (if b then once row.Block ∷ []
        else times (s.length / 16) (row.Bytes 32)
        ∷ times (if s.length % 16 == 0 then 0 else 1) (row.Bytes (2 * (s.length % 16))) ∷ []))
    by true = refl
    by false =
        let n = s.length in
        let full = replicate (n / 16) (row.Bytes 32) in
        let rest = replicate (if n % 16 == 0 then 0 else 1) (row.Bytes (2 * (n % 16))) in
        let a = numbered_length (bytes_piece storage s.first n) ((n + 15) / 16) in
        let b = length-append full (rest ++ []) in
        let c = ap length (append-nil rest) in
        let d = length-replicate (n / 16) (row.Bytes 32) in
        let e = length-replicate (if n % 16 == 0 then 0 else 1) (row.Bytes (2 * (n % 16))) in
        let f = left_by n in
        omega (arith, a, b, c, d, e, f)

shows_length : (storage : List ℕ) (shows : List Show)
    → length (shows_list storage shows) ≡ length (rows_of (flat_map show_parts shows))
unfolding shows_list
shows_length storage [] = refl
shows_length storage (s ∷ shows) =
    let a = length-append (show_list storage s) (shows_list storage shows) in
    let b = ap length (flat_map-append (λ (p : Part). replicate p.count p.row) (show_parts s)
    (flat_map show_parts shows)) in
    let c = length-append (rows_of (show_parts s)) (rows_of (flat_map show_parts shows)) in
    let one = show_length storage s in
    let more = shows_length storage shows in
    omega (arith, a, b, c, one, more)

-- the count of entries stands behind the head
pub head_length : (image : Content) (s : Shown) → length s.cpus ≡ length image.cpus → s.shows ≡ image.shows
    → length (head_list s) ≡ history_at image
head_length image s count shows =
    let cpus = cpus_length 0 s.cpus in
    let shown = shows_length s.storage s.shows in
    let a = length-append (cpus_list 0 s.cpus) (shows_list s.storage s.shows) in
    let b = ap length (flat_map-append (λ (p : Part). replicate p.count p.row) (cpus_parts
    (length image.cpus))
    (flat_map show_parts image.shows)) in
    let c = length-append (rows_of (cpus_parts (length image.cpus))) (rows_of
    (flat_map show_parts image.shows)) in
    let d = ap (λ (n : ℕ). length (rows_of (cpus_parts n))) count in
    let e = ap (λ (shows : List Show). length (rows_of (flat_map show_parts shows))) shows in
    omega (arith, cpus, shown, a, b, c, d, e)

-- ---- a line at its place

pub behind : (xs : List (List ℕ)) (x : List ℕ) (ys : List (List ℕ)) (n : ℕ) → length xs ≡ n
    → drop (n + 1) (xs ++ x ∷ ys) ≡ ys
behind [] x ys n is = ap (λ k. drop (k + 1) (x ∷ ys)) (sym is)
behind (z ∷ xs) x ys n is =
    let e : n + 1 ≡ suc (length xs + 1) = omega (arith, is) in
    ap (λ k. drop k (z ∷ (xs ++ x ∷ ys))) e ∙ behind xs x ys (length xs) refl

pub there : (xs : List (List ℕ)) (x : List ℕ) (ys : List (List ℕ)) (n : ℕ) → length xs ≡ n
    → get_or (xs ++ x ∷ ys) n [] ≡ x
there [] x ys n is = ap (λ k. get_or (x ∷ ys) k []) (sym is)
there (z ∷ xs) x ys n is = ap (λ k. get_or (z ∷ (xs ++ x ∷ ys)) k []) (sym is)
    ∙ there xs x ys (length xs) refl

from : (xs : List (List ℕ)) (x : List ℕ) (ys : List (List ℕ)) (n : ℕ) → length xs ≡ n
    → drop n (xs ++ x ∷ ys) ≡ x ∷ ys
from [] x ys n is = ap (λ k. drop k (x ∷ ys)) (sym is)
from (z ∷ xs) x ys n is = ap (λ k. drop k (z ∷ (xs ++ x ∷ ys))) (sym is) ∙ from xs x ys (length xs) refl

get_front : (xs ys : List (List ℕ)) (k : ℕ) (x : List ℕ) → slice_get xs k ≡ Some x
    → slice_get (xs ++ ys) k ≡ Some x
get_front [] ys k x at = absurd cc
get_front (y ∷ xs) ys zero x at = at
get_front (y ∷ xs) ys (suc k) x at = get_front xs ys k x at

get_behind : (xs ys : List (List ℕ)) (k : ℕ) → slice_get (xs ++ ys) (length xs + k) ≡ slice_get ys k
get_behind [] ys k = ap (slice_get ys) (omega arith)
get_behind (y ∷ xs) ys k =
    let place : length (y ∷ xs) + k ≡ suc (length xs + k) = omega arith in
    ap (slice_get ((y ∷ xs) ++ ys)) place ∙ get_behind xs ys k

-- the lines of a CPU among those of all
cpu_at : (n : ℕ) (cpus : List ShownCpu) (i j : ℕ) (c : ShownCpu) (line : List ℕ) → slice_get cpus i ≡ Some c
    → ((k : ℕ) → slice_get (cpu_list k c) j ≡ Some line)
    → slice_get (cpus_list n cpus) (11 * i + j) ≡ Some line
unfolding cpus_list
cpu_at n [] i j c line at is = absurd cc
cpu_at n (d ∷ cs) zero j c line at is =
    let same : d ≡ c = cc in
    let place : 11 * zero + j ≡ j = omega arith in
    ap (slice_get (cpu_list n d ++ cpus_list (n + 1) cs)) place
    ∙ get_front (cpu_list n d) (cpus_list (n + 1) cs) j line
    (ap (λ (x : ShownCpu). slice_get (cpu_list n x) j) same ∙ is n)
cpu_at n (d ∷ cs) (suc i) j c line at is =
    let place : 11 * suc i + j ≡ length (cpu_list n d) + (11 * i + j) = omega arith in
    ap (slice_get (cpu_list n d ++ cpus_list (n + 1) cs)) place
    ∙ get_behind (cpu_list n d) (cpus_list (n + 1) cs) (11 * i + j) ∙ cpu_at (n + 1) cs i j c line at is

-- and among those of the report
line_at : (s : Shown) (i j : ℕ) (c : ShownCpu) (line : List ℕ) → slice_get s.cpus i ≡ Some c
    → ((k : ℕ) → slice_get (cpu_list k c) j ≡ Some line)
    → slice_get (report_list s) (2 + 11 * i + j) ≡ Some line
line_at s i j c line at is =
    let place : 2 + 11 * i + j ≡ suc (suc (11 * i + j)) = omega arith in
    let behind_head = number_line (codes "HISTORY ") (length s.history) ∷ behind_head s in
    ap (slice_get (report_list s)) place
    ∙ get_front (cpus_list 0 s.cpus ++ shows_list s.storage s.shows) behind_head (11 * i + j) line
    (get_front (cpus_list 0 s.cpus) (shows_list s.storage s.shows) (11 * i + j) line
    (cpu_at 0 s.cpus i j c line at is))

pub attempt_at : (s : Shown) (i : ℕ) (c : ShownCpu) → slice_get s.cpus i ≡ Some c
    → slice_get (report_list s) (2 + 11 * i + 8) ≡ Some (attempt_line c.attempt)
attempt_at s i c at = line_at s i 8 c (attempt_line c.attempt) at (λ k. refl)

pub counts_at : (s : Shown) (i : ℕ) (c : ShownCpu) → slice_get s.cpus i ≡ Some c
    → slice_get (report_list s) (2 + 11 * i + 10) ≡ Some (counts_line c.counts)
counts_at s i c at = line_at s i 10 c (counts_line c.counts) at (λ k. refl)

-- ---- entries and events

-- the count of entries
pub entries_counted : (s : Shown) (n : ℕ) → length (head_list s) ≡ n
    → get_or (report_list s) n [] ≡ number_line (codes "HISTORY ") (length s.history)
entries_counted s n is = there (head_list s) (number_line (codes "HISTORY ") (length s.history))
    (behind_head s) n is

-- the lines of the entries
pub entries_at : (s : Shown) (n : ℕ) → length (head_list s) ≡ n
    → take (length s.history) (drop (n + 1) (report_list s)) ≡ map entry_text s.history
entries_at s n is =
    let size : length s.history ≡ length (map entry_text s.history) = sym (length-map s.history entry_text) in
    ap (take (length s.history))
    (behind (head_list s) (number_line (codes "HISTORY ") (length s.history)) (behind_head s) n is)
    ∙ ap (λ k. take k (behind_head s)) size ∙ take-append_seam (map entry_text s.history) (behind_entries s)

-- the text of the events, from their count on
pub events_at : (s : Shown) (n k : ℕ) → length (head_list s) ≡ n → k ≡ n + 1 + length s.history
    → joined (drop k (report_list s)) ≡ schedule_lines s.events ++ codes "END\n"
unfolding schedule_lines
events_at s n k is at =
    let counted = number_line (codes "HISTORY ") (length s.history) in
    let recorded = number_line (codes "SCHEDULE ") (length s.events) in
    let before = head_list s ++ counted ∷ map entry_text s.history in
    let again : before ++ recorded ∷ schedule_list s.events ≡ report_list s =
    append_assoc (head_list s) (counted ∷ map entry_text s.history) (behind_entries s) in
    let size : length before ≡ k =
    (let a = length-append (head_list s) (counted ∷ map entry_text s.history) in
    let b = length-map s.history entry_text in
    omega (arith, a, b, is, at)) in
    ap (λ ls. joined (drop k ls)) (sym again)
    ∙ ap joined (from before recorded (schedule_list s.events) k size)
    ∙ ap (λ t. recorded ++ t) (schedule_told s.events)
    ∙ sym (append_assoc recorded (schedule_text s.events) (codes "END\n"))
