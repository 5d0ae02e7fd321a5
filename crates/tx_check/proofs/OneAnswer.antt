-- At most one answer is due of a report.
use Rattle.std.proofs.Common.{◌≡◌, ◌≢◌, ◌∙◌, ap, ap₂, sym, refl, subst, ℕ, zero, suc, ◌+◌, ◌<◌, ◌^◌, arith, inl, inr}
use Rattle.std.proofs.Common.{List, [], ◌∷◌, ◌++◌, length, take, drop, get_or, Option, Some, None}
use Rattle.std.specs.Prelude.{codes, slice_get, Result, Ok, Err}
use Rattle.std.specs.Fmt.{decimal}
use Rattle.std.proofs.lemmas.Bool.{cases_lt}
use Rattle.std.proofs.lemmas.Fmt.{decimal_injective}
use Rattle.std.proofs.lemmas.List.{append_cancel_right}
use Rattle.tx_journal.specs.Content.{Content}
use Rattle.tx_journal.specs.declared.entries.Entry.{Entry}
use Rattle.tx_journal.proofs.Decimals.{same_start}
use Rattle.tx_serial.specs.Flat.{FlatState, bytes_of}
use Rattle.tx_serial.specs.History.{replay}
use Rattle.tx_meaning.specs.Idle.{finished_by}
use Rattle.report_form.specs.Sheet.{HasForm, history_at}
use Rattle.report_form.proofs.OneFault.{one_fault, same_counts, no_fault}
use Rattle.report_text.specs.Shown.{Shown, ShownCpu}
use Rattle.report_text.specs.Processor.{attempt_line, counts_line}
use Rattle.report_text.specs.Report.{report_text, run_part, state_part, history_lines}
use Rattle.report_text.specs.declared.processors.Attempt.{Attempt}
use Rattle.report_text.specs.declared.processors.Counts.{Counts}
use Rattle.tx_replay.specs.Replay.{IsReplay, IsFirstMisfit}
use Rattle.tx_check.specs.declared.checking.CheckFault.{CheckFault}
use Rattle.tx_check.specs.declared.checking.CheckFault.TheVariants.{Memory, Form, Entry as AtEntry, State}
use Rattle.tx_check.specs.Lines.{lines_of, FirstDifference}
use Rattle.tx_check.specs.Told.{IsTold, cpu_in}
use Rattle.tx_check.specs.Sound.{AreSmall, IsSmall, Believes, IsTaken, IsExpected, cpu_place}
use Rattle.tx_check.specs.Answers.{IsDue, IsAccepted, HasMisfit, Differs}
use Rattle.tx_check.proofs.ClaimLines.{counts_told, live_told, none_told}
use Rattle.std.proofs.lemmas.Option.{same_Some}

-- ---- the numbers that a line tells

-- the counts that are taken from a line
record SameCounts (c d : Counts) : Type 0 where
  turns : c.turns ≡ d.turns
  asked : c.asked ≡ d.asked
  rejected : c.rejected ≡ d.rejected

-- what stands behind a label in a line of counts
abbrev behind_rejected : Counts → List ℕ
behind_rejected c = codes "COMMITS " ++ (decimal c.commits ++ (codes " ABORTS " ++ (decimal c.aborts ++ 10 ∷ [])))

abbrev behind_asked : Counts → List ℕ
behind_asked c = codes "REJECTED " ++ (decimal c.rejected ++ 32 ∷ behind_rejected c)

abbrev behind_turns : Counts → List ℕ
behind_turns c = codes "ASKED " ++ (decimal c.asked ++ 32 ∷ behind_asked c)

counts_split : (c : Counts)
    → counts_line c ≡ codes "COUNTS TURNS " ++ (decimal c.turns ++ 32 ∷ behind_turns c)
counts_split c = sym (counts_told c.turns c.asked c.rejected c.commits c.aborts)

-- a line of counts tells its first three numbers
one_tally : (c d : Counts) → AreSmall c → AreSmall d → counts_line c ≡ counts_line d → SameCounts c d
one_tally c d small also is =
    let turns =
    same_start _ c.turns d.turns (behind_turns c) (behind_turns d) small.turns also.turns refl
    (ap (drop 13) (sym (counts_split c) ∙ is ∙ counts_split d)) in
    let asked =
    same_start _ c.asked d.asked (behind_asked c) (behind_asked d) small.asked also.asked refl
    (ap (drop 6) turns.rest) in
    let rejected =
    same_start _ c.rejected d.rejected (behind_rejected c) (behind_rejected d) small.rejected also.rejected refl
    (ap (drop 9) asked.rest) in
    record { turns = turns.number; asked = asked.number; rejected = rejected.number }

-- a number at the end of a line
one_end : (m n : ℕ) → m < 2 ^ 64 → n < 2 ^ 64 → decimal m ++ 10 ∷ [] ≡ decimal n ++ 10 ∷ [] → m ≡ n
one_end m n m_in n_in is =
    decimal_injective m n m_in n_in (append_cancel_right (decimal m) (decimal n) (10 ∷ []) is)

abbrev behind_depth : Attempt → List ℕ
behind_depth a = codes "COMPLETED " ++ (decimal a.completed ++ 10 ∷ [])

live_split : (a : Attempt)
    → attempt_line (Some a) ≡ codes "TX DEPTH " ++ (decimal a.depth ++ 32 ∷ behind_depth a)
live_split a = sym (live_told a.depth a.completed)

none_live : (a : Attempt) → attempt_line None ≡ attempt_line (Some a) → ⊥
none_live a is =
    let letter : 78 ≡ 68 = ap (λ (t : List ℕ). get_or t 3 0) (none_told ∙ is ∙ live_split a) in
    omega (arith, letter)

-- a line of an attempt tells it
one_claim : (a b : Option Attempt) → IsSmall a → IsSmall b → attempt_line a ≡ attempt_line b → a ≡ b
one_claim None None small also is = refl
one_claim None (Some b) small also is = absurd (none_live b is)
one_claim (Some a) None small also is = absurd (none_live a (sym is))
one_claim (Some a) (Some b) small also is =
    let depth =
    same_start _ a.depth b.depth (behind_depth a) (behind_depth b) small.0 also.0 refl
    (ap (drop 9) (sym (live_split a) ∙ is ∙ live_split b)) in
    let completed = one_end a.completed b.completed small.1 also.1 (ap (drop 10) depth.rest) in
    λ k. Some (record { depth = depth.number k; completed = completed k })

-- ---- CPUs

one_belief : (f : FlatState) (i : ℕ) (claim a b : Option Attempt) → Believes f i claim a → Believes f i claim b
    → a ≡ b
one_belief f i None a b h g = h ∙ sym g
one_belief f i (Some c) a b (inl h) (inl g) = h.0 ∙ sym g.0
one_belief f i (Some c) a b (inl h) (inr g) = absurd (g.1 h.1)
one_belief f i (Some c) a b (inr h) (inl g) = absurd (h.1 g.1)
one_belief f i (Some c) a b (inr h) (inr g) = h.0 ∙ sym g.0

-- what is told of a CPU and taken from its lines is determined
one_cpu : (lines : List (List ℕ)) (place : ℕ) (f : FlatState) (history : List Entry) (i : ℕ) (c d : ShownCpu)
    → IsTaken lines place f i c → IsTaken lines place f i d → IsTold f history i c → IsTold f history i d → c ≡ d
one_cpu lines place f history i c d h g t u =
    let counts =
    one_tally h.counts g.counts h.printed.small_counts g.printed.small_counts
    (same_Some _ _ (sym h.printed.counted ∙ g.printed.counted)) in
    let claim =
    one_claim h.claim g.claim h.printed.small g.printed.small
    (same_Some _ _ (sym h.printed.claimed ∙ g.printed.claimed)) in
    let attempt =
    one_belief f i g.claim c.attempt d.attempt (subst (λ o. Believes f i o c.attempt) claim h.believed) g.believed in
    let cpu = t.cpu ∙ ap (cpu_in f i) attempt ∙ sym u.cpu in
    let turns = h.turns ∙ counts.turns ∙ sym g.turns in
    let asked = h.asked ∙ counts.asked ∙ sym g.asked in
    let rejected = h.rejected ∙ counts.rejected ∙ sym g.rejected in
    let commits = t.commits ∙ sym u.commits in
    let aborts = t.aborts ∙ sym u.aborts in
    let pending = t.pending ∙ sym u.pending in
    let finished = t.finished ∙ ap (finished_by (f.pending i)) cpu ∙ sym u.finished in
    λ k. record {
      cpu = cpu k;
      attempt = attempt k;
      pending = pending k;
      counts = record {
        turns = turns k;
        asked = asked k;
        rejected = rejected k;
        commits = commits k;
        aborts = aborts k;
      };
      finished = finished k;
    }

-- lists of CPUs that agree at each place
one_list : (xs ys : List ShownCpu) → length xs ≡ length ys
    → ((i : ℕ) (x y : ShownCpu) → slice_get xs i ≡ Some x → slice_get ys i ≡ Some y → x ≡ y) → xs ≡ ys
one_list [] [] size each = refl
one_list [] (y ∷ ys) size each = absurd (omega (arith, size))
one_list (x ∷ xs) [] size each = absurd (omega (arith, size))
one_list (x ∷ xs) (y ∷ ys) size each =
    ap₂ (λ z zs. z ∷ zs) (each 0 x y refl refl)
    (one_list xs ys (omega (arith, size)) (λ i. each (suc i)))

-- ---- the report that is expected

abbrev entry_lines : Content → List (List ℕ) → ℕ → List (List ℕ)
entry_lines image lines entries = take entries (drop (history_at image + 1) lines)

-- what tx_replay says of all lines: they have one history, or one first misfit, never both
abbrev HaveOneHistory : Type 0
HaveOneHistory =
    (image : Content) (lines : List (List ℕ)) (some others : List Entry) (f g : FlatState)
    → IsReplay image lines some f → IsReplay image lines others g → some ≡ others

abbrev HaveOneMisfit : Type 0
HaveOneMisfit =
    (image : Content) (lines : List (List ℕ)) (some other : ℕ)
    → IsFirstMisfit image lines some → IsFirstMisfit image lines other → some ≡ other

abbrev HaveNeverBoth : Type 0
HaveNeverBoth =
    (image : Content) (lines : List (List ℕ)) (entries : List Entry) (f : FlatState) (number : ℕ)
    → IsReplay image lines entries f → ¬ IsFirstMisfit image lines number

-- the entries of the report that is expected are read from the lines
expected_replay : (image : Content) (lines : List (List ℕ)) (entries : ℕ) (s : Shown) (f : FlatState)
    → IsExpected image lines entries s f → IsReplay image (entry_lines image lines entries) s.history f
expected_replay image lines entries s f e = record {
  sound = e.left.sound;
  texts = e.history;
  replayed = e.left.replayed;
}

-- one report is expected
one_report : HaveOneHistory → (image : Content) (lines : List (List ℕ)) (entries : ℕ) (s t : Shown) (f g : FlatState)
    → IsExpected image lines entries s f → IsExpected image lines entries t g → report_text s ≡ report_text t
unfolding report_text run_part
one_report one_history image lines entries s t f g e d =
    let history : s.history ≡ t.history =
    one_history image (entry_lines image lines entries) s.history t.history f g
    (expected_replay image lines entries s f e) (expected_replay image lines entries t g d) in
    let after : f ≡ g = same_Some _ _ (sym e.left.replayed ∙ ap (replay image) history ∙ d.left.replayed) in
    let told : (i : ℕ) (c : ShownCpu) → slice_get s.cpus i ≡ Some c → IsTold g t.history i c =
    λ i c at. subst (λ (x : FlatState). IsTold x t.history i c) after
    (subst (λ (x : List Entry). IsTold f x i c) history (e.left.cpus i c at)) in
    let cpus : s.cpus ≡ t.cpus =
    one_list s.cpus t.cpus (e.left.count ∙ sym d.left.count)
    (λ i c k at there. one_cpu lines (cpu_place i) g t.history i c k
    (subst (λ (x : FlatState). IsTaken lines (cpu_place i) x i c) after (e.taken i c at)) (d.taken i k there)
    (told i c at) (d.left.cpus i k there)) in
    let shows = e.left.shows ∙ sym d.left.shows in
    let storage = e.left.storage ∙ ap (λ (x : FlatState). bytes_of x.storage) after ∙ sym d.left.storage in
    let events = sym e.events ∙ d.events in
    λ k. state_part (cpus k) (shows k) (storage k) ++ (history_lines (history k) ++ events k)

-- ---- where texts differ

front_same : (xs ys : List (List ℕ)) (k n : ℕ) → k < n → take n xs ≡ take n ys → slice_get xs k ≡ slice_get ys k
front_same xs ys k zero below is = absurd (omega (arith, below))
front_same [] [] k (suc n) below is = refl
front_same [] (y ∷ ys) k (suc n) below is = absurd cc
front_same (x ∷ xs) [] k (suc n) below is = absurd cc
front_same (x ∷ xs) (y ∷ ys) zero (suc n) below is = ap Some (let e : x ≡ y = cc in e)
front_same (x ∷ xs) (y ∷ ys) (suc k) (suc n) below is =
    front_same xs ys k n (omega (arith, below)) (let e : take n xs ≡ take n ys = cc in e)

-- texts have one first difference
one_difference : (xs ys : List (List ℕ)) (m n : ℕ) → FirstDifference xs ys m → FirstDifference xs ys n → m ≡ n
one_difference xs ys m n a b =
    elim (cases_lt a.before b.before) [
      | inl low ↦ absurd (a.differs (front_same xs ys a.before b.before low b.same))
      | inr high ↦ elim (cases_lt b.before a.before) [
        | inl low ↦ absurd (b.differs (front_same xs ys b.before a.before low a.same))
        | inr least ↦
            let same : a.before ≡ b.before = omega (arith, high, least) in
            a.counted ∙ ap (λ k. k + 1) same ∙ sym b.counted
      ]
    ]

-- ---- two answers

module _ (one_history : HaveOneHistory) (one_misfit : HaveOneMisfit) (never_both : HaveNeverBoth) (image : Content)
    (report : List ℕ) where
  -- a report with an entry that does not fit has no history
  no_replay : (entries events number : ℕ) (s : Shown) (f : FlatState) → HasForm image (lines_of report) entries events
      → IsExpected image (lines_of report) entries s f → HasMisfit image (lines_of report) number → ⊥
  no_replay entries events number s f form e m =
      let same = (same_counts image (lines_of report) m.entries m.events entries events m.form form).0 in
      never_both image (entry_lines image (lines_of report) entries) s.history f number
      (expected_replay image (lines_of report) entries s f e)
      (subst (λ n. IsFirstMisfit image (entry_lines image (lines_of report) n) number) same m.misfit)

  -- a report that is accepted does not differ
  no_difference : (entries number : ℕ) → IsAccepted image report entries → Differs image report number → ⊥
  no_difference entries number a d =
      let same = (same_counts image (lines_of report) d.entries d.events entries a.events d.form a.form).0 in
      let text =
      one_report one_history image (lines_of report) entries a.due.shown d.shown a.due.after d.after a.due.expected
      (subst (λ n. IsExpected image (lines_of report) n d.shown d.after) same d.expected) in
      d.difference.differs (ap (λ (t : List ℕ). slice_get (lines_of t) d.difference.before) (a.due.told ∙ text))

  one_differing : (m n : ℕ) → Differs image report m → Differs image report n → m ≡ n
  one_differing m n a b =
      let same = (same_counts image (lines_of report) b.entries b.events a.entries a.events b.form a.form).0 in
      let text =
      one_report one_history image (lines_of report) a.entries a.shown b.shown a.after b.after a.expected
      (subst (λ k. IsExpected image (lines_of report) k b.shown b.after) same b.expected) in
      one_difference (lines_of report) (lines_of (report_text b.shown)) m n
      (subst (λ (t : List ℕ). FirstDifference (lines_of report) (lines_of t) m) text a.difference) b.difference

  one_misfitting : (m n : ℕ) → HasMisfit image (lines_of report) m → HasMisfit image (lines_of report) n → m ≡ n
  one_misfitting m n a b =
      let same = (same_counts image (lines_of report) b.entries b.events a.entries a.events b.form a.form).0 in
      one_misfit image (entry_lines image (lines_of report) a.entries) m n a.misfit
      (subst (λ k. IsFirstMisfit image (entry_lines image (lines_of report) k) n) same b.misfit)

  pub one_answer : (some other : Result ℕ CheckFault) → some ≢ Err Memory → other ≢ Err Memory
      → IsDue image report some → IsDue image report other → some ≡ other
  one_answer (Err Memory) other is_one other_is h g = absurd (is_one refl)
  one_answer some (Err Memory) is_one other_is h g = absurd (other_is refl)
  one_answer (Ok a) (Ok b) is_one other_is h g =
      ap Ok (same_counts image (lines_of report) a h.events b g.events h.form g.form).0
  one_answer (Ok a) (Err (Form n)) is_one other_is h g =
      absurd (no_fault image (lines_of report) a h.events n h.form g)
  one_answer (Ok a) (Err (AtEntry n)) is_one other_is h g =
      absurd (no_replay a h.events n h.due.shown h.due.after h.form h.due.expected g)
  one_answer (Ok a) (Err (State n)) is_one other_is h g = absurd (no_difference a n h g)
  one_answer (Err (Form m)) (Ok b) is_one other_is h g =
      absurd (no_fault image (lines_of report) b g.events m g.form h)
  one_answer (Err (Form m)) (Err (Form n)) is_one other_is h g =
      ap (λ k. Err (Form k)) (one_fault image (lines_of report) m n h g)
  one_answer (Err (Form m)) (Err (AtEntry n)) is_one other_is h g =
      absurd (no_fault image (lines_of report) g.entries g.events m g.form h)
  one_answer (Err (Form m)) (Err (State n)) is_one other_is h g =
      absurd (no_fault image (lines_of report) g.entries g.events m g.form h)
  one_answer (Err (AtEntry m)) (Ok b) is_one other_is h g =
      absurd (no_replay b g.events m g.due.shown g.due.after g.form g.due.expected h)
  one_answer (Err (AtEntry m)) (Err (Form n)) is_one other_is h g =
      absurd (no_fault image (lines_of report) h.entries h.events n h.form g)
  one_answer (Err (AtEntry m)) (Err (AtEntry n)) is_one other_is h g =
      ap (λ k. Err (AtEntry k)) (one_misfitting m n h g)
  one_answer (Err (AtEntry m)) (Err (State n)) is_one other_is h g =
      absurd (no_replay g.entries g.events m g.shown g.after g.form g.expected h)
  one_answer (Err (State m)) (Ok b) is_one other_is h g = absurd (no_difference b m g h)
  one_answer (Err (State m)) (Err (Form n)) is_one other_is h g =
      absurd (no_fault image (lines_of report) h.entries h.events n h.form g)
  one_answer (Err (State m)) (Err (AtEntry n)) is_one other_is h g =
      absurd (no_replay h.entries h.events n h.shown h.after h.form h.expected g)
  one_answer (Err (State m)) (Err (State n)) is_one other_is h g =
      ap (λ k. Err (State k)) (one_differing m n h g)
