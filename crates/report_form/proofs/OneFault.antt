-- Lines have a form or one first fault, and never both.
use Rattle.std.proofs.Common.{◌≡◌, ℕ, suc, ◌+◌, ◌<◌, List, [], ◌∷◌, ◌++◌, length, drop, refl, sym, ap, subst, inl, inr}
use Rattle.std.proofs.Common.{◌∙◌, arith}
use Rattle.std.specs.Prelude.{◌⊎◌}
use Rattle.std.specs.Fmt.{decimal}
use Rattle.std.proofs.lemmas.Fmt.{decimal_injective}
use Rattle.tx_journal.specs.Content.{Content}
use Rattle.tx_journal.proofs.Decimals.{lacks_number}
use Rattle.report_form.specs.declared.words.Name.{Name}
use Rattle.report_form.specs.declared.words.Name.TheVariants as name
use Rattle.report_form.specs.declared.lines.Part.{Part}
use Rattle.report_form.specs.declared.rows.Row.{Row}
use Rattle.report_form.specs.Words.{name_text}
use Rattle.report_form.specs.Lines.{Fit, Faulty}
use Rattle.report_form.specs.Sheet.{head_parts, history_parts, schedule_parts, count_line, Counts, history_at}
use Rattle.report_form.specs.Sheet.{schedule_at, length_of, FitAt, HasHead, HasHistory, HasForm, FaultyAt}
use Rattle.report_form.specs.Sheet.{LacksCount, IsFirstFault, in_head, no_history, in_history, no_schedule}
use Rattle.report_form.specs.Sheet.{in_schedule, too_many}
use Rattle.report_form.proofs.Counted.{name_lacks, split_end}

abbrev Lines : Type 0
Lines = List (List ℕ)

-- ---- rows

fit_or_fault : (last : ℕ) (rows : List Row) (lines : Lines) (k : ℕ) → Fit last rows lines
    → Faulty last rows lines k → ⊥
fit_or_fault last [] lines k fit fault = fault
fit_or_fault last (r ∷ rows) [] k fit fault = fit
fit_or_fault last (r ∷ rows) (l ∷ lines) k fit (inl here) = here.1 fit.0
fit_or_fault last (r ∷ rows) (l ∷ lines) k fit (inr behind) =
    fit_or_fault last rows lines behind.1.before fit.1 behind.1.fault

one_place : (last : ℕ) (rows : List Row) (lines : Lines) (j k : ℕ) → Faulty last rows lines j
    → Faulty last rows lines k → j ≡ k
one_place last [] lines j k a b = absurd a
one_place last (r ∷ rows) [] j k a b = a ∙ sym b
one_place last (r ∷ rows) (l ∷ lines) j k (inl a) (inl b) = a.0 ∙ sym b.0
one_place last (r ∷ rows) (l ∷ lines) j k (inl a) (inr b) = absurd (a.1 b.0)
one_place last (r ∷ rows) (l ∷ lines) j k (inr a) (inl b) = absurd (b.1 a.0)
one_place last (r ∷ rows) (l ∷ lines) j k (inr a) (inr b) =
    a.1.counted ∙ ap suc (one_place last rows lines a.1.before b.1.before a.1.fault b.1.fault) ∙ sym b.1.counted

-- ---- counts

one_count : (n : Name) (lines : Lines) (at a b : ℕ) → Counts n lines at a → Counts n lines at b → a ≡ b
one_count n lines at a b one other =
    let same =
    split_end n (count_line n a) (name_text n) (decimal a ++ 10 ∷ []) (decimal a) [] b other.fits refl
    (name_lacks n) refl (lacks_number 10 a one.fits (omega arith)) (sym one.is ∙ other.is) in
    decimal_injective a b one.fits other.fits same.front

-- ---- how a part of a report ends: by a fault, or by the lack of a count behind it

abbrev Fault : Content → Lines → List Part → ℕ → Name → ℕ → ℕ → Type 0
Fault image lines parts at n behind number =
    FaultyAt image lines parts at number ⊎ (FitAt image lines parts at × LacksCount n lines behind number)

one_end : (image : Content) (lines : Lines) (parts : List Part) (at : ℕ) (n : Name) (behind j k : ℕ)
    → Fault image lines parts at n behind j → Fault image lines parts at n behind k → j ≡ k
one_end image lines parts at n behind j k (inl a) (inl b) =
    a.counted ∙ ap (λ m. at + m) (one_place _ _ (drop at lines) a.before b.before a.fault b.fault)
    ∙ sym b.counted
one_end image lines parts at n behind j k (inl a) (inr b) =
    absurd (fit_or_fault _ _ (drop at lines) a.before b.0 a.fault)
one_end image lines parts at n behind j k (inr a) (inl b) =
    absurd (fit_or_fault _ _ (drop at lines) b.before a.0 b.fault)
one_end image lines parts at n behind j k (inr a) (inr b) = a.1.counted ∙ sym b.1.counted

no_end : (image : Content) (lines : Lines) (parts : List Part) (at : ℕ) (n : Name) (behind j count : ℕ)
    → Fault image lines parts at n behind j → FitAt image lines parts at → Counts n lines behind count → ⊥
no_end image lines parts at n behind j count (inl a) fit there =
    fit_or_fault _ _ (drop at lines) a.before fit a.fault
no_end image lines parts at n behind j count (inr a) fit there = a.1.none count there

-- ---- the three parts

abbrev HeadFault : Content → Lines → ℕ → Type 0
HeadFault image lines number =
    Fault image lines (head_parts image) 0 name.History (history_at image) number

abbrev HistoryFault : Content → Lines → ℕ → ℕ → Type 0
HistoryFault image lines entries number =
    Fault image lines (history_parts entries) (history_at image + 1) name.Schedule (schedule_at image entries)
    number

record Surplus (image : Content) (lines : Lines) (entries events number : ℕ) : Type 0 where
  fit : FitAt image lines (schedule_parts events) (schedule_at image entries + 1)
  more : length_of image entries events < length lines
  counted : number ≡ length_of image entries events + 1

abbrev ScheduleFault : Content → Lines → ℕ → ℕ → ℕ → Type 0
ScheduleFault image lines entries events number =
    FaultyAt image lines (schedule_parts events) (schedule_at image entries + 1) number
    ⊎ Surplus image lines entries events number

record BehindHead (image : Content) (lines : Lines) (number : ℕ) : Type 0 where
  entries : ℕ
  head : HasHead image lines entries
  fault : HistoryFault image lines entries number

record BehindHistory (image : Content) (lines : Lines) (number : ℕ) : Type 0 where
  entries : ℕ
  events : ℕ
  history : HasHistory image lines entries events
  fault : ScheduleFault image lines entries events number

abbrev Place : Content → Lines → ℕ → Type 0
Place image lines number =
    HeadFault image lines number ⊎ (BehindHead image lines number ⊎ BehindHistory image lines number)

place_of : (image : Content) (lines : Lines) (number : ℕ) → IsFirstFault image lines number
    → Place image lines number
place_of image lines number (in_head f) = inl (inl f)
place_of image lines number (no_history fit lacks) = inl (inr (fit, lacks))
place_of image lines number (in_history e head f) = inr (inl record { entries = e; head = head; fault = inl f })
place_of image lines number (no_schedule e head fit lacks) =
    inr (inl record { entries = e; head = head; fault = inr (fit, lacks) })
place_of image lines number (in_schedule e v history f) =
    inr (inr record { entries = e; events = v; history = history; fault = inl f })
place_of image lines number (too_many e v history fit more counted) =
    inr (inr record {
      entries = e;
      events = v;
      history = history;
      fault = inr record { fit = fit; more = more; counted = counted };
    })

-- ---- one head, one history

no_head : (image : Content) (lines : Lines) (number entries : ℕ) → HeadFault image lines number
    → HasHead image lines entries → ⊥
no_head image lines number entries fault head =
    no_end image lines (head_parts image) 0 name.History (history_at image) number entries fault head.fit
    head.count

one_head : (image : Content) (lines : Lines) (a b : ℕ) → HasHead image lines a → HasHead image lines b → a ≡ b
one_head image lines a b one other =
    one_count name.History lines (history_at image) a b one.count other.count

no_history_there : (image : Content) (lines : Lines) (number entries events : ℕ)
    → HistoryFault image lines entries number → HasHistory image lines entries events → ⊥
no_history_there image lines number entries events fault history =
    no_end image lines (history_parts entries) (history_at image + 1) name.Schedule (schedule_at image entries)
    number events fault history.fit history.count

one_history : (image : Content) (lines : Lines) (entries a b : ℕ) → HasHistory image lines entries a
    → HasHistory image lines entries b → a ≡ b
one_history image lines entries a b one other =
    one_count name.Schedule lines (schedule_at image entries) a b one.count other.count

one_surplus : (image : Content) (lines : Lines) (entries events j k : ℕ)
    → ScheduleFault image lines entries events j → ScheduleFault image lines entries events k → j ≡ k
one_surplus image lines entries events j k (inl a) (inl b) =
    a.counted
    ∙ ap (λ m. schedule_at image entries + 1 + m)
    (one_place _ _ (drop (schedule_at image entries + 1) lines) a.before b.before a.fault b.fault)
    ∙ sym b.counted
one_surplus image lines entries events j k (inl a) (inr b) =
    absurd (fit_or_fault _ _ (drop (schedule_at image entries + 1) lines) a.before b.fit a.fault)
one_surplus image lines entries events j k (inr a) (inl b) =
    absurd (fit_or_fault _ _ (drop (schedule_at image entries + 1) lines) b.before a.fit b.fault)
one_surplus image lines entries events j k (inr a) (inr b) = a.counted ∙ sym b.counted

-- ---- the whole

one_of : (image : Content) (lines : Lines) (j k : ℕ) → Place image lines j → Place image lines k → j ≡ k
one_of image lines j k (inl a) (inl b) =
    one_end image lines (head_parts image) 0 name.History (history_at image) j k a b
one_of image lines j k (inl a) (inr (inl b)) = absurd (no_head image lines j b.entries a b.head)
one_of image lines j k (inl a) (inr (inr b)) = absurd (no_head image lines j b.entries a b.history.head)
one_of image lines j k (inr (inl a)) (inl b) = absurd (no_head image lines k a.entries b a.head)
one_of image lines j k (inr (inr a)) (inl b) = absurd (no_head image lines k a.entries b a.history.head)
one_of image lines j k (inr (inl a)) (inr (inl b)) =
    let same = one_head image lines a.entries b.entries a.head b.head in
    one_end image lines (history_parts b.entries) (history_at image + 1) name.Schedule
    (schedule_at image b.entries) j k (subst (λ e. HistoryFault image lines e j) same a.fault) b.fault
one_of image lines j k (inr (inl a)) (inr (inr b)) =
    let same = one_head image lines a.entries b.entries a.head b.history.head in
    absurd (no_history_there image lines j b.entries b.events
    (subst (λ e. HistoryFault image lines e j) same a.fault) b.history)
one_of image lines j k (inr (inr a)) (inr (inl b)) =
    let same = one_head image lines b.entries a.entries b.head a.history.head in
    absurd (no_history_there image lines k a.entries a.events
    (subst (λ e. HistoryFault image lines e k) same b.fault) a.history)
one_of image lines j k (inr (inr a)) (inr (inr b)) =
    let same = one_head image lines a.entries b.entries a.history.head b.history.head in
    let its = subst (λ e. HasHistory image lines e a.events) same a.history in
    let also = one_history image lines b.entries a.events b.events its b.history in
    one_surplus image lines b.entries b.events j k
    (subst (λ v. ScheduleFault image lines b.entries v j) also
    (subst (λ e. ScheduleFault image lines e a.events j) same a.fault)) b.fault

pub one_fault : (image : Content) (lines : Lines) (j k : ℕ) → IsFirstFault image lines j
    → IsFirstFault image lines k → j ≡ k
one_fault image lines j k a b = one_of image lines j k (place_of image lines j a) (place_of image lines k b)

pub same_counts : (image : Content) (lines : Lines) (a b c d : ℕ) → HasForm image lines a b
    → HasForm image lines c d → (a ≡ c) × (b ≡ d)
same_counts image lines a b c d one other =
    let same = one_head image lines a c one.history.head other.history.head in
    let its = subst (λ e. HasHistory image lines e b) same one.history in
    (same, one_history image lines c b d its other.history)

none_by : (image : Content) (lines : Lines) (a b k : ℕ) → HasForm image lines a b → Place image lines k → ⊥
none_by image lines a b k form (inl f) = no_head image lines k a f form.history.head
none_by image lines a b k form (inr (inl f)) =
    let same = one_head image lines f.entries a f.head form.history.head in
    no_history_there image lines k a b (subst (λ e. HistoryFault image lines e k) same f.fault) form.history
none_by image lines a b k form (inr (inr f)) =
    let same = one_head image lines f.entries a f.history.head form.history.head in
    let its = subst (λ e. HasHistory image lines e f.events) same f.history in
    let also = one_history image lines a f.events b its form.history in
    no_surplus
    (subst (λ v. ScheduleFault image lines a v k) also
    (subst (λ e. ScheduleFault image lines e f.events k) same f.fault))
  where
    no_surplus : ScheduleFault image lines a b k → ⊥
    no_surplus (inl g) = fit_or_fault _ _ (drop (schedule_at image a + 1) lines) g.before form.fit g.fault
    no_surplus (inr g) = let more = g.more in let whole = form.whole in omega (arith, more, whole)

pub no_fault : (image : Content) (lines : Lines) (a b k : ℕ) → HasForm image lines a b
    → ¬ IsFirstFault image lines k
no_fault image lines a b k form fault = none_by image lines a b k form (place_of image lines k fault)
