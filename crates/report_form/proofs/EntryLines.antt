-- Lines of entries, by the numbers that they spell; and words of events.
use Rattle.std.proofs.Common.{◌≡◌, ℕ, suc, ◌+◌, ◌<◌, ◌≤◌, false, List, ◌∷◌, take, sym, ap, subst}
use Rattle.std.proofs.Common.{Decides, ◌∙◌, ◌^◌, arith, lit≤}
use Rattle.std.specs.Prelude.{nat_le, replicate}
use Rattle.std.proofs.lemmas.Bool.{leb-true, le-leb, false≢true}
use Rattle.std.proofs.lemmas.List.{take-replicate}
use Rattle.tx_journal.specs.declared.entries.EntryText.{EntryText}
use Rattle.tx_journal.specs.declared.entries.Entry.TheVariants.{Step}
use Rattle.tx_journal.specs.Lines.{Spells, entry_text, fields_of, line_of}
use Rattle.tx_journal.proofs.ToldEntries.{spelled}
use Rattle.tx_journal.proofs.OneLine.{same_fields}
use Rattle.report_form.specs.declared.words.Name.TheVariants as name
use Rattle.report_form.specs.declared.words.Word.TheVariants.{Fixed, Event}
use Rattle.report_form.specs.Rows.{IsEntryLine, events_words}

-- of a CPU that is not there
pub entry_above : (last : ℕ) (line : List ℕ) (t : EntryText) → Spells line t → last < t.cpu
    → Decides false (IsEntryLine last line)
entry_above last line t spells above = (
  λ h. absurd (false≢true h),
  λ h.
      let same : t.cpu ≡ h.entry.cpu = ap (λ (e : EntryText). e.cpu) (same_fields line t h.entry spells h.spells) in
      let known = h.known in
      absurd (omega (arith, same, known, above)),
)

-- the line of a step, by its CPU
pub step_tells : (last : ℕ) (line : List ℕ) (cpu : ℕ) → cpu < 2 ^ 32 → line ≡ entry_text (Step cpu)
    → Decides (nat_le cpu last) (IsEntryLine last line)
step_tells last line cpu small is = (
  λ h.
      record {
        entry = fields_of (line_of (Step cpu));
        spells = subst (λ t. Spells t (fields_of (line_of (Step cpu)))) (sym is) (spelled (Step cpu) small);
        known = leb-true cpu last h;
        few = lit≤ tt;
      },
  λ h.
      let same : cpu ≡ h.entry.cpu =
      ap (λ (e : EntryText). e.cpu)
      (same_fields line (fields_of (line_of (Step cpu))) h.entry
      (subst (λ t. Spells t (fields_of (line_of (Step cpu)))) (sym is) (spelled (Step cpu) small)) h.spells) in
      le-leb cpu last (subst (λ n. n ≤ last) (sym same) h.known),
)

-- of one that is, the count decides
pub entry_tells : (last : ℕ) (line : List ℕ) (t : EntryText) (count : ℕ) → Spells line t → t.cpu ≤ last
    → count ≡ t.count → Decides (nat_le count 200000) (IsEntryLine last line)
entry_tells last line t count spells known is = (
  λ h.
      record {
        entry = t;
        spells = spells;
        known = known;
        few = subst (λ n. n ≤ 200000) is (leb-true count 200000 h);
      },
  λ h.
      let same : t.count ≡ h.entry.count =
      ap (λ (e : EntryText). e.count) (same_fields line t h.entry spells h.spells) in
      le-leb count 200000 (subst (λ n. n ≤ 200000) (sym (is ∙ same)) h.few),
)

-- the words of so many events, cut out of those of sixteen
pub events_are : (last n : ℕ) → n ≤ 16
    → take (n + 2) (Fixed name.Empty ∷ Fixed name.Sched ∷ replicate 16 (Event last)) ≡ events_words last n
events_are last n few =
    let e : n + 2 ≡ suc (suc n) = omega arith in
    ap (λ k. take k (Fixed name.Empty ∷ Fixed name.Sched ∷ replicate 16 (Event last))) e
    ∙ ap (λ ws. Fixed name.Empty ∷ Fixed name.Sched ∷ ws) (take-replicate n 16 (Event last) few)
