-- Entries and the numbers of their lines.
use Rattle.std.proofs.Common.{◌≡◌, ◌<◌, ◌^◌, refl, ℕ, List, Option, Some, None, sym, ap, ap₂, ◌∙◌, arith, subst}
use Rattle.tx_control.specs.declared.causes.Why.{Why}
use Rattle.tx_journal.specs.declared.entries.Entry.{Entry}
use Rattle.tx_journal.specs.declared.entries.Entry.TheVariants as entry
use Rattle.tx_journal.specs.declared.entries.EntryText.{EntryText}
use Rattle.tx_journal.specs.Lines.{Spells, entry_text, fields_of, line_of}
use Rattle.tx_journal.specs.Sound.{IsSound, IsCause}
use Rattle.tx_journal.proofs.ToldEntries.{read_exactly, spelled}
use Rattle.tx_serial.specs.Apply.{apply}
use Rattle.tx_serial.specs.Flat.{FlatState}
use Rattle.history_laws.specs.Fitting.{Fits}
use Rattle.tx_replay.specs.Replay.{NoneFits}
use Rattle.tx_replay.specs.Told.{Tells, TellsEntry}
use Rattle.std.proofs.lemmas.Option.{none-some, same_Some}

kinds : {t u : EntryText} → t ≡ u → t.kind ≡ u.kind
kinds is = ap (λ (t : EntryText). t.kind) is

-- an entry that has the line has its numbers
pub numbers_told : (e : Entry) (text : List ℕ) (t : EntryText) → IsSound e → Spells text t
    → entry_text e ≡ text → TellsEntry e t
numbers_told e text t sound spells is =
    sym (read_exactly e t sound (subst (λ x. Spells x t) (sym is) spells))

-- ---- entries by their numbers

pub the_step : (e : Entry) (t : EntryText) → TellsEntry e t → t.kind ≡ 83 → e ≡ entry.Step t.cpu
the_step (entry.Step i) t is kind = ap entry.Step (ap (λ (u : EntryText). u.cpu) is)
the_step (entry.Commit i n) t is kind = absurd (omega (arith, kinds is, kind))
the_step (entry.Abort i n why) t is kind = absurd (omega (arith, kinds is, kind))
the_step (entry.Tdb i) t is kind = absurd (omega (arith, kinds is, kind))
the_step (entry.Interrupt i) t is kind = absurd (omega (arith, kinds is, kind))

-- an entry with the line of a step is that step
pub step_only : (line : List ℕ) (cpu : ℕ) → cpu < 20 → line ≡ entry_text (entry.Step cpu) → (e : Entry) → IsSound e
    → entry_text e ≡ line → Some (entry.Step cpu) ≡ Some e
step_only line cpu few is e sound same =
    let small : cpu < 2 ^ 32 = omega (arith, few) in
    let spells = subst (λ t. Spells t (fields_of (line_of (entry.Step cpu)))) (sym is) (spelled (entry.Step cpu) small) in
    ap Some (sym (the_step e (fields_of (line_of (entry.Step cpu))) (numbers_told e line _ sound spells same) refl))

pub the_commit : (e : Entry) (t : EntryText) → TellsEntry e t → t.kind ≡ 67 → e ≡ entry.Commit t.cpu t.count
the_commit (entry.Step i) t is kind = absurd (omega (arith, kinds is, kind))
the_commit (entry.Commit i n) t is kind =
    ap₂ entry.Commit (ap (λ (u : EntryText). u.cpu) is) (ap (λ (u : EntryText). u.count) is)
the_commit (entry.Abort i n why) t is kind = absurd (omega (arith, kinds is, kind))
the_commit (entry.Tdb i) t is kind = absurd (omega (arith, kinds is, kind))
the_commit (entry.Interrupt i) t is kind = absurd (omega (arith, kinds is, kind))

pub the_block : (e : Entry) (t : EntryText) → TellsEntry e t → t.kind ≡ 84 → e ≡ entry.Tdb t.cpu
the_block (entry.Step i) t is kind = absurd (omega (arith, kinds is, kind))
the_block (entry.Commit i n) t is kind = absurd (omega (arith, kinds is, kind))
the_block (entry.Abort i n why) t is kind = absurd (omega (arith, kinds is, kind))
the_block (entry.Tdb i) t is kind = ap entry.Tdb (ap (λ (u : EntryText). u.cpu) is)
the_block (entry.Interrupt i) t is kind = absurd (omega (arith, kinds is, kind))

pub the_interruption : (e : Entry) (t : EntryText) → TellsEntry e t → t.kind ≡ 73 → e ≡ entry.Interrupt t.cpu
the_interruption (entry.Step i) t is kind = absurd (omega (arith, kinds is, kind))
the_interruption (entry.Commit i n) t is kind = absurd (omega (arith, kinds is, kind))
the_interruption (entry.Abort i n why) t is kind = absurd (omega (arith, kinds is, kind))
the_interruption (entry.Tdb i) t is kind = absurd (omega (arith, kinds is, kind))
the_interruption (entry.Interrupt i) t is kind = ap entry.Interrupt (ap (λ (u : EntryText). u.cpu) is)

-- an abort, by its numbers
pub record IsAbort (e : Entry) (t : EntryText) : Type 0 where
  pub why : Why
  pub is : e ≡ entry.Abort t.cpu t.count why
  pub tells : Tells why t.code t.detail

pub the_abort : (e : Entry) (t : EntryText) → TellsEntry e t → t.kind ≡ 65 → IsAbort e t
the_abort (entry.Step i) t is kind = absurd (omega (arith, kinds is, kind))
the_abort (entry.Commit i n) t is kind = absurd (omega (arith, kinds is, kind))
the_abort (entry.Abort i n why) t is kind =
    let cpus : i ≡ t.cpu = ap (λ (u : EntryText). u.cpu) is in
    let counts : n ≡ t.count = ap (λ (u : EntryText). u.count) is in
    record {
      why = why;
      is = λ j. entry.Abort (cpus j) (counts j) why;
      tells = record {
        code_is = ap (λ (u : EntryText). u.code) is;
        detail_is = ap (λ (u : EntryText). u.detail) is;
      };
    }
the_abort (entry.Tdb i) t is kind = absurd (omega (arith, kinds is, kind))
the_abort (entry.Interrupt i) t is kind = absurd (omega (arith, kinds is, kind))

-- the kinds are those of the five letters
pub no_other : (e : Entry) (t : EntryText) → TellsEntry e t → (t.kind ≡ 83 → ⊥) → (t.kind ≡ 67 → ⊥)
    → (t.kind ≡ 84 → ⊥) → (t.kind ≡ 73 → ⊥) → (t.kind ≡ 65 → ⊥) → ⊥
no_other (entry.Step i) t is s c b x a = s (sym (kinds is))
no_other (entry.Commit i n) t is s c b x a = c (sym (kinds is))
no_other (entry.Abort i n why) t is s c b x a = a (sym (kinds is))
no_other (entry.Tdb i) t is s c b x a = b (sym (kinds is))
no_other (entry.Interrupt i) t is s c b x a = x (sym (kinds is))

-- ---- entries that fit

-- the abort by this cause, where there is one
abbrev pub abort_by : EntryText → Option Why → Option Entry
abort_by t None = None
abort_by t (Some why) = Some (entry.Abort t.cpu t.count why)

-- where no other cause fits, no other abort does
pub abort_only : (f : FlatState) (t : EntryText) (o : Option Why) → t.kind ≡ 65
    → ((why : Why) → IsCause why → Tells why t.code t.detail → Fits f (entry.Abort t.cpu t.count why)
    → o ≡ Some why)
    → (e : Entry) → IsSound e → TellsEntry e t → Fits f e → abort_by t o ≡ Some e
abort_only f t o kind only e sound tells fits =
    let a = the_abort e t tells kind in
    let cause = (subst IsSound a.is sound).2 in
    ap (abort_by t) (only a.why cause a.tells (subst (Fits f) a.is fits)) ∙ ap Some (sym a.is)

-- where the line means no entry, none has it that fits
pub none_has : (f : FlatState) (line : List ℕ)
    → ((e : Entry) → IsSound e → entry_text e ≡ line → Fits f e → None ≡ Some e) → NoneFits f line
none_has f line only e sound fits is = none-some e (only e sound is fits)

-- and where the entry that it means does not fit
pub misfit_has : (f : FlatState) (line : List ℕ) (x : Entry) → apply f x ≡ None
    → ((e : Entry) → IsSound e → entry_text e ≡ line → Fits f e → Some x ≡ Some e) → NoneFits f line
misfit_has f line x none only e sound fits is =
    let same : x ≡ e = same_Some _ _ (only e sound is fits) in
    none-some fits.0 (sym none ∙ ap (apply f) same ∙ fits.1)

-- by the numbers that were read
pub by_reading : (f : FlatState) (line : List ℕ) (t : EntryText) (o : Option Entry) → Spells line t
    → ((e : Entry) → IsSound e → TellsEntry e t → Fits f e → o ≡ Some e)
    → (e : Entry) → IsSound e → entry_text e ≡ line → Fits f e → o ≡ Some e
by_reading f line t o spells only e sound is fits = only e sound (numbers_told e line t sound spells is) fits
