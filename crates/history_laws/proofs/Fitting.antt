-- Of the entries that fit on a flat state, one at most has a text.
use Rattle.std.proofs.Common.{◌≡◌, ℕ, Bool, true, false, ◌&&◌, ◌||◌, List, Option, Some, None, refl, sym, ap, ◌∙◌}
use Rattle.std.proofs.Common.{subst, nat_lt}
use Rattle.std.proofs.lemmas.Bool.{and_parts}
use Rattle.tx_control.specs.declared.exceptions.Exception.{Exception}
use Rattle.tx_control.specs.declared.causes.Why.{Why}
use Rattle.tx_control.specs.declared.causes.Why.TheVariants.{External, Program, FetchConflict, StoreConflict}
use Rattle.tx_control.specs.declared.causes.Why.TheVariants.{FetchOverflow, StoreOverflow, Restricted}
use Rattle.tx_control.specs.declared.causes.Why.TheVariants.{Filtered, Depth, Starved, Tabort}
use Rattle.tx_journal.specs.Lines.{entry_text}
use Rattle.tx_journal.specs.Sound.{IsSound, told, told_cause}
use Rattle.tx_journal.specs.declared.entries.Entry.{Entry}
use Rattle.tx_journal.specs.declared.entries.Entry.TheVariants as entry
use Rattle.tx_journal.proofs.ToldEntries.{told_apart}
use Rattle.tx_serial.specs.Apply.{apply, only_where, may_act}
use Rattle.tx_serial.specs.Attempt.{Run}
use Rattle.tx_serial.specs.Ending.{fits, ending, is_cause, is_open}
use Rattle.tx_serial.specs.Flat.{FlatState}
use Rattle.tx_serial.specs.Remains.{remains}
use Rattle.tx_serial.specs.Run.{run}
use Rattle.history_laws.specs.Fitting.{Fits}
use Rattle.tx_serial.proofs.SameCauses.{same_exception}

-- ---- exceptions

-- an exception is one by which the attempt ends by itself
pub ends_so : (x y : Bool) → (x || (y && false)) ≡ true → x ≡ true
ends_so true y h = refl
ends_so false true h = absurd cc
ends_so false false h = absurd cc

one_program : (o : Option Why) (d e : Exception) → is_cause o (Program d) ≡ true → is_cause o (Program e) ≡ true
    → d ≡ e
one_program None d e h i = absurd cc
one_program (Some (Program c)) d e h i = sym (same_exception c d h) ∙ same_exception c e i
one_program (Some External) d e h i = absurd cc
one_program (Some (FetchConflict k)) d e h i = absurd cc
one_program (Some (StoreConflict k)) d e h i = absurd cc
one_program (Some FetchOverflow) d e h i = absurd cc
one_program (Some StoreOverflow) d e h i = absurd cc
one_program (Some Restricted) d e h i = absurd cc
one_program (Some (Filtered c)) d e h i = absurd cc
one_program (Some Depth) d e h i = absurd cc
one_program (Some Starved) d e h i = absurd cc
one_program (Some (Tabort code)) d e h i = absurd cc

one_filtered : (o : Option Why) (d e : Exception) → is_cause o (Filtered d) ≡ true
    → is_cause o (Filtered e) ≡ true → d ≡ e
one_filtered None d e h i = absurd cc
one_filtered (Some (Filtered c)) d e h i = sym (same_exception c d h) ∙ same_exception c e i
one_filtered (Some External) d e h i = absurd cc
one_filtered (Some (FetchConflict k)) d e h i = absurd cc
one_filtered (Some (StoreConflict k)) d e h i = absurd cc
one_filtered (Some FetchOverflow) d e h i = absurd cc
one_filtered (Some StoreOverflow) d e h i = absurd cc
one_filtered (Some Restricted) d e h i = absurd cc
one_filtered (Some (Program c)) d e h i = absurd cc
one_filtered (Some Depth) d e h i = absurd cc
one_filtered (Some Starved) d e h i = absurd cc
one_filtered (Some (Tabort code)) d e h i = absurd cc

-- ---- causes

module _ (text : List ℕ) (p : Run) where
  same_cause : (some other : Why) → told_cause some ≡ told_cause other → fits text p some ≡ true
      → fits text p other ≡ true → some ≡ other
  unfolding fits
  same_cause (Program d) (Program e) is h i =
      ap Program (one_program (ending text p) d e (ends_so _ (is_open p.mark) h) (ends_so _ (is_open p.mark) i))
  same_cause (Filtered d) (Filtered e) is h i =
      ap Filtered (one_filtered (ending text p) d e (ends_so _ (is_open p.mark) h) (ends_so _ (is_open p.mark) i))
  same_cause External External is h i = refl
  same_cause (FetchConflict k) (FetchConflict l) is h i = is
  same_cause (StoreConflict k) (StoreConflict l) is h i = is
  same_cause FetchOverflow FetchOverflow is h i = refl
  same_cause StoreOverflow StoreOverflow is h i = refl
  same_cause Restricted Restricted is h i = refl
  same_cause Depth Depth is h i = refl
  same_cause Starved Starved is h i = refl
  same_cause (Tabort c) (Tabort d) is h i = is
  same_cause (Program d) other is h i = absurd cc
  same_cause (Filtered d) other is h i = absurd cc
  same_cause External other is h i = absurd cc
  same_cause (FetchConflict k) other is h i = absurd cc
  same_cause (StoreConflict k) other is h i = absurd cc
  same_cause FetchOverflow other is h i = absurd cc
  same_cause StoreOverflow other is h i = absurd cc
  same_cause Restricted other is h i = absurd cc
  same_cause Depth other is h i = absurd cc
  same_cause Starved other is h i = absurd cc
  same_cause (Tabort c) other is h i = absurd cc

-- ---- entries

pub passed : {A : Type 0} (b : Bool) (o : Option A) (x : A) → only_where b o ≡ Some x → b ≡ true
passed true o x h = refl
passed false o x h = absurd cc

-- a cause that fits is one by which the attempt may end
pub cause_fits : (f : FlatState) (i n : ℕ) (why : Why) → Fits f (entry.Abort i n why)
    → fits f.text (run f i n) why ≡ true
unfolding apply
cause_fits f i n why h =
    let all = passed (may_act f i && (nat_lt 0 n && fits f.text (run f i n) why))
    (Some (remains f i (run f i n) why)) h.0 h.1 in
    let acts = and_parts (may_act f i) (nat_lt 0 n && fits f.text (run f i n) why) all in
    (and_parts (nat_lt 0 n) (fits f.text (run f i n) why) acts.1).1

pub same_entry : (f : FlatState) (some other : Entry) → told some ≡ told other → Fits f some → Fits f other
    → some ≡ other
same_entry f (entry.Step i) (entry.Step j) is h k = is
same_entry f (entry.Commit i n) (entry.Commit j l) is h k = is
same_entry f (entry.Tdb i) (entry.Tdb j) is h k = is
same_entry f (entry.Interrupt i) (entry.Interrupt j) is h k = is
same_entry f (entry.Abort i n why) (entry.Abort j l also) is h k =
    let cpus : i ≡ j = cc in
    let counts : n ≡ l = cc in
    let causes : told_cause why ≡ told_cause also = cc in
    let here : fits f.text (run f i n) also ≡ true =
    subst (λ (c : ℕ). fits f.text (run f c n) also ≡ true) (sym cpus)
    (subst (λ (c : ℕ). fits f.text (run f j c) also ≡ true) (sym counts) (cause_fits f j l also k)) in
    let same = same_cause f.text (run f i n) why also causes (cause_fits f i n why h) here in
    λ t. entry.Abort (cpus t) (counts t) (same t)
same_entry f (entry.Step i) other is h k = absurd cc
same_entry f (entry.Commit i n) other is h k = absurd cc
same_entry f (entry.Tdb i) other is h k = absurd cc
same_entry f (entry.Interrupt i) other is h k = absurd cc
same_entry f (entry.Abort i n why) other is h k = absurd cc

pub one_fits : (f : FlatState) (some other : Entry) → IsSound some → IsSound other → Fits f some → Fits f other
    → entry_text some ≡ entry_text other → some ≡ other
one_fits f some other s t h k is = same_entry f some other (told_apart some other s t is) h k
