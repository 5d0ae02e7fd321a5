-- Entries keep all bytes of text, and what has to hold of a state for that.
use Rattle.std.proofs.Common.{◌≡◌, ℕ, ◌+◌, ◌<◌, ◌≤◌, Bool, true, false, List}
use Rattle.std.proofs.Common.{Option, Some, None, refl, sym, ap, subst, ◌∙◌, arith, length, ◌⊎◌, inl, inr}
use Rattle.std.proofs.Common.{lit≤}
use Rattle.std.specs.Prelude.{◌&&◌, not, nat_lt}
use Rattle.std.proofs.lemmas.Bool.{cases_eq}
use Rattle.byteorder.specs.Numbers.{length-bytes_high_first}
use Rattle.z_regs.specs.Cpu.{Cpu}
use Rattle.z_regs.specs.Prefix.{absolute_of, area_size, is_prefix}
use Rattle.z_regs.specs.Psw.{psw_of, loaded, with_fields}
use Rattle.z_regs.specs.declared.ranges.Range.{Range}
use Rattle.z_regs.specs.declared.waiting.Waiting.{Waiting}
use Rattle.z_regs.proofs.Exchange.{area, moves}
use Rattle.z_instr.specs.declared.instr.Instr.{Instr}
use Rattle.z_instr.specs.Table.{entry_at}
use Rattle.z_instr.specs.Roles.{begins}
use Rattle.z_instr.specs.Access.{lies_in}
use Rattle.z_effect.specs.After.{cpu_after}
use Rattle.z_effect.specs.Outcome.{Outcome, Did, Divides, Aborts}
use Rattle.z_effect.specs.Outcome as outcome
use Rattle.z_effect.proofs.Prefix.{keeps_prefix}
use Rattle.tx_control.specs.Nesting.{outermost_block}
use Rattle.tx_control.specs.declared.causes.Why.{Why}
use Rattle.tx_control.specs.declared.causes.Why.TheVariants.{External, Program, FetchConflict}
use Rattle.tx_control.specs.declared.causes.Why.TheVariants.{StoreConflict, FetchOverflow, StoreOverflow}
use Rattle.tx_control.specs.declared.causes.Why.TheVariants.{Restricted, Filtered, Depth, Starved, Tabort}
use Rattle.tx_abort.proofs.Writes.{length-block}
use Rattle.tx_journal.specs.declared.entries.Entry.{Entry}
use Rattle.tx_journal.specs.declared.entries.Entry.TheVariants.{Step, Commit, Abort, Tdb, Interrupt}
use Rattle.tx_serial.specs.Flat.{Storage, FlatState, Pending, at_put, operand_stores, operand_bytes}
use Rattle.tx_serial.specs.Flat.{with_bytes_at, stores_at}
use Rattle.tx_serial.specs.Attempt.{Run, Mark, Open, Committed, Overflowed, Missing}
use Rattle.tx_serial.specs.Fate.{Fate, Goes, Ends, Stops, fate}
use Rattle.tx_serial.specs.Run.{run, outcome_of}
use Rattle.tx_serial.specs.Ending.{fits}
use Rattle.tx_serial.specs.Remains.{remains, pending_after, waiting_with, waiting_after, block_after}
use Rattle.tx_serial.specs.Remains.{cpu_after_abort}
use Rattle.tx_serial.specs.Remains.{interrupted_after}
use Rattle.tx_serial.specs.Apply.{apply, only_where, may_act, with_outcome, after_step, after_commit}
use Rattle.tx_serial.specs.Apply.{after_block}
use Rattle.tx_serial.specs.Apply.{after_interruption, with_stored_interruption, with_block, identified}
use Rattle.tx_serial.specs.Apply.{identification, old_psw, interruption_block}
use Rattle.tx_serial.specs.Changes.{cpu_of_entry, ChangesOnly}
use Rattle.tx_serial.specs.Text.{SameText, IsFree, HasFreeArea, IsPlaced, IsAwaited, IsKept}
use Rattle.tx_serial.proofs.Entries.{at_put_same, entry_changes}
use Rattle.tx_serial.proofs.Passing.{passes}
use Rattle.tx_serial.proofs.TextStays.{any_text, laid_apart, stores_apart, new_apart, copy_keeps_text}
use Rattle.tx_serial.proofs.TextStays.{lasting_apart, run_names_free}
use Rattle.tx_serial.proofs.Copies.{run_prefix}

-- ---- what an entry leaves of its own CPU

-- the text and the prefix, and what is still to be stored has its place
record IsGood (i : ℕ) (f after : FlatState) : Type 0 where
  text : SameText f.text f.storage after.storage
  prefix : (after.cpus i).prefix ≡ (f.cpus i).prefix
  block : (b : Pending) → after.pending i ≡ Some b → IsPlaced (f.cpus i).prefix f.text b
  interruption : (w : Waiting) → after.waiting i ≡ Some w → IsAwaited (f.cpus i).prefix w

abbrev Good : ℕ → FlatState → Option FlatState → Type 0
Good i f None = Unit {0}
Good i f (Some after) = IsGood i f after

good_if : (i : ℕ) (f : FlatState) (b : Bool) (o : Option FlatState) → Good i f o → Good i f (only_where b o)
good_if i f true o h = h
good_if i f false o h = tt

-- a table that was put to at this very place
put_prefix : (cpus : ℕ → Cpu) (i : ℕ) (c : Cpu) (prefix : Option ℕ) → c.prefix ≡ prefix
    → (at_put cpus i c i).prefix ≡ prefix
put_prefix cpus i c prefix e = ap (λ (d : Cpu). d.prefix) (at_put_same cpus i c) ∙ e

put_some : {A : Type 0} (table : ℕ → Option A) (i : ℕ) (o : Option A) (x : A) → at_put table i o i ≡ Some x
    → o ≡ Some x
put_some table i o x h = sym (at_put_same table i o) ∙ h

-- ---- interruptions that begin to wait

awaited : (prefix : Option ℕ) (n : ℕ) (o : Option (List ℕ)) (w : Waiting)
    → ((bytes : List ℕ) → o ≡ Some bytes → length bytes ≡ 256)
    → waiting_with prefix n o ≡ Some w → IsAwaited prefix w
awaited None n o w size h = absurd (cc)
awaited (Some first) n o w size h =
    subst (IsAwaited (Some first)) (let e : record { length = n; block = o } ≡ w = cc in e)
    record { first = first; area = refl; size = size }

no_block : (bytes : List ℕ) → None ≡ Some bytes → length bytes ≡ 256
no_block bytes h = absurd (cc)

whole_block : (xs bytes : List ℕ) → length xs ≡ 256 → Some xs ≡ Some bytes → length bytes ≡ 256
whole_block xs bytes size h = subst (λ (ys : List ℕ). length ys ≡ 256) (let e : xs ≡ bytes = cc in e) size

awaited_after : (prefix : Option ℕ) (bytes : List ℕ) (why : Why) (w : Waiting) → length bytes ≡ 256
    → waiting_after prefix bytes why ≡ Some w → IsAwaited prefix w
awaited_after prefix bytes (Program e) w size h =
    awaited prefix e.length (Some bytes) w (λ xs s. whole_block bytes xs size s) h
awaited_after prefix bytes External w size h = absurd (cc)
awaited_after prefix bytes (FetchConflict line) w size h = absurd (cc)
awaited_after prefix bytes (StoreConflict line) w size h = absurd (cc)
awaited_after prefix bytes FetchOverflow w size h = absurd (cc)
awaited_after prefix bytes StoreOverflow w size h = absurd (cc)
awaited_after prefix bytes Restricted w size h = absurd (cc)
awaited_after prefix bytes (Filtered e) w size h = absurd (cc)
awaited_after prefix bytes Depth w size h = absurd (cc)
awaited_after prefix bytes Starved w size h = absurd (cc)
awaited_after prefix bytes (Tabort code) w size h = absurd (cc)

-- ---- a step

same_text : (text : List ℕ) (s : Storage) → SameText text s s
same_text text s a is = refl

good_outcome : (f : FlatState) (i : ℕ) (instr : Instr) (ranges : List Range) (o : Outcome) → IsKept f
    → (cpu_after (f.cpus i) o).prefix ≡ (f.cpus i).prefix
    → ((bytes : List ℕ) → any_text f.text (operand_stores (f.cpus i).prefix ranges bytes) ≡ false)
    → IsGood i f (with_outcome f i instr ranges o)
good_outcome f i instr ranges (Did c bytes) kept keeps apart = record {
  text = laid_apart f.text (operand_stores (f.cpus i).prefix ranges bytes) f.storage (apart bytes);
  prefix = put_prefix f.cpus i c (f.cpus i).prefix keeps;
  block = λ b h. kept.blocks i b h;
  interruption = λ w h. kept.interruptions i w h;
}
good_outcome f i instr ranges (outcome.Overflowed c bytes) kept keeps apart = record {
  text = laid_apart f.text (operand_stores (f.cpus i).prefix ranges bytes) f.storage (apart bytes);
  prefix = put_prefix f.cpus i _ (f.cpus i).prefix keeps;
  block = λ b h. kept.blocks i b h;
  interruption = λ w h.
      subst (λ prefix. IsAwaited prefix w) keeps (awaited c.prefix _ None w no_block (put_some f.waiting i _
      w h));
}
good_outcome f i instr ranges Divides kept keeps apart = record {
  text = same_text f.text f.storage;
  prefix = put_prefix f.cpus i _ (f.cpus i).prefix refl;
  block = λ b h. kept.blocks i b h;
  interruption = λ w h. awaited (f.cpus i).prefix _ None w no_block (put_some f.waiting i _ w h);
}
good_outcome f i instr ranges (Aborts code) kept keeps apart = record {
  text = same_text f.text f.storage;
  prefix = refl;
  block = λ b h. kept.blocks i b h;
  interruption = λ w h. kept.interruptions i w h;
}

good_step : (f : FlatState) (i : ℕ) (o : Fate) → IsKept f → fate f.text (run f i 0) ≡ o
    → Good i f (after_step f i o)
unfolding run
good_step f i (Goes instr ranges) kept e =
    let p = run f i 0 in
    good_if i f (not (begins (entry_at instr.op.number))) _
    (good_outcome f i instr ranges (outcome_of instr ranges p) kept
    (keeps_prefix instr p.cpu _ (operand_bytes p.cpu.prefix p.copy ranges))
    (λ bytes. new_apart f.text p instr ranges bytes (kept.prefixes i) (passes f.text p instr ranges e)))
good_step f i (Ends why) kept e = tt
good_step f i (Stops x) kept e = record {
  text = same_text f.text f.storage;
  prefix = put_prefix f.cpus i _ (f.cpus i).prefix refl;
  block = λ b h. kept.blocks i b h;
  interruption = λ w h. awaited (f.cpus i).prefix _ None w no_block (put_some f.waiting i _ w h);
}

-- ---- a commit

good_commit : (f : FlatState) (i k : ℕ) (m : Mark) → IsKept f → Good i f (after_commit f i (run f i k) m)
good_commit f i k Committed kept = record {
  text = copy_keeps_text f i k (kept.prefixes i);
  prefix = put_prefix f.cpus i _ (f.cpus i).prefix (run_prefix f i k);
  block = λ b h. kept.blocks i b h;
  interruption = λ w h. kept.interruptions i w h;
}
good_commit f i k Open kept = tt
good_commit f i k Overflowed kept = tt
good_commit f i k Missing kept = tt

-- ---- an abort

size_of_block : (p : Run) (why : Why) → length (block_after p why) ≡ 256
size_of_block p why = length-block why p.nest p.cpu.general _

placed : (prefix : Option ℕ) (text : List ℕ) (o : Option ℕ) (bytes : List ℕ) (b : Pending)
    → length bytes ≡ 256
    → ((a : ℕ) → o ≡ Some a → (k : ℕ) → k < 256 → IsFree prefix text (a + k))
    → pending_after o bytes ≡ Some b → IsPlaced prefix text b
placed prefix text None bytes b size free h = absurd (cc)
placed prefix text (Some a) bytes b size free h =
    subst (IsPlaced prefix text) (let e : record { address = a; bytes = bytes } ≡ b = cc in e)
    record { size = size; free = free a refl }

aborted_prefix : (why : Why) (c : Cpu) → (interrupted_after why c).prefix ≡ c.prefix
aborted_prefix (Program e) c = refl
aborted_prefix External c = refl
aborted_prefix (FetchConflict line) c = refl
aborted_prefix (StoreConflict line) c = refl
aborted_prefix FetchOverflow c = refl
aborted_prefix StoreOverflow c = refl
aborted_prefix Restricted c = refl
aborted_prefix (Filtered e) c = refl
aborted_prefix Depth c = refl
aborted_prefix Starved c = refl
aborted_prefix (Tabort code) c = refl

good_remains : (f : FlatState) (i k : ℕ) (why : Why) → IsKept f → IsGood i f (remains f i (run f i k) why)
unfolding remains
good_remains f i k why kept =
    let p = run f i k in
    record {
      text = laid_apart f.text p.lasting f.storage (lasting_apart f i k (kept.prefixes i));
      prefix = put_prefix f.cpus i (cpu_after_abort (f.cpus i) p why) (f.cpus i).prefix
          (aborted_prefix why _ ∙ run_prefix f i k);
      block = λ b h.
          placed (f.cpus i).prefix f.text (outermost_block p.nest) (block_after p why) b (size_of_block p why)
          (run_names_free f i k (kept.prefixes i)) (put_some f.pending i _ b h);
      interruption = λ w h.
          subst (λ prefix. IsAwaited prefix w) (run_prefix f i k)
          (awaited_after p.cpu.prefix (block_after p why) why w (size_of_block p why) (put_some f.waiting i _
          w h));
    }

-- ---- a block that is stored

placed_apart : (prefix : Option ℕ) (text : List ℕ) (b : Pending) → IsPlaced prefix text b
    → any_text text (stores_at prefix b.address b.bytes) ≡ false
placed_apart prefix text b h =
    stores_apart text prefix b.bytes b.address (λ k below.
    let size = h.size in
    let within : k < 256 = omega (arith, below, size) in
    (h.free k within).plain)

good_block : (f : FlatState) (i : ℕ) (o : Option Pending) → IsKept f → f.pending i ≡ o
    → Good i f (after_block f i o)
good_block f i None kept e = tt
good_block f i (Some b) kept e = record {
  text = laid_apart f.text (stores_at (f.cpus i).prefix b.address b.bytes) f.storage
      (placed_apart (f.cpus i).prefix f.text b (kept.blocks i b e));
  prefix = refl;
  block = λ x h. absurd (none_some x (put_some f.pending i None x h));
  interruption = λ w h. kept.interruptions i w h;
}
  where
    none_some : (x : Pending) → None ≡ Some x → ⊥
    none_some x h = cc

-- ---- an interruption that is taken

-- bytes within the area that the prefix of the CPU names
area_apart : (text : List ℕ) (first a : ℕ) (bytes : List ℕ) → is_prefix (Some first) ≡ true
    → HasFreeArea text (Some first) → a + length bytes ≤ area_size
    → any_text text (stores_at (Some first) a bytes) ≡ false
area_apart text first a bytes ok free h =
    stores_apart text (Some first) bytes a (λ k below.
    let low : a + k < area_size = omega (arith, below, h) in
    subst (λ x. lies_in text x ≡ false) (sym (by_low first (a + k) ok low)) (free first (a + k) refl low))
  where
    by_low : (first x : ℕ) → is_prefix (Some first) ≡ true → x < 8192 → absolute_of (Some first) x ≡ first + x
    by_low first x ok low =
        let m = moves first x (area first ok).low in
        m.first low ∙ (let e : x + first ≡ first + x = omega arith in e)

pub psw_size : (c : Cpu) → length (psw_of c) ≡ 16
unfolding psw_of
psw_size c = let e = length-bytes_high_first 8 c.address in omega (arith, e)

block_text : (text : List ℕ) (first : ℕ) (o : Option (List ℕ)) (storage : Storage)
    → is_prefix (Some first) ≡ true → HasFreeArea text (Some first)
    → ((bytes : List ℕ) → o ≡ Some bytes → length bytes ≡ 256)
    → SameText text storage (with_block (Some first) o storage)
block_text text first None storage ok free size = same_text text storage
block_text text first (Some bytes) storage ok free size =
    let all = size bytes refl in
    let room : interruption_block + length bytes ≤ area_size = omega (arith, all) in
    laid_apart text (stores_at (Some first) interruption_block bytes) storage
    (area_apart text first interruption_block bytes ok free room)

stored_text : (text : List ℕ) (first : ℕ) (c : Cpu) (w : Waiting) (storage : Storage)
    → c.prefix ≡ Some first → is_prefix c.prefix ≡ true → HasFreeArea text c.prefix → IsAwaited c.prefix w
    → SameText text storage (with_stored_interruption c w storage)
stored_text text first c w storage e ok free awaits a is =
    let right = subst (λ prefix. is_prefix prefix ≡ true) e ok in
    let area = subst (HasFreeArea text) e free in
    let one = with_bytes_at (Some first) identification (identified c w) storage in
    let two = with_bytes_at (Some first) old_psw (psw_of c) one in
    let size = psw_size c in
    let room : old_psw + length (psw_of c) ≤ area_size = omega (arith, size) in
    ap (λ prefix. with_block prefix w.block (with_bytes_at prefix old_psw (psw_of c)
    (with_bytes_at prefix identification (identified c w) storage)) a) e
    ∙ block_text text first w.block two right area awaits.size a is
    ∙ laid_apart text (stores_at (Some first) old_psw (psw_of c)) one
    (area_apart text first old_psw (psw_of c) right area room) a is
    ∙ laid_apart text (stores_at (Some first) identification (identified c w)) storage
    (area_apart text first identification (identified c w) right area (lit≤ tt)) a is

loaded_prefix : (psw : List ℕ) (c : Cpu) → (loaded psw c).prefix ≡ c.prefix
unfolding loaded with_fields
loaded_prefix psw c = refl

good_interruption : (f : FlatState) (i : ℕ) (o : Option Pending) (w : Option Waiting) → IsKept f
    → f.pending i ≡ o → f.waiting i ≡ w → Good i f (after_interruption f i o w)
good_interruption f i (Some b) w kept e d = tt
good_interruption f i None None kept e d = tt
good_interruption f i None (Some w) kept e d =
    let awaits = kept.interruptions i w d in
    record {
      text = stored_text f.text awaits.first (f.cpus i) w f.storage awaits.area (kept.prefixes i) (kept.areas
          i) awaits;
      prefix = put_prefix f.cpus i _ (f.cpus i).prefix (loaded_prefix _ (f.cpus i));
      block = λ b h. kept.blocks i b h;
      interruption = λ x h. absurd (none_some x (put_some f.waiting i None x h));
    }
  where
    none_some : (x : Waiting) → None ≡ Some x → ⊥
    none_some x h = cc

-- ---- every entry

good_entry : (f : FlatState) (e : Entry) → IsKept f → Good (cpu_of_entry e) f (apply f e)
unfolding apply
good_entry f (Step i) kept =
    good_if i f (may_act f i) _ (good_step f i (fate f.text (run f i 0)) kept refl)
good_entry f (Commit i n) kept = good_if i f (may_act f i) _ (good_commit f i n (run f i n).mark kept)
good_entry f (Abort i n why) kept =
    good_if i f (may_act f i && (nat_lt 0 n && fits f.text (run f i n) why)) _ (good_remains f i n why kept)
good_entry f (Tdb i) kept = good_block f i (f.pending i) kept refl
good_entry f (Interrupt i) kept = good_interruption f i (f.pending i) (f.waiting i) kept refl refl

pub entry_keeps_text : (f after : FlatState) (e : Entry) → IsKept f → apply f e ≡ Some after
    → SameText f.text f.storage after.storage
entry_keeps_text f after e kept h =
    let good = subst (Good (cpu_of_entry e) f) h (good_entry f e kept) in good.text

pub entry_keeps : (f after : FlatState) (e : Entry) → IsKept f → apply f e ≡ Some after → IsKept after
entry_keeps f after e kept h =
    let i = cpu_of_entry e in
    let good = subst (Good i f) h (good_entry f e kept) in
    all_kept i f after kept good (entry_changes f after e h)
  where
    -- the same CPU, or one of which nothing changes
    same_prefix : (i : ℕ) (f after : FlatState) → IsGood i f after → ChangesOnly i f after → (j : ℕ)
        → (j ≡ i) ⊎ (j ≡ i → ⊥) → (after.cpus j).prefix ≡ (f.cpus j).prefix
    same_prefix i f after good only j (inl e) =
        subst (λ k. (after.cpus k).prefix ≡ (f.cpus k).prefix) (sym e) good.prefix
    same_prefix i f after good only j (inr n) = ap (λ (c : Cpu). c.prefix) (only.cpus j n)

    own_block : (i : ℕ) (f after : FlatState) → IsKept f → IsGood i f after → ChangesOnly i f after → (j : ℕ)
        → (j ≡ i) ⊎ (j ≡ i → ⊥) → (b : Pending) → after.pending j ≡ Some b
        → IsPlaced (f.cpus j).prefix f.text b
    own_block i f after kept good only j (inl e) b h =
        subst (λ k. IsPlaced (f.cpus k).prefix f.text b) (sym e) (good.block b (ap after.pending (sym e) ∙ h))
    own_block i f after kept good only j (inr n) b h = kept.blocks j b (sym (only.pending j n) ∙ h)

    own_interruption : (i : ℕ) (f after : FlatState) → IsKept f → IsGood i f after → ChangesOnly i f after
        → (j : ℕ) → (j ≡ i) ⊎ (j ≡ i → ⊥) → (w : Waiting) → after.waiting j ≡ Some w
        → IsAwaited (f.cpus j).prefix w
    own_interruption i f after kept good only j (inl e) w h =
        subst (λ k. IsAwaited (f.cpus k).prefix w) (sym e)
        (good.interruption w (ap after.waiting (sym e) ∙ h))
    own_interruption i f after kept good only j (inr n) w h =
        kept.interruptions j w (sym (only.waiting j n) ∙ h)

    all_kept : (i : ℕ) (f after : FlatState) → IsKept f → IsGood i f after → ChangesOnly i f after
        → IsKept after
    all_kept i f after kept good only =
        let same : (j : ℕ) → (after.cpus j).prefix ≡ (f.cpus j).prefix =
        λ j. same_prefix i f after good only j (cases_eq j i) in
        record {
          prefixes = λ j. subst (λ prefix. is_prefix prefix ≡ true) (sym (same j)) (kept.prefixes j);
          areas = λ j.
              subst (λ text. HasFreeArea text (after.cpus j).prefix) (sym only.text)
              (subst (HasFreeArea f.text) (sym (same j)) (kept.areas j));
          blocks = λ j b h.
              subst (λ text. IsPlaced (after.cpus j).prefix text b) (sym only.text)
              (subst (λ prefix. IsPlaced prefix f.text b) (sym (same j))
              (own_block i f after kept good only j (cases_eq j i) b h));
          interruptions = λ j w h.
              subst (λ prefix. IsAwaited prefix w) (sym (same j))
              (own_interruption i f after kept good only j (cases_eq j i) w h);
        }
