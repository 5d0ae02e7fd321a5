-- What an instruction that goes changes, and what its attempt has touched then.
use Rattle.std.proofs.Common.{◌≡◌, ℕ, suc, ◌/◌, Bool, true, false, List, [], ◌∷◌}
use Rattle.std.proofs.Common.{Some, refl, sym, ap, subst, ◌∙◌}
use Rattle.std.specs.Prelude.{◌==◌}
use Rattle.std.proofs.lemmas.Bool.{true≢false, or_left, or_right}
use Rattle.z_regs.specs.Cpu.{Cpu}
use Rattle.z_regs.specs.Prefix.{is_prefix}
use Rattle.z_regs.specs.Absolute.{absolute_ranges}
use Rattle.z_regs.specs.declared.ranges.Range.{Range}
use Rattle.z_instr.specs.declared.instr.Instr.{Instr}
use Rattle.z_instr.specs.Roles.{begins}
use Rattle.z_instr.specs.Table.{entry_at}
use Rattle.z_effect.specs.Outcome.{Outcome, Did, Divides, Aborts}
use Rattle.z_effect.specs.Outcome as outcome
use Rattle.tx_control.specs.declared.begins.Begin.{Begin}
use Rattle.tx_footprint.specs.Places.{stores, fetches}
use Rattle.tx_footprint.specs.Sizes.{line_size}
use Rattle.tx_serial.specs.Overlay.{nothing}
use Rattle.tx_serial.specs.Fate.{Goes, fate}
use Rattle.tx_serial.specs.Flat.{Storage, FlatState, laid_over}
use Rattle.tx_serial.specs.Run.{run, may_follow}
use Rattle.tx_serial.proofs.Copies.{run_lasting}
use Rattle.tx_serial.proofs.Passing.{passes}
use Rattle.tx_serial.proofs.StoredPlaces.{stored_places}
use Rattle.tx_progress.specs.Doing.{Executed, executed, executed_where, outside, opened, inside, closed_by}
use Rattle.tx_progress.specs.Doing.{stores_of, going_on, committed}
use Rattle.tx_progress.specs.Followed.{ChangesIn, stored_lines, TouchesMore, beside_in}
use Rattle.tx_progress.specs.Local.{Local, Beside, flat_from}
use Rattle.tx_progress.specs.Progress.{Progress, is_live, resting, seen_through}
use Rattle.tx_progress.specs.Reached.{progress_of, IsFollowed}
use Rattle.tx_progress.specs.Trial.{fate_by_progress, outcome_by}
use Rattle.tx_progress.proofs.Parts.{followed_fate, live_follows, quiet_run}
use Rattle.tx_progress.proofs.Moving.{one_more, executed_is, begin_follows, next_of}
use Rattle.tx_progress.proofs.Endings.{longer_progress}
use Rattle.tx_serial.proofs.StoredPlaces.{AreSmall, small_operands}
use Rattle.tx_progress.proofs.Facts.{has_store, keeps_prefix}
use Rattle.tx_progress.proofs.Touching.{stores_in_lines, seen_in, laid_in}

-- ---- the progress of a run, open or not

-- every byte that it has stored lies in a line of its footprint
record StoresIn (q : Progress) : Type 0 where
  pub overlay : (a byte : ℕ) → q.overlay a ≡ Some byte → q.footprint.stored (a / line_size) ≡ true
  pub lasting : (a byte : ℕ) → q.lasting a ≡ Some byte → q.footprint.stored (a / line_size) ≡ true

run_stores : (f : FlatState) (i k : ℕ) (q : Progress) → is_prefix (f.cpus i).prefix ≡ true
    → progress_of (run f i k) ≡ q → StoresIn q
unfolding progress_of
run_stores f i k q ok e = subst StoresIn e record {
  overlay = λ a byte h.
      stored_places line_size f i k (a / line_size) ok
      ∙ has_store nothing (run f i k).stores line_size a byte h refl;
  lasting = λ a byte h.
      stored_places line_size f i k (a / line_size) ok
      ∙ run_lasting (λ s. s.address / line_size == a / line_size) f i k
      (has_store nothing (run f i k).lasting line_size a byte h refl);
}

-- ---- what is left

-- the attempt goes on, or has come to a cause behind the instruction
on_touches : (storage : Storage) (locals : ℕ → Local) (i : ℕ) (instr : Instr) (ranges : List Range) (c : Cpu)
    (bytes : List ℕ) → StoresIn (next_of (locals i) instr ranges c bytes)
    → TouchesMore (locals i).attempt storage ranges
    (going_on (next_of (locals i) instr ranges c bytes) (beside_in storage locals i))
on_touches storage locals i instr ranges c bytes held = record {
  bytes = λ a h. refl;
  stored = λ line h. h;
  fetched = λ line h. h;
  lasting = seen_in (next_of (locals i) instr ranges c bytes).lasting (stored_lines (locals i).attempt ranges)
      storage held.lasting;
}

committed_touches : (storage : Storage) (locals : ℕ → Local) (i : ℕ) (instr : Instr) (ranges : List Range)
    (c : Cpu) (bytes : List ℕ) → StoresIn (next_of (locals i) instr ranges c bytes)
    → TouchesMore (locals i).attempt storage ranges
    (committed (next_of (locals i) instr ranges c bytes) (beside_in storage locals i))
committed_touches storage locals i instr ranges c bytes held = record {
  bytes = seen_in (next_of (locals i) instr ranges c bytes).overlay (stored_lines (locals i).attempt ranges)
      storage held.overlay;
  stored = λ line h. absurd (true≢false (sym h));
  fetched = λ line h. absurd (true≢false (sym h));
  lasting = seen_in (next_of (locals i) instr ranges c bytes).overlay (stored_lines (locals i).attempt ranges)
      storage held.overlay;
}

-- nothing has changed
same_touches : (storage : Storage) (locals : ℕ → Local) (i : ℕ) (ranges : List Range)
    → StoresIn (locals i).attempt
    → TouchesMore (locals i).attempt storage ranges (beside_in storage locals i)
same_touches storage locals i ranges held =
    let q = (locals i).attempt in
    record {
      bytes = λ a h. refl;
      stored = λ line h. or_left (q.footprint.stored line) (stores (absolute_ranges q.cpu.prefix ranges)
          line) h;
      fetched = λ line h.
          or_left (q.footprint.fetched line) (fetches (absolute_ranges q.cpu.prefix ranges) line) h;
      lasting = seen_in q.lasting (stored_lines q ranges) storage (λ a byte h.
          or_left (q.footprint.stored (a / line_size)) (stores (absolute_ranges q.cpu.prefix ranges)
          (a / line_size)) (held.lasting a byte h));
    }

closed_touches : (storage : Storage) (locals : ℕ → Local) (i : ℕ) (instr : Instr) (ranges : List Range)
    (c : Cpu) (bytes : List ℕ) (nest : List Begin) → StoresIn (next_of (locals i) instr ranges c bytes)
    → TouchesMore (locals i).attempt storage ranges
    (closed_by (next_of (locals i) instr ranges c bytes) nest (beside_in storage locals i)).after
closed_touches storage locals i instr ranges c bytes [] held =
    committed_touches storage locals i instr ranges c bytes held
closed_touches storage locals i instr ranges c bytes (outermost ∷ inner) held =
    on_touches storage locals i instr ranges c bytes held

-- ---- outside transactions

rested_touches : (q : Progress) (storage : Storage) (ranges : List Range) (c : Cpu) (after : Beside)
    → after.local.attempt ≡ resting c → ChangesIn (stored_lines q ranges) storage after.storage
    → TouchesMore q storage ranges after
rested_touches q storage ranges c after e changes = record {
  bytes = changes;
  stored = λ line h. absurd (true≢false (sym h ∙ ap (λ x. x.footprint.stored line) e));
  fetched = λ line h. absurd (true≢false (sym h ∙ ap (λ x. x.footprint.fetched line) e));
  lasting = subst (λ (x : Progress). ChangesIn (stored_lines q ranges) storage (seen_through x.lasting
      after.storage)) (sym e) changes;
}

laid_touches : (storage : Storage) (q : Progress) (ranges : List Range) (bytes : List ℕ)
    → is_prefix q.cpu.prefix ≡ true → AreSmall ranges
    → ChangesIn (stored_lines q ranges) storage (laid_over storage (stores_of ranges bytes q))
laid_touches storage q ranges bytes ok small =
    laid_in (stores_of ranges bytes q) (stored_lines q ranges) storage (λ line h.
    or_right (q.footprint.stored line) (stores (absolute_ranges q.cpu.prefix ranges) line)
    (stores_in_lines q.cpu.prefix ranges bytes line ok small h))

outside_touches : (storage : Storage) (locals : ℕ → Local) (i : ℕ) (instr : Instr) (ranges : List Range)
    (o : Outcome) → is_prefix (locals i).attempt.cpu.prefix ≡ true → AreSmall ranges
    → StoresIn (locals i).attempt
    → TouchesMore (locals i).attempt storage ranges (outside instr ranges (beside_in storage locals i) o)
outside_touches storage locals i instr ranges (Did c bytes) ok small held =
    rested_touches (locals i).attempt storage ranges c _ refl
    (laid_touches storage (locals i).attempt ranges bytes ok small)
outside_touches storage locals i instr ranges (outcome.Overflowed c bytes) ok small held =
    rested_touches (locals i).attempt storage ranges _
    (outside instr ranges (beside_in storage locals i) (outcome.Overflowed c bytes)) refl
    (laid_touches storage (locals i).attempt ranges bytes ok small)
outside_touches storage locals i instr ranges Divides ok small held =
    rested_touches (locals i).attempt storage ranges _
    (outside instr ranges (beside_in storage locals i) Divides) refl (λ a h. refl)
outside_touches storage locals i instr ranges (Aborts code) ok small held =
    same_touches storage locals i ranges held

-- ---- by what is executed

inside_touches : (storage : Storage) (locals : ℕ → Local) (i : ℕ) (instr : Instr) (ranges : List Range)
    (o : Outcome)
    → ((c : Cpu) (bytes : List ℕ) → o ≡ Did c bytes → StoresIn (next_of (locals i) instr ranges c bytes))
    → ((c : Cpu) (bytes : List ℕ) → o ≡ outcome.Overflowed c bytes
    → StoresIn (next_of (locals i) instr ranges c bytes)) → StoresIn (locals i).attempt
    → TouchesMore (locals i).attempt storage ranges (inside instr ranges (beside_in storage locals i) o).after
inside_touches storage locals i instr ranges (Did c bytes) did over held =
    closed_touches storage locals i instr ranges c bytes (next_of (locals i) instr ranges c bytes).nest
    (did c bytes refl)
inside_touches storage locals i instr ranges (outcome.Overflowed c bytes) did over held =
    on_touches storage locals i instr ranges c bytes (over c bytes refl)
inside_touches storage locals i instr ranges Divides did over held = same_touches storage locals i ranges held
inside_touches storage locals i instr ranges (Aborts code) did over held =
    same_touches storage locals i ranges held

opened_touches : (storage : Storage) (locals : ℕ → Local) (i : ℕ) (instr : Instr) (ranges : List Range)
    (o : Outcome)
    → ((c : Cpu) (bytes : List ℕ) → o ≡ Did c bytes → StoresIn (next_of (locals i) instr ranges c bytes))
    → StoresIn (locals i).attempt
    → TouchesMore (locals i).attempt storage ranges (opened instr ranges (beside_in storage locals i) o)
opened_touches storage locals i instr ranges (Did c bytes) did held =
    on_touches storage locals i instr ranges c bytes (did c bytes refl)
opened_touches storage locals i instr ranges (outcome.Overflowed c bytes) did held =
    same_touches storage locals i ranges held
opened_touches storage locals i instr ranges Divides did held = same_touches storage locals i ranges held
opened_touches storage locals i instr ranges (Aborts code) did held = same_touches storage locals i ranges
    held

pub executed_touches : (text : List ℕ) (storage : Storage) (locals : ℕ → Local) (i : ℕ) (instr : Instr)
    (ranges : List Range) → IsFollowed (flat_from text storage locals) i (locals i)
    → is_prefix (locals i).cpu.prefix ≡ true
    → fate_by_progress text storage (locals i).attempt ≡ Goes instr ranges
    → TouchesMore (locals i).attempt storage ranges (executed instr ranges (beside_in storage locals i)).after
executed_touches text storage locals i instr ranges is ok h =
    let f = flat_from text storage locals in
    let b = beside_in storage locals i in
    let q = (locals i).attempt in
    let p = run f i q.count in
    let o = outcome_by storage instr ranges q in
    let goes : fate text p ≡ Goes instr ranges = followed_fate f i (locals i) is ∙ h in
    let pass = passes text p instr ranges goes in
    let small = subst AreSmall (sym pass.touches) (small_operands instr p.cpu) in
    let kept : is_prefix q.cpu.prefix ≡ true =
    ap is_prefix (keeps_prefix f i (locals i) is) ∙ ok in
    let held = run_stores f i q.count q ok is.attempt in
    let did : may_follow p.nest instr ≡ true → (c : Cpu) (bytes : List ℕ) → o ≡ Did c bytes
    → StoresIn (next_of (locals i) instr ranges c bytes) =
    λ follows c bytes e. run_stores f i (next_of (locals i) instr ranges c bytes).count _ ok
    (one_more f i (locals i) instr ranges c bytes is h follows e).progress in
    let over : may_follow p.nest instr ≡ true → (c : Cpu) (bytes : List ℕ) → o ≡ outcome.Overflowed c bytes
    → StoresIn (next_of (locals i) instr ranges c bytes) =
    λ follows c bytes e. run_stores f i (suc q.count) _ ok
    (longer_progress f i (locals i) instr ranges c bytes is h follows e) in
    by (is_live q) (begins (entry_at instr.op.number)) refl refl o refl kept small held did over
  where
    by : (live begin : Bool) → is_live (locals i).attempt ≡ live → begins (entry_at instr.op.number) ≡ begin
        → (o : Outcome) → outcome_by storage instr ranges (locals i).attempt ≡ o
        → is_prefix (locals i).attempt.cpu.prefix ≡ true → AreSmall ranges → StoresIn (locals i).attempt
        → (may_follow (run (flat_from text storage locals) i (locals i).attempt.count).nest instr ≡ true
        → (c : Cpu) (bytes : List ℕ) → o ≡ Did c bytes → StoresIn (next_of (locals i) instr ranges c bytes))
        → (may_follow (run (flat_from text storage locals) i (locals i).attempt.count).nest instr ≡ true
        → (c : Cpu) (bytes : List ℕ) → o ≡ outcome.Overflowed c bytes
        → StoresIn (next_of (locals i) instr ranges c bytes))
        → TouchesMore (locals i).attempt storage ranges
        (executed instr ranges (beside_in storage locals i)).after
    by true begin l e o came kept small held did over =
        let follows = live_follows (flat_from text storage locals) i (locals i).attempt.count instr is.opens
        l in
        subst (λ (x : Executed). TouchesMore (locals i).attempt storage ranges x.after)
        (sym (executed_is instr ranges (beside_in storage locals i) true begin l e
        ∙ ap (executed_where true begin instr ranges (beside_in storage locals i)) came))
        (inside_touches storage locals i instr ranges o (did follows) (over follows) held)
    by false true l e o came kept small held did over =
        let f = flat_from text storage locals in
        let follows : may_follow (run f i (locals i).attempt.count).nest instr ≡ true =
        ap (λ p. may_follow p.nest instr) (sym (quiet_run f i (locals i) l)) ∙ begin_follows f i instr e in
        subst (λ (x : Executed). TouchesMore (locals i).attempt storage ranges x.after)
        (sym (executed_is instr ranges (beside_in storage locals i) false true l e
        ∙ ap (executed_where false true instr ranges (beside_in storage locals i)) came))
        (opened_touches storage locals i instr ranges o (did follows) held)
    by false false l e o came kept small held did over =
        subst (λ (x : Executed). TouchesMore (locals i).attempt storage ranges x.after)
        (sym (executed_is instr ranges (beside_in storage locals i) false false l e
        ∙ ap (executed_where false false instr ranges (beside_in storage locals i)) came))
        (outside_touches storage locals i instr ranges o kept small held)
