-- An instruction that passes the tests of a run that is shown may go.
use Rattle.std.proofs.Common.{◌≡◌, ◌≢◌, ℕ, ◌<◌, ◌≤◌, Bool, true, false, List, [], None}
use Rattle.std.proofs.Common.{refl, sym}
use Rattle.std.proofs.Common.{ap, subst, ◌∙◌, length}
use Rattle.std.specs.Prelude.{nat_le, ◌&&◌}
use Rattle.std.specs.List.{All}
use Rattle.std.proofs.lemmas.Bool.{leb-false}
use Rattle.z_regs.specs.Cpu.{Cpu}
use Rattle.z_regs.specs.Prefix.{storage_size, is_prefix}
use Rattle.z_regs.specs.Absolute.{absolute_ranges}
use Rattle.z_regs.specs.declared.ranges.Range.{Range}
use Rattle.z_regs.proofs.Exchange.{length-seen}
use Rattle.z_instr.specs.declared.instr.Instr.{Instr}
use Rattle.z_instr.specs.Table.{entry_at}
use Rattle.z_instr.specs.Roles.{begins}
use Rattle.z_effect.specs.After.{AreInside, ranges_of}
use Rattle.tx_control.specs.Nesting.{is_constrained}
use Rattle.tx_control.specs.declared.begins.Begin.{Begin}
use Rattle.tx_control.specs.declared.causes.Why.TheVariants.{Depth}
use Rattle.tx_constraint.specs.Kept.{Kept, next_operand_breach}
use Rattle.tx_constraint.proofs.Attempts.{few_steps}
use Rattle.tx_footprint.specs.Places.{IsInStorage}
use Rattle.tx_footprint.specs.Touched.{touching, fit_of}
use Rattle.tx_serial.specs.Flat.{Storage, bytes_of, laid_over}
use Rattle.tx_serial.specs.Attempt.{Run, footprint}
use Rattle.tx_serial.specs.Attempt as run
use Rattle.tx_serial.specs.Fate.{Passes, operands, aborts_where, fate}
use Rattle.tx_serial.specs.Run.{may_follow, after, after_where, after_fate, outcome_of, more, more_of}
use Rattle.tx_serial.proofs.Passing.{goes_where_passes, fits_in}
use Rattle.tx_private.specs.declared.execution.Completion.{Completion}
use Rattle.tx_private.proofs.Going.{goes_on}
use Rattle.tx_serial.proofs.FreeOperands.{begin_bare}
use Rattle.tx_private.specs.declared.attempt.Attempt.{Attempt}
use Rattle.tx_private.specs.declared.attempt.Mark.{Mark}
use Rattle.tx_private.specs.Shows.{Shows, IsRun, mark_of}
use Rattle.tx_private.specs.Moved.{MayGo, HasMoved}
use Rattle.tx_private.proofs.Fetched.{copy_size}
use Rattle.tx_private.proofs.Inside.{inside, in_storage}
use Rattle.tx_private.proofs.Laid.{length-bytes}
use Rattle.tx_private.proofs.Moving.{none_refuses}
use Rattle.tx_private.proofs.Tested.{place_by, no_breach_by}
use Rattle.tx_constraint.proofs.Whole.{few_words}

-- a run that is gone shows nothing but its mark
pub gone : (base : Storage) (a : Attempt) (p : Run) → mark_of a.mark ≡ run.Missing → p.mark ≡ run.Missing
    → IsRun base a p
gone base a p here there = record { mark = here ∙ sym there; shows = λ not. absurd (not there) }

lasting_size : (base : Storage) (a : Attempt) (p : Run) → Shows base a p → is_prefix p.cpu.prefix ≡ true
    → length a.lasting ≡ storage_size
lasting_size base a p shows ok =
    ap (λ (s : List ℕ). length s) shows.lasting
    ∙ length-seen p.cpu.prefix (bytes_of (laid_over base p.lasting)) ok (length-bytes (laid_over base
    p.lasting))

not_deep : (b : Bool) (n : ℕ) → aborts_where (b && nat_le 16 n) Depth ≡ None → b ≡ true → n < 16
not_deep true n h e = leb-false 16 n (not_aborted (nat_le 16 n) h)
  where
    not_aborted : (c : Bool) → aborts_where c Depth ≡ None → c ≡ false
    not_aborted true g = absurd (cc)
    not_aborted false g = refl
not_deep false n h e = absurd (cc)

starts : (nest : List Begin) (i : Instr) → nest ≡ [] → may_follow nest i ≡ true
    → begins (entry_at i.op.number) ≡ true
starts nest i e h = subst (λ n. may_follow n i ≡ true) e h

pub ready : (base : Storage) (text : List ℕ) (a : Attempt) (p : Run) (i : Instr) (touches absolute : List
    Range)
    → Shows base a p → is_prefix p.cpu.prefix ≡ true → Passes text p i touches
    → absolute ≡ absolute_ranges p.cpu.prefix touches → may_follow p.nest i ≡ true
    → MayGo i touches absolute a
ready base text a p i touches absolute shows ok passes places follows =
    let none = none_refuses text p i passes.passed in
    let size = copy_size a.seen p ok shows.copy in
    let lasting = lasting_size base a p shows ok in
    let all : absolute ≡ absolute_ranges p.cpu.prefix (operands i p.cpu) =
    places ∙ ap (absolute_ranges p.cpu.prefix) passes.touches in
    record {
      size = size;
      lasting_size = lasting;
      inside = subst (λ (c : Cpu). AreInside (ranges_of i c) a.seen) shows.cpu
          (inside text p i a.seen size none.on_operands);
      lasting_inside = subst (λ (c : Cpu). AreInside (ranges_of i c) a.lasting) shows.cpu
          (inside text p i a.lasting lasting none.on_operands);
      room = λ e. subst (λ (n : List Begin). length n < 16) (sym shows.nest)
          (not_deep (begins (entry_at i.op.number)) (length p.nest) none.on_depth e);
      in_storage = subst (All IsInStorage) (sym all) (in_storage text p i ok none.on_operands);
      fits = λ some.
          ap (λ s. fit_of (touching s absolute)) shows.sets
          ∙ ap (λ r. fit_of (touching (footprint p) r)) all
          ∙ fits_in p.nest (touching (footprint p) (absolute_ranges p.cpu.prefix (operands i p.cpu)))
          (λ e. some (shows.nest ∙ e)) none.on_overflow;
      none = λ e.
          all ∙ ap (absolute_ranges p.cpu.prefix)
          (begin_bare i p.cpu (starts p.nest i (sym shows.nest ∙ e) follows));
      few = λ is.
          let limits = shows.limited (ap is_constrained (sym shows.nest) ∙ is) in
          subst (λ (k : Kept). k.count ≤ 32) (sym limits.keeps) (few_steps _ limits.goes_on);
      admitted = λ is.
          let limited = ap is_constrained (sym shows.nest) ∙ is in
          few_words a.constraint i touches
          (no_breach_by (next_operand_breach a.constraint i touches) i
          (sym (place_by base a p i touches shows limited passes.touches) ∙ none.on_places));
    }

-- ---- an instruction that goes

pub follows_by : (base : Storage) (a : Attempt) (p : Run) (i : Instr) (b c : Bool) → Shows base a p
    → b ≡ may_follow a.nest i → b ≡ c → may_follow p.nest i ≡ c
follows_by base a p i b c shows e is = ap (λ n. may_follow n i) (sym shows.nest) ∙ sym e ∙ is

went : (text : List ℕ) (p : Run) (i : Instr) (ranges : List Range) → Passes text p i ranges
    → may_follow p.nest i ≡ true
    → after i (operands i p.cpu) p (outcome_of i (operands i p.cpu) p) ≡ after_fate (fate text p) p
went text p i ranges passes follows =
    ap (λ rs. after i rs p (outcome_of i rs p)) (sym passes.touches)
    ∙ sym (ap (λ b. after_where b i ranges p) follows)
    ∙ sym (ap (λ o. after_fate o p) (goes_where_passes text p i ranges passes))

pub gone_on : (base : Storage) (text : List ℕ) (a b : Attempt) (p : Run) (i : Instr) (touches absolute : List
    Range)
    → Shows base a p → is_prefix p.cpu.prefix ≡ true → Passes text p i touches
    → absolute ≡ absolute_ranges p.cpu.prefix touches → p.mark ≡ run.Open → may_follow p.nest i ≡ true
    → ((done : Completion) × HasMoved i touches absolute done a b) → IsRun base b (after_fate (fate text p) p)
gone_on base text a b p i touches absolute shows ok passes places open_mark follows moved =
    let size = copy_size a.seen p ok shows.copy in
    let same = passes.touches in
    let own : Passes text p i (operands i p.cpu) = subst (Passes text p i) same passes in
    subst (IsRun base b) (went text p i touches passes follows)
    (goes_on base text a b p i absolute moved.0 shows own ok open_mark follows
    (subst (λ rs. HasMoved i rs absolute moved.0 a b) same moved.1)
    (places ∙ ap (absolute_ranges p.cpu.prefix) same) size (lasting_size base a p shows ok))

-- one that may not be the first
pub no_first : (text : List ℕ) (p : Run) (i : Instr) (ranges : List Range) → Passes text p i ranges
    → may_follow p.nest i ≡ false → (after_fate (fate text p) p).mark ≡ run.Missing
no_first text p i ranges passes follows =
    ap (λ o. (after_fate o p).mark) (goes_where_passes text p i ranges passes)
    ∙ ap (λ b. (after_where b i ranges p).mark) follows

-- ---- by the mark

pub more_open : (text : List ℕ) (p : Run) → p.mark ≡ run.Open → after_fate (fate text p) p ≡ more text p
unfolding more
more_open text p e = sym (ap (λ m. more_of m text p) e)

pub more_committed : (text : List ℕ) (p : Run) → p.mark ≡ run.Committed → (more text p).mark ≡ run.Missing
unfolding more
more_committed text p e = ap (λ m. (more_of m text p).mark) e

pub more_overflowed : (text : List ℕ) (p : Run) → p.mark ≡ run.Overflowed → (more text p).mark ≡ run.Missing
unfolding more
more_overflowed text p e = ap (λ m. (more_of m text p).mark) e

pub more_missing : (text : List ℕ) (p : Run) → p.mark ≡ run.Missing → (more text p).mark ≡ run.Missing
unfolding more
more_missing text p e = ap (λ m. (more_of m text p).mark) e

pub is_there : (m : run.Mark) → m ≡ run.Open → m ≢ run.Missing
is_there m e h = by (sym e ∙ h)
  where
    by : run.Open ≡ run.Missing → ⊥
    by g = cc

-- the mark as code has it
pub marked_as : (base : Storage) (a : Attempt) (p : Run) (m : Mark) → IsRun base a p → a.mark ≡ m
    → p.mark ≡ mark_of m
marked_as base a p m r e = sym r.mark ∙ ap mark_of e
