-- How runs end, by what is kept of them.
use Rattle.std.proofs.Common.{◌≡◌, ◌≢◌, ℕ, ◌<◌, ◌≤◌, Bool, true, false, List, [], ◌∷◌}
use Rattle.std.proofs.Common.{Some, None}
use Rattle.std.proofs.Common.{refl, sym, ap, subst, ◌∙◌, length, arith, inl, inr, ◌⊎◌}
use Rattle.std.specs.Prelude.{◌&&◌, ◌||◌, not, nat_lt}
use Rattle.std.specs.List.{list_any, All}
use Rattle.std.proofs.lemmas.Bool.{cases_lt, lt-ltb, le-ltb}
use Rattle.std.proofs.lemmas.List.Elements.{All-head, All-tail}
use Rattle.z_regs.specs.Cpu.{Cpu, cpu_of}
use Rattle.z_regs.specs.Prefix.{storage_size, is_prefix}
use Rattle.z_regs.specs.declared.ranges.Range.{Range}
use Rattle.z_instr.specs.declared.instr.Instr.{Instr}
use Rattle.z_effect.specs.One.{length_of}
use Rattle.z_effect.specs.Outcome.{Outcome, Did, Divides, Aborts}
use Rattle.z_effect.specs.Outcome as outcome
use Rattle.z_effect.specs.After.{AreInside, ranges_of, touched, exception}
use Rattle.z_instr.specs.Table.{kind_at}
use Rattle.line_table.specs.Sizes.{storage_lines}
use Rattle.tx_control.specs.declared.begins.Begin.{Begin}
use Rattle.tx_control.specs.declared.causes.Why.{Why}
use Rattle.tx_control.specs.declared.causes.Why.TheVariants.{Tabort}
use Rattle.tx_control.specs.Codes.{fixed_point_overflow_code, fixed_point_divide_code}
use Rattle.tx_footprint.specs.Sizes.{line_size}
use Rattle.tx_footprint.specs.Places.{IsInStorage, has_place}
use Rattle.tx_footprint.specs.Touched.{Sets, sets_of}
use Rattle.tx_footprint.proofs.Spans.{address_of}
use Rattle.tx_serial.specs.Flat.{Storage}
use Rattle.tx_serial.specs.Attempt.{Run, footprint, last_step}
use Rattle.tx_serial.specs.Attempt as run
use Rattle.tx_serial.specs.Fate.{Passes, cause_in, fate}
use Rattle.tx_serial.specs.Run.{outcome_of}
use Rattle.tx_serial.specs.Ending.{outcome_cause, fate_cause, ending, ending_of, overflow_cause}
use Rattle.tx_serial.proofs.Passing.{goes_where_passes}
use Rattle.tx_private.specs.declared.attempt.Attempt.{Attempt}
use Rattle.tx_private.specs.declared.execution.Completion.TheVariants as completion
use Rattle.tx_private.specs.Done.{completion_of, outcome_at}
use Rattle.tx_private.specs.declared.coming.Next.{Next}
use Rattle.tx_private.specs.declared.coming.Next.TheVariants as next
use Rattle.tx_private.specs.Coming.{Comes, fate_of}
use Rattle.tx_private.specs.Shows.{Shows}
use Rattle.tx_private.proofs.Fetched.{copy_size}
use Rattle.tx_private.proofs.Inside.{inside}
use Rattle.tx_private.proofs.Moving.{none_refuses}
use Rattle.tx_serial.proofs.FreeCauses.{cause_by_kind}
use Rattle.tx_private.proofs.Settled.{same_outcome}

-- ---- by the outcome of the next instruction

pub completed : (nest : List Begin) (i : Instr) (o : Outcome) → completion.Completed ≡ completion_of o
    → None ≡ outcome_cause nest i o
completed nest i (Did c bytes) h = refl
completed nest i (outcome.Overflowed c bytes) h = refl
completed nest i Divides h = absurd (cc)
completed nest i (Aborts code) h = absurd (cc)

pub overflows : (nest : List Begin) (i : Instr) (o : Outcome) → completion.Overflowed ≡ completion_of o
    → None ≡ outcome_cause nest i o
overflows nest i (Did c bytes) h = refl
overflows nest i (outcome.Overflowed c bytes) h = refl
overflows nest i Divides h = absurd (cc)
overflows nest i (Aborts code) h = absurd (cc)

pub divides : (nest : List Begin) (i : Instr) (o : Outcome) (n : ℕ) (why : Why)
    → completion.Divides ≡ completion_of o → n ≡ length_of i
    → why ≡ cause_in nest (exception fixed_point_divide_code n) → Some why ≡ outcome_cause nest i o
divides nest i (Did c bytes) n why h e d = absurd (cc)
divides nest i (outcome.Overflowed c bytes) n why h e d = absurd (cc)
divides nest i Divides n why h e d =
    ap (λ x. Some x) (d ∙ ap (λ m. cause_in nest (exception fixed_point_divide_code m)) e)
divides nest i (Aborts code) n why h e d = absurd (cc)

pub aborts : (nest : List Begin) (i : Instr) (o : Outcome) (code : ℕ)
    → completion.Aborts code ≡ completion_of o
    → Some (Tabort code) ≡ outcome_cause nest i o
aborts nest i (Did c bytes) code h = absurd (cc)
aborts nest i (outcome.Overflowed c bytes) code h = absurd (cc)
aborts nest i Divides code h = absurd (cc)
aborts nest i (Aborts other) code h = ap (λ n. Some (Tabort n)) (let e : code ≡ other = cc in e)

-- the operands of an instruction that goes lie in storage
pub inside_by : (base : Storage) (text : List ℕ) (a : Attempt) (p : Run) (i : Instr) (ranges : List Range)
    → Shows base a p → is_prefix p.cpu.prefix ≡ true → Passes text p i ranges
    → (length a.seen ≡ storage_size) × AreInside (ranges_of i (cpu_of a.image)) a.seen
inside_by base text a p i ranges shows ok passes =
    let size = copy_size a.seen p ok shows.copy in (
      size,
      subst (λ (c : Cpu). AreInside (ranges_of i c) a.seen) shows.cpu
          (inside text p i a.seen size (none_refuses text p i passes.passed).on_operands),
    )

pub cause_by : (base : Storage) (text : List ℕ) (a : Attempt) (p : Run) (i : Instr) (ranges : List Range)
    → Shows base a p → is_prefix p.cpu.prefix ≡ true → Passes text p i ranges
    → outcome_cause a.nest i (outcome_at (length a.nest) i (cpu_of a.image) a.seen)
    ≡ fate_cause p (fate text p)
cause_by base text a p i ranges shows ok passes =
    let size = copy_size a.seen p ok shows.copy in
    ap (λ (n : List Begin). outcome_cause n i (outcome_at (length n) i (cpu_of a.image) a.seen)) shows.nest
    ∙ ap (λ (c : Cpu). outcome_cause p.nest i (outcome_at (length p.nest) i c a.seen)) (sym shows.cpu)
    ∙ ap (outcome_cause p.nest i)
    (same_outcome i p a.seen ok shows.copy (inside text p i a.seen size (none_refuses text p i
    passes.passed).on_operands))
    ∙ ap (λ rs. outcome_cause p.nest i (outcome_of i rs p)) (sym passes.touches)
    ∙ sym (ap (fate_cause p) (goes_where_passes text p i ranges passes))

-- and by other bytes of storage too: whether it ends by a cause of its own does not depend on them
pub inside_other : (base : Storage) (text : List ℕ) (a : Attempt) (p : Run) (i : Instr) (ranges : List Range)
    → Shows base a p → is_prefix p.cpu.prefix ≡ true → Passes text p i ranges → length a.trial ≡ storage_size
    → AreInside (ranges_of i (cpu_of a.image)) a.trial
inside_other base text a p i ranges shows ok passes size =
    subst (λ (c : Cpu). AreInside (ranges_of i c) a.trial) shows.cpu
    (inside text p i a.trial size (none_refuses text p i passes.passed).on_operands)

pub tried_by : (base : Storage) (text : List ℕ) (a : Attempt) (p : Run) (i : Instr) (ranges : List Range)
    → Shows base a p → is_prefix p.cpu.prefix ≡ true → Passes text p i ranges
    → outcome_cause a.nest i (outcome_at (length a.nest) i (cpu_of a.image) a.trial)
    ≡ fate_cause p (fate text p)
tried_by base text a p i ranges shows ok passes =
    cause_by_kind a.nest i (kind_at i.op.number) (length_of i) i (cpu_of a.image) (length a.nest)
    (touched (ranges_of i (cpu_of a.image)) a.trial) (touched (ranges_of i (cpu_of a.image)) a.seen)
    ∙ cause_by base text a p i ranges shows ok passes

-- ---- by the mark

pub ending_open : (text : List ℕ) (p : Run) → p.mark ≡ run.Open → fate_cause p (fate text p) ≡ ending text p
unfolding ending
ending_open text p e = sym (ap (λ m. ending_of m text p) e)

pub ending_committed : (text : List ℕ) (p : Run) → p.mark ≡ run.Committed → None ≡ ending text p
unfolding ending
ending_committed text p e = sym (ap (λ m. ending_of m text p) e)

pub ending_missing : (text : List ℕ) (p : Run) → p.mark ≡ run.Missing → None ≡ ending text p
unfolding ending
ending_missing text p e = sym (ap (λ m. ending_of m text p) e)

pub ending_overflowed : (base : Storage) (text : List ℕ) (a : Attempt) (p : Run) (why : Why) → Shows base a p
    → p.mark ≡ run.Overflowed → why ≡ cause_in a.nest (exception fixed_point_overflow_code a.last.length)
    → Some why ≡ ending text p
unfolding ending
ending_overflowed base text a p why shows e same =
    let told = shows.last e in
    ap (λ x. Some x)
    (same ∙ ap (λ n. cause_in n (exception fixed_point_overflow_code a.last.length)) shows.nest
    ∙ ap (λ n. cause_in p.nest (exception fixed_point_overflow_code n)) (sym told.size))
    ∙ sym (ap (overflow_cause p.nest) told.there)
    ∙ sym (ap (λ m. ending_of m text p) e)

-- ---- lines

line_in : (r : Range) (line : ℕ) → IsInStorage r → has_place line_size r line ≡ true → line < storage_lines
line_in r line h there =
    let found = address_of line_size r line there in
    let within = h found.0 found.1 found.2 in
    let place = found.3 in
    omega (arith, within, place)

-- no line behind the end of storage is touched
none_beyond : (kind : Bool → Bool) (ranges : List Range) (line : ℕ) → All IsInStorage ranges → storage_lines ≤ line
    → list_any (λ r. kind r.store && has_place line_size r line) ranges ≡ false
none_beyond kind [] line h past = refl
none_beyond kind (r ∷ rs) line h past =
    first (kind r.store) (has_place line_size r line) refl
    ∙ none_beyond kind rs line (All-tail IsInStorage r rs h) past
  where
    first : (x y : Bool) → has_place line_size r line ≡ y
        → ((x && has_place line_size r line) || list_any (λ q. kind q.store && has_place line_size q line) rs)
        ≡ list_any (λ q. kind q.store && has_place line_size q line) rs
    first false y e = refl
    first true true e =
        let low = line_in r line (All-head IsInStorage r rs h) e in
        absurd (omega (arith, low, past))
    first true false e =
        ap (λ b. b || list_any (λ q. kind q.store && has_place line_size q line) rs) e

bounded : (b : Bool) (line : ℕ) → (storage_lines ≤ line → b ≡ false) → (line < storage_lines) ⊎ (storage_lines ≤ line)
    → (nat_lt line storage_lines && b) ≡ b
bounded b line beyond (inl low) = ap (λ t. t && b) (lt-ltb line storage_lines low)
bounded b line beyond (inr high) = ap (λ t. t && b) (le-ltb line storage_lines high) ∙ sym (beyond high)

pub stored_by : (base : Storage) (a : Attempt) (p : Run) (line : ℕ) → Shows base a p
    → (nat_lt line storage_lines && (sets_of a.footprint).stored line) ≡ (footprint p).stored line
stored_by base a p line shows =
    ap (λ (s : Sets). nat_lt line storage_lines && s.stored line) shows.sets
    ∙ bounded ((footprint p).stored line) line (none_beyond (λ b. b) p.touched line shows.touched)
    (cases_lt line storage_lines)

pub fetched_by : (base : Storage) (a : Attempt) (p : Run) (line : ℕ) → Shows base a p
    → (nat_lt line storage_lines && (sets_of a.footprint).fetched line) ≡ (footprint p).fetched line
fetched_by base a p line shows =
    ap (λ (s : Sets). nat_lt line storage_lines && s.fetched line) shows.sets
    ∙ bounded ((footprint p).fetched line) line (none_beyond not p.touched line shows.touched)
    (cases_lt line storage_lines)

-- ---- from outside

pub comes_fate : (text : List ℕ) (p : Run) (n : Next) → Comes text p n → fate text p ≡ fate_of n
comes_fate text p (next.Goes i admitted) h = goes_where_passes text p i admitted.touches h.0
comes_fate text p (next.Ends why) h = h
comes_fate text p (next.Stops e) h = h

pub fetch_then : (f r g s : Bool) → f ≡ g → f ≡ true → r ≡ s → not r ≡ (g && not s)
fetch_then f r g s e is d = ap not d ∙ sym (ap (λ b. b && not s) (sym e ∙ is))

pub fetch_else : (f g s : Bool) → f ≡ g → f ≡ false → f ≡ (g && not s)
fetch_else f g s e is = is ∙ sym (ap (λ b. b && not s) (sym e ∙ is))

pub starved_then : (a c b : Bool) → c ≡ true → a ≡ b → a ≡ (c && b)
starved_then a c b is e = e ∙ sym (ap (λ x. x && b) is)

pub either_then : (x y z : Bool) → x ≡ y → x ≡ true → x ≡ (y || z)
either_then x y z e is = is ∙ sym (ap (λ b. b || z) (sym e ∙ is))

pub either_else : (o x y z : Bool) → x ≡ y → x ≡ false → o ≡ z → o ≡ (y || z)
either_else o x y z e is d = d ∙ sym (ap (λ b. b || z) (sym e ∙ is))

pub is_there_still : (m : run.Mark) → m ≡ run.Overflowed → m ≢ run.Missing
is_there_still m e h = by (sym e ∙ h)
  where
    by : run.Overflowed ≡ run.Missing → ⊥
    by g = cc
