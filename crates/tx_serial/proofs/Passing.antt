-- An instruction goes exactly where no test refuses it.
use Rattle.std.proofs.Common.{◌≡◌, ℕ, Bool, true, false, List, [], ◌∷◌, Option, Some, None, refl, sym, ap, ◌≢◌}
use Rattle.std.proofs.Common.{subst, ◌∙◌}
use Rattle.std.proofs.lemmas.Bool.{true≢false}
use Rattle.z_regs.specs.declared.ranges.Range.{Range}
use Rattle.z_instr.specs.declared.instr.Instr.{Instr}
use Rattle.tx_control.specs.declared.begins.Begin.{Begin}
use Rattle.tx_serial.specs.Attempt.{Run}
use Rattle.tx_serial.specs.Fate.{Fate, Goes, Ends, Stops, Refusal, Excepts, Because, fate, fate_by, overflow_of}
use Rattle.tx_serial.specs.Fate.{fate_by_tests, fate_after, overflow_in}
use Rattle.z_touch.specs.Refusals.{at_fetch}
use Rattle.tx_serial.specs.Fate.{unreadable, fetch_refusal, instruction_at, first_refusal, tests, operands}
use Rattle.tx_serial.specs.Fate.{Passes}
use Rattle.std.specs.Prelude.{Result, Ok, Err}
use Rattle.tx_footprint.specs.declared.footprint.Overflow.{Overflow}
use Rattle.tx_footprint.specs.declared.footprint.Overflow.TheVariants.{Fetch, Store}
use Rattle.tx_footprint.specs.Touched.{Sets, fit_of}

goes : Fate → Bool
goes (Goes i ranges) = true
goes (Ends why) = false
goes (Stops e) = false

instruction_in : Instr → Fate → Instr
instruction_in d (Goes i ranges) = i
instruction_in d (Ends why) = d
instruction_in d (Stops e) = d

ranges_in : Fate → List Range
ranges_in (Goes i ranges) = ranges
ranges_in (Ends why) = []
ranges_in (Stops e) = []

-- what goes on is one instruction, with its ranges
pub goes_alike : (i j : Instr) (x y : List Range) → Goes i x ≡ Goes j y → (i ≡ j) × (x ≡ y)
unfolding instruction_in ranges_in
goes_alike i j x y h = (ap (instruction_in i) h, ap ranges_in h)

stays : (nest : List Begin) (refusal : Refusal) → goes (fate_after nest refusal) ≡ false
unfolding goes
stays [] (Excepts e) = refl
stays (b ∷ bs) (Excepts e) = refl
stays [] (Because why) = refl
stays (b ∷ bs) (Because why) = refl

pub no_fate : {A : Type 0} (nest : List Begin) (refusal : Refusal) (i : Instr) (ranges : List Range)
    → fate_after nest refusal ≡ Goes i ranges → A
unfolding goes
no_fate nest refusal i ranges h = absurd (true≢false (sym (ap goes h) ∙ stays nest refusal))

by_tests : (text : List ℕ) (p : Run) (i : Instr) (ranges : List Range) (j : Instr) (o : Option Refusal)
    → first_refusal (tests text p j) ≡ o → fetch_refusal text p ≡ None → instruction_at p ≡ Some j
    → fate_by_tests p j o ≡ Goes i ranges → Passes text p i ranges
by_tests text p i ranges j None t f r h =
    let alike = goes_alike j i (operands j p.cpu) ranges h in
    let same : j ≡ i = alike.0 in
    record {
      fetched = f;
      reads = r ∙ ap (λ k. Some k) same;
      passed = subst (λ k. first_refusal (tests text p k) ≡ None) same t;
      touches = sym alike.1 ∙ ap (λ k. operands k p.cpu) same;
    }
by_tests text p i ranges j (Some refusal) t f r h = no_fate p.nest refusal i ranges h

by_reading : (text : List ℕ) (p : Run) (i : Instr) (ranges : List Range) (u : Option ℕ) (o : Option Instr)
    → fetch_refusal text p ≡ u → instruction_at p ≡ o
    → fate_by text p u o ≡ Goes i ranges → Passes text p i ranges
by_reading text p i ranges (Some code) o f r h = no_fate p.nest (Excepts (at_fetch code)) i ranges h
by_reading text p i ranges None None f r h = no_fate p.nest (Excepts (unreadable p)) i ranges h
by_reading text p i ranges None (Some j) f r h =
    by_tests text p i ranges j (first_refusal (tests text p j)) refl f r h

pub passes : (text : List ℕ) (p : Run) (i : Instr) (ranges : List Range)
    → fate text p ≡ Goes i ranges → Passes text p i ranges
unfolding fate
passes text p i ranges h = by_reading text p i ranges (fetch_refusal text p) (instruction_at p) refl refl h

pub goes_where_passes : (text : List ℕ) (p : Run) (i : Instr) (ranges : List Range)
    → Passes text p i ranges → fate text p ≡ Goes i ranges
unfolding fate
goes_where_passes text p i ranges h =
    ap (λ u. fate_by text p u (instruction_at p)) h.fetched
    ∙ ap (fate_by text p None) h.reads
    ∙ ap (fate_by_tests p i) h.passed
    ∙ sym (ap (Goes i) h.touches)

pub fit_by : (r : Result (Unit {0}) Overflow) → overflow_of r ≡ None → r ≡ Ok tt
fit_by (Ok u) h = refl
fit_by (Err Fetch) h = absurd (cc)
fit_by (Err Store) h = absurd (cc)

pub fits_in : (nest : List Begin) (sets : Sets) → nest ≢ [] → overflow_in nest sets ≡ None → fit_of sets ≡ Ok tt
fits_in [] sets some h = absurd (some refl)
fits_in (b ∷ bs) sets some h = fit_by (fit_of sets) h
