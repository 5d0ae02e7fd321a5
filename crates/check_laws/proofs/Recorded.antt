-- What is recorded are events of CPUs that there are, and a run has no more open begins than instructions.
use Rattle.std.proofs.Common.{sym, subst, ℕ, zero, suc, ◌+◌, ◌-◌, ◌<◌, ◌≤◌, arith}
use Rattle.std.proofs.Common.{Bool, true, false, List, [], ◌∷◌, ◌++◌, length, length-append, take}
use Rattle.std.specs.Prelude.{All, if◌then◌else◌}
use Rattle.std.proofs.lemmas.List.{length-take}
use Rattle.std.proofs.lemmas.List.Elements.{All-nil, All-push, All-head, All-tail}
use Rattle.z_regs.specs.declared.ranges.Range.{Range}
use Rattle.z_instr.specs.declared.instr.Instr.{Instr}
use Rattle.z_instr.specs.Roles.{is_end, begins}
use Rattle.z_instr.specs.Table.{entry_at}
use Rattle.z_effect.specs.Beginning.{begin_of}
use Rattle.z_effect.specs.Outcome.{Outcome, Did, Divides, Aborts}
use Rattle.z_effect.specs.Outcome as outcome
use Rattle.tx_control.specs.declared.begins.Begin.{Begin}
use Rattle.tx_journal.specs.Image.{cpu_of_event}
use Rattle.tx_journal.specs.declared.events.Event.{Event}
use Rattle.tx_journal.specs.declared.events.Event.TheVariants as event
use Rattle.tx_serial.specs.Attempt.{Run, Mark, Open, Committed, Overflowed, Missing}
use Rattle.tx_serial.specs.Fate.{Fate, Goes, Ends, Stops, fate}
use Rattle.tx_serial.specs.Flat.{FlatState}
use Rattle.tx_serial.specs.Run.{nest_after, after, after_where, after_fate, more_of, more, may_follow, outcome_of, run}
use Rattle.tx_meaning.specs.Limits.{Setting}
use Rattle.tx_meaning.specs.Meaning.{meaning, meaning_from}
use Rattle.tx_meaning.specs.State.{State, beginning, cpus_of}
use Rattle.tx_meaning.specs.Idle.{idle}
use Rattle.tx_meaning.specs.Turn.{happen, turn}
use Rattle.tx_meaning.specs.Views.{AreKnown}
use Rattle.tx_meaning.proofs.Books.{idle_stays, idle_or_not, turn_booked, external_booked}

-- ---- open begins

-- at most one begin more
one_more : (a b : Bool) (nest : List Begin) (x : Begin)
    → length (if a then nest ++ x ∷ [] else if b then take (length nest - 1) nest else nest) ≤ length nest + 1
one_more true b nest x = let e = length-append nest (x ∷ []) in omega (arith, e)
one_more false true nest x = let e = length-take (length nest - 1) nest in omega (arith, e)
one_more false false nest x = omega arith

nested : (i : Instr) (general : List ℕ) (nest : List Begin) → length (nest_after i general nest) ≤ length nest + 1
nested i general nest =
    one_more (begins (entry_at i.op.number)) (is_end (entry_at i.op.number)) nest (begin_of i general)

after_deep : (i : Instr) (ranges : List Range) (p : Run) (o : Outcome)
    → length (after i ranges p o).nest ≤ length p.nest + 1
after_deep i ranges p (Did c bytes) = nested i p.cpu.general p.nest
after_deep i ranges p (outcome.Overflowed c bytes) = nested i p.cpu.general p.nest
after_deep i ranges p Divides = omega arith
after_deep i ranges p (Aborts code) = omega arith

where_deep : (b : Bool) (i : Instr) (ranges : List Range) (p : Run)
    → length (after_where b i ranges p).nest ≤ length p.nest + 1
where_deep true i ranges p = after_deep i ranges p (outcome_of i ranges p)
where_deep false i ranges p = omega arith

fate_deep : (f : Fate) (p : Run) → length (after_fate f p).nest ≤ length p.nest + 1
fate_deep (Goes i ranges) p = where_deep (may_follow p.nest i) i ranges p
fate_deep (Ends why) p = omega arith
fate_deep (Stops e) p = omega arith

more_deep : (mark : Mark) (text : List ℕ) (p : Run) → length (more_of mark text p).nest ≤ length p.nest + 1
more_deep Open text p = fate_deep (fate text p) p
more_deep Committed text p = omega arith
more_deep Overflowed text p = omega arith
more_deep Missing text p = omega arith

pub deep : (f : FlatState) (i n : ℕ) → length (run f i n).nest ≤ n
unfolding run more
deep f i zero = omega arith
deep f i (suc k) =
    let p = run f i k in
    let one = more_deep p.mark f.text p in
    let low = deep f i k in
    omega (arith, one, low)

-- ---- recorded events

module _ (m : Setting) where
  abbrev Known : List Event → Type 0
  Known events = All (λ e. cpu_of_event e < cpus_of m) events

  happened : (e : Event) (s : State) → cpu_of_event e < cpus_of m → Known s.events → Known (happen m e s).state.events
  unfolding happen
  happened (event.Turn i) s below known =
      idle_or_not (idle m s i) (λ o. Known (turn m i s).state.events)
      (λ x e. subst (λ (t : State). Known t.events) (sym (idle_stays m i s x e)) known)
      (λ none.
      subst Known (sym (turn_booked m i s none).recorded)
      (All-push (λ e. cpu_of_event e < cpus_of m) s.events (event.Turn i) known below))
  happened (event.External i) s below known =
      subst Known (sym (external_booked m i s).recorded)
      (All-push (λ e. cpu_of_event e < cpus_of m) s.events (event.External i) known below)

  recorded_from : (events : List Event) (s : State) → Known events → Known s.events
      → Known (meaning_from m events s).events
  unfolding meaning_from
  recorded_from [] s given known = known
  recorded_from (e ∷ rest) s given known =
      recorded_from rest (happen m e s).state (All-tail (λ e. cpu_of_event e < cpus_of m) e rest given)
      (happened e s (All-head (λ e. cpu_of_event e < cpus_of m) e rest given) known)

  pub recorded : (events : List Event) → AreKnown m events → Known (meaning m events).events
  recorded events given = recorded_from events beginning given (All-nil (λ e. cpu_of_event e < cpus_of m))
