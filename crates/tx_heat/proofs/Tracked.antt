-- What the attempts have touched behind an event, by what they had touched before it.
use Rattle.std.proofs.Common.{◌≡◌, ◌≢◌, ℕ, suc, ◌+◌, ◌<◌, Bool, true, false, List, [], ◌++◌, Option}
use Rattle.std.proofs.Common.{None}
use Rattle.std.proofs.Common.{refl, sym, ap, ap₂, ◌∙◌, subst, add-one}
use Rattle.std.specs.Prelude.{nat_lt}
use Rattle.std.proofs.lemmas.Bool.{cases_eq}
use borrow.Enum.Arm.{by_way}
use Rattle.z_regs.specs.Absolute.{absolute_ranges}
use Rattle.z_regs.specs.declared.ranges.Range.{Range}
use Rattle.z_regs.specs.declared.waiting.Waiting.{Waiting}
use Rattle.z_instr.specs.declared.instr.Instr.{Instr}
use Rattle.z_effect.specs.Outcome.{Outcome, Did, Divides, Aborts}
use Rattle.z_effect.specs.Outcome as outcome
use Rattle.tx_journal.specs.Image.{cpu_of_event}
use Rattle.tx_journal.specs.declared.events.Event.{Event}
use Rattle.tx_journal.specs.declared.events.Event.TheVariants as event
use Rattle.tx_serial.specs.Alike.{Track, track_of}
use Rattle.tx_serial.specs.Attempt.{Run, Mark, Open, Committed, Overflowed, Missing}
use Rattle.tx_serial.specs.Fate.{Fate, Goes, Ends, Stops, fate}
use Rattle.tx_serial.specs.Flat.{FlatState, Pending}
use Rattle.tx_serial.specs.Run.{run, more, more_of, after, after_fate, after_where, may_follow, outcome_of}
use Rattle.tx_progress.specs.Local.{Local}
use Rattle.tx_progress.specs.Progress.{Progress}
use Rattle.tx_progress.specs.Reached.{progress_of}
use Rattle.tx_progress.specs.Trial.{fate_by_progress}
use Rattle.tx_progress.proofs.Parts.{followed_fate, not_live}
use Rattle.tx_meaning.specs.Limits.{Setting}
use Rattle.tx_meaning.specs.Meaning.{IsSetting, meaning}
use Rattle.tx_meaning.specs.State.{State, is_live, cpus_of, flat_of, cpu_of, attempt_of}
use Rattle.tx_meaning.specs.Turn.{Turned, happen}
use Rattle.tx_meaning.specs.Views.{AreKnown}
use Rattle.tx_keeping.specs.Kept.{Kept, kept_flat, text_of}
use Rattle.tx_keeping.specs.Keeping.{keeping}
use Rattle.tx_keeping.specs.Turn.{k_happen}
use Rattle.tx_keeping.proofs.Asking.{Keeps}
use Rattle.tx_keeping.proofs.Events.{keeping_is, keeping_good, views_kept}
use Rattle.tx_keeping.proofs.Truth.{Truth, same_flat, flat_is, attempt_is}
use Rattle.tx_keeping.proofs.Turning.{own_stays, own_fate, happen_ok}
use Rattle.tx_schedule.proofs.Others.{Left, others_turn, others_interruption}
use Rattle.tx_schedule.specs.Wanted.{wanted, wanted_by, real_ranges, operands_of}
use Rattle.tx_heat.proofs.Begun.{first_touches_nothing}
use Rattle.tx_heat.proofs.Went.{More, Went, Over, Same, Further, own_turn, own_interruption, completed}

-- ---- a run with one instruction more

module _ (text : List ℕ) (p : Run) where
  abbrev Adds : Run → Fate → Type 0
  Adds q f = q.touched ≡ p.touched ++ absolute_ranges p.cpu.prefix (operands_of f)

  by_outcome : (i : Instr) (ranges : List Range) (o : Outcome) → (after i ranges p o).mark ≡ Open
      → Adds (after i ranges p o) (Goes i ranges)
  by_outcome i ranges (Did c bytes) opens = refl
  by_outcome i ranges (outcome.Overflowed c bytes) opens = refl
  by_outcome i ranges Divides opens = absurd (let x : Missing ≡ Open = opens in cc)
  by_outcome i ranges (Aborts code) opens = absurd (let x : Missing ≡ Open = opens in cc)

  by_follow : (b : Bool) (i : Instr) (ranges : List Range) → (after_where b i ranges p).mark ≡ Open
      → Adds (after_where b i ranges p) (Goes i ranges)
  by_follow true i ranges opens = by_outcome i ranges (outcome_of i ranges p) opens
  by_follow false i ranges opens = absurd (let x : Missing ≡ Open = opens in cc)

  by_fate : (f : Fate) → (after_fate f p).mark ≡ Open → Adds (after_fate f p) f
  by_fate (Goes i ranges) opens = by_follow (may_follow p.nest i) i ranges opens
  by_fate (Ends why) opens = absurd (let x : Missing ≡ Open = opens in cc)
  by_fate (Stops e) opens = absurd (let x : Missing ≡ Open = opens in cc)

  by_mark : (mark : Mark) → (more_of mark text p).mark ≡ Open → Adds (more_of mark text p) (fate text p)
  by_mark Open opens = by_fate (fate text p) opens
  by_mark Committed opens = absurd (let x : Missing ≡ Open = opens in cc)
  by_mark Overflowed opens = absurd (let x : Missing ≡ Open = opens in cc)
  by_mark Missing opens = absurd (let x : Missing ≡ Open = opens in cc)

  -- an instruction that is completed adds its operands
  more_adds : (more text p).mark ≡ Open → Adds (more text p) (fate text p)
  unfolding more
  more_adds opens = by_mark p.mark opens

-- nothing is left to do first
wanted_next : (p : Option Pending) (w : Option Waiting) (f : Fate) → p ≡ None → w ≡ None
    → real_ranges p w f ≡ operands_of f
wanted_next p w f none empty = ap₂ (λ p w. real_ranges p w f) none empty

one_run_more : (f : FlatState) (i n : ℕ) → (run f i (n + 1)).mark ≡ Open
    → (run f i (n + 1)).touched
    ≡ (run f i n).touched ++ absolute_ranges (run f i n).cpu.prefix (operands_of (fate f.text (run f i n)))
unfolding run
one_run_more f i n opens =
    let same : n + 1 ≡ suc n = add-one n in
    ap (λ k. (run f i k).touched) same ∙ more_adds f.text (run f i n) (ap (λ k. (run f i k).mark) (sym same) ∙ opens)

module _ (m : Setting) (s : IsSetting m) where
  module _ (k q : Kept) (i : ℕ) (t : Truth m k) (u : Truth m q) (x : More m k q i) where
    abbrev before : FlatState
    before = kept_flat m k

    abbrev between : FlatState
    between = kept_flat m x.saw.mid

    abbrev count : ℕ
    count = (k.locals i).attempt.count

    same_run : attempt_of m q.state i ≡ run between i (count + 1)
    same_run =
        attempt_is m q u i
        ∙ ap (λ n. run (kept_flat m q) i n) (sym (u.each i).count ∙ x.count ∙ ap (λ n. n + 1) (t.each i).count)
        ∙ ap (λ f. run f i (count + 1)) (same_flat m q x.saw.mid u x.saw.truth x.saw.history)

    is_open : (run between i (count + 1)).mark ≡ Open
    is_open =
        ap (λ (p : Run). p.mark) (sym same_run ∙ attempt_is m q u i) ∙ (u.each i).followed.opens

    seen : track_of (run between i count) ≡ track_of (run before i count)
    seen = (own_stays m s k x.saw.mid i t x.saw.truth x.saw.keeps).track

    same_fate : fate (text_of m) (run between i count) ≡ fate (text_of m) (run before i count)
    same_fate =
        ap (λ (l : Local). fate (text_of m) (run between i l.attempt.count)) (sym x.saw.keeps.local)
        ∙ followed_fate between i (x.saw.mid.locals i) (x.saw.truth.each i).followed
        ∙ own_fate m s k x.saw.mid i t x.saw.truth x.saw.keeps
        ∙ sym (followed_fate before i (k.locals i) (t.each i).followed)

    wanted_is : wanted m k.state i
        ≡ absolute_ranges (run before i count).cpu.prefix (operands_of (fate (text_of m) (run before i count)))
    unfolding wanted
    wanted_is =
        ap (λ (f : FlatState). absolute_ranges (cpu_of m k.state i).prefix (real_ranges (f.pending i) (f.waiting i)
        (fate f.text (attempt_of m k.state i)))) (flat_is m k t)
        ∙ ap (λ (p : Run). absolute_ranges p.cpu.prefix (real_ranges (k.locals i).pending (k.locals i).waiting
        (fate (text_of m) p))) (attempt_is m k t i)
        ∙ ap (absolute_ranges (run before i count).cpu.prefix)
        (wanted_next (k.locals i).pending (k.locals i).waiting (fate (text_of m) (run before i count)) x.pending
        x.waiting)

    further_adds : (attempt_of m q.state i).touched ≡ (attempt_of m k.state i).touched ++ wanted m k.state i
    further_adds =
        ap (λ (p : Run). p.touched) same_run
        ∙ one_run_more between i count is_open
        ∙ ap₂ (λ (a : Track) (f : Fate). a.touched ++ absolute_ranges a.cpu.prefix (operands_of f)) seen same_fate
        ∙ sym (ap₂ (λ a b. a ++ b) (ap (λ (p : Run). p.touched) (attempt_is m k t i)) wanted_is)

-- ---- what a CPU asks for, by what is kept

module _ (m : Setting) (s : IsSetting m) where
  wanted_kept : (k : Kept) → Truth m k → (i : ℕ) → wanted m k.state i ≡ wanted_by m k.storage (k.locals i)
  unfolding wanted wanted_by progress_of
  wanted_kept k truth i =
      let l = k.locals i in
      let followed = (truth.each i).followed in
      ap (λ (f : FlatState). absolute_ranges (cpu_of m k.state i).prefix (real_ranges (f.pending i) (f.waiting i)
      (fate f.text (attempt_of m k.state i)))) (flat_is m k truth)
      ∙ ap (λ (p : Run). absolute_ranges p.cpu.prefix (real_ranges l.pending l.waiting (fate (text_of m) p)))
      (attempt_is m k truth i)
      ∙ ap (λ (n : Option ℕ). absolute_ranges n (real_ranges l.pending l.waiting (fate (text_of m)
      (run (kept_flat m k) i l.attempt.count)))) (ap (λ (q : Progress). q.cpu.prefix) followed.attempt)
      ∙ ap (λ (f : Fate). absolute_ranges l.attempt.cpu.prefix (real_ranges l.pending l.waiting f))
      (followed_fate (kept_flat m k) i l followed)

  -- the same where the attempt is as it was
  wanted_stays : (k q : Kept) (i : ℕ) → Truth m k → Truth m q → Keeps k q i
      → wanted_by m q.storage (q.locals i) ≡ wanted_by m k.storage (k.locals i)
  unfolding wanted_by
  wanted_stays k q i t u keeps =
      ap (λ (l : Local). absolute_ranges l.attempt.cpu.prefix (real_ranges l.pending l.waiting
      (fate_by_progress (text_of m) q.storage (q.locals i).attempt))) keeps.local
      ∙ ap (λ (f : Fate). absolute_ranges (k.locals i).attempt.cpu.prefix
      (real_ranges (k.locals i).pending (k.locals i).waiting f)) (own_fate m s k q i t u keeps)

-- ---- over events

-- a CPU without a live attempt has touched nothing
pub touches_nothing : (m : Setting) (s : State) (i : ℕ) → is_live s i ≡ false → (attempt_of m s i).touched ≡ []
unfolding run
touches_nothing m s i off = ap (λ n. (run (flat_of m s) i n).touched) (not_live (s.numbers i).completed off)

-- an attempt that has completed something is live
lives : (n k : ℕ) → n ≡ k → nat_lt 0 n ≡ true → nat_lt 0 k ≡ true
lives n k e live = ap (nat_lt 0) (sym e) ∙ live

module _ (m : Setting) (s : IsSetting m) (events : List Event) (known : AreKnown m events) (e : Event)
    (within : cpu_of_event e < cpus_of m) where
  abbrev old : State
  old = meaning m events

  abbrev new : State
  new = (happen m e old).state

  abbrev now : Kept
  now = keeping m events

  abbrev next : Kept
  next = (k_happen m e now).kept

  is_now : old ≡ now.state
  is_now = keeping_is m s events known

  is_next : new ≡ next.state
  is_next =
      ap (λ (t : State). (happen m e t).state) is_now
      ∙ ap (λ (t : Turned). t.state) (happen_ok m s e now (keeping_good m s events known) within).is

  -- as many instructions are completed: the same is touched
  pub touches_the_same : (j : ℕ) → is_live new j ≡ true → (new.numbers j).completed ≡ (old.numbers j).completed
      → (attempt_of m new j).touched ≡ (attempt_of m old j).touched
  touches_the_same j live same =
      ap (λ (t : Track). t.touched) (views_kept m s events e known within j
      (lives (new.numbers j).completed (old.numbers j).completed same live) same).shows

  -- and the same is asked for next
  pub wants_the_same : (j : ℕ) → is_live old j ≡ true → (new.numbers j).completed ≡ (old.numbers j).completed
      → wanted m new j ≡ wanted m old j
  wants_the_same j live same =
      let good = keeping_good m s events known in
      let ok = happen_ok m s e now good within in
      let keeps = ok.keeps j (ap (λ (t : State). is_live t j) (sym is_now) ∙ live)
      (ap (λ (t : State). (t.numbers j).completed) (sym is_next) ∙ same
      ∙ ap (λ (t : State). (t.numbers j).completed) is_now) in
      ap (λ (t : State). wanted m t j) is_next
      ∙ wanted_kept m s next ok.good.truth j
      ∙ wanted_stays m s now next j good.truth ok.good.truth keeps
      ∙ sym (wanted_kept m s now good.truth j)
      ∙ sym (ap (λ (t : State). wanted m t j) is_now)

  none_live : {P : Type 0} (n : ℕ) → nat_lt 0 n ≡ true → n ≡ 0 → P
  none_live n live none = absurd (let x : true ≡ false = sym live ∙ ap (nat_lt 0) none in cc)

  left_by : (d : Event) (j n : ℕ) → j ≢ cpu_of_event d → ((old.numbers j).completed ≡ n)
      → Left j n (happen m d old).state
  left_by (event.Turn i) j n ne is = others_turn j n m i ne old is
  left_by (event.External i) j n ne is = others_interruption j n m i ne old is

  -- an attempt of another CPU completes nothing
  pub others_stay : (j : ℕ) → j ≢ cpu_of_event e → is_live new j ≡ true
      → (new.numbers j).completed ≡ (old.numbers j).completed
  others_stay j ne live =
      by_way (left_by e j (old.numbers j).completed ne refl) (λ same. same)
      (λ none. none_live (new.numbers j).completed live none)

  went : (d : Event) → cpu_of_event d < cpus_of m → Went m now (k_happen m d now).kept (cpu_of_event d)
  went (event.Turn i) lt = own_turn m s i now (keeping_good m s events known) lt
  went (event.External i) lt = own_interruption m s i now

  abbrev c : ℕ
  c = cpu_of_event e

  by_went : Went m now next c → is_live next.state c ≡ true → completed next c ≢ completed now c
      → (attempt_of m next.state c).touched ≡ (attempt_of m now.state c).touched ++ wanted m now.state c
  by_went (Over over) live other = absurd (let x : true ≡ false = sym live ∙ over in cc)
  by_went (Same same) live other = absurd (other same)
  by_went (Further x) live other =
      further_adds m s now next c (keeping_good m s events known).truth
      (happen_ok m s e now (keeping_good m s events known) within).good.truth x

  -- one instruction more is completed: what it asked for is touched too
  pub touches_more : is_live new c ≡ true → (new.numbers c).completed ≢ (old.numbers c).completed
      → (attempt_of m new c).touched ≡ (attempt_of m old c).touched ++ wanted m old c
  touches_more live other =
      ap (λ (t : State). (attempt_of m t c).touched) is_next
      ∙ by_went (went e within) (ap (λ (t : State). is_live t c) (sym is_next) ∙ live)
      (λ same. other (ap (λ (t : State). (t.numbers c).completed) is_next ∙ same
      ∙ sym (ap (λ (t : State). (t.numbers c).completed) is_now)))
      ∙ sym (ap (λ (t : State). (attempt_of m t c).touched ++ wanted m t c) is_now)

  -- an attempt that is begun has touched nothing
  one_more : Went m now next c → is_live next.state c ≡ true → completed now c ≡ 0
      → (attempt_of m next.state c).touched ≡ []
  one_more (Over over) live none = absurd (let x : true ≡ false = sym live ∙ over in cc)
  one_more (Same same) live none = none_live (completed next c) live (same ∙ none)
  one_more (Further x) live none =
      let good = keeping_good m s events known in
      let after = (happen_ok m s e now good within).good.truth in
      let begun : (now.locals c).attempt.count + 1 ≡ 1 =
      ap (λ n. n + 1) (sym (good.truth.each c).count ∙ none) in
      ap (λ (p : Run). p.touched) (same_run m s now next c good.truth after x)
      ∙ ap (λ n. (run (kept_flat m x.saw.mid) c n).touched) begun
      ∙ first_touches_nothing (kept_flat m x.saw.mid) c

  begun_by : (live : Bool) → is_live new c ≡ live → is_live old c ≡ false → (attempt_of m new c).touched ≡ []
  begun_by false over off = touches_nothing m new c over
  begun_by true live off =
      ap (λ (t : State). (attempt_of m t c).touched) is_next
      ∙ one_more (went e within) (ap (λ (t : State). is_live t c) (sym is_next) ∙ live)
      (ap (λ (t : State). (t.numbers c).completed) (sym is_now) ∙ not_live (old.numbers c).completed off)

  -- and one of another CPU is not begun
  beside_by : (j : ℕ) (live : Bool) → j ≢ c → is_live new j ≡ live → is_live old j ≡ false
      → (attempt_of m new j).touched ≡ []
  beside_by j false ne over off = touches_nothing m new j over
  beside_by j true ne live off =
      none_live (new.numbers j).completed live
      (others_stay j ne live ∙ not_live (old.numbers j).completed off)

  pub begins_with_nothing : (j : ℕ) → is_live old j ≡ false → (attempt_of m new j).touched ≡ []
  begins_with_nothing j off =
      by_way (cases_eq j c)
      (λ own. subst (λ i. is_live old i ≡ false → (attempt_of m new i).touched ≡ []) (sym own)
      (λ h. begun_by (is_live new c) refl h) off)
      (λ ne. beside_by j (is_live new j) ne refl off)
