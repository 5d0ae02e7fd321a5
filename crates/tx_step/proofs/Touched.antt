-- The same by what events mean.
use Rattle.std.proofs.Common.{◌≡◌, ℕ, ◌*◌, ◌/◌, ◌<◌, true, false, List, Option, arith, refl, sym, ap, ◌∙◌, subst}
use Rattle.std.proofs.lemmas.Bool.{cases_Bool, or_right}
use borrow.Enum.Arm.{by_way}
use Rattle.z_regs.specs.Absolute.{absolute_ranges}
use Rattle.tx_footprint.specs.Places.{stores}
use Rattle.tx_footprint.specs.Touched.{Sets}
use Rattle.tx_journal.specs.Image.{cpu_of_event}
use Rattle.tx_journal.specs.declared.events.Event.{Event}
use Rattle.tx_serial.specs.Attempt.{Run}
use Rattle.tx_serial.specs.Fate.{Fate, fate}
use Rattle.tx_serial.specs.Flat.{FlatState}
use Rattle.tx_serial.specs.Run.{run}
use Rattle.tx_progress.specs.Progress.{Progress}
use Rattle.tx_progress.specs.Progress as progress
use Rattle.tx_progress.specs.Reached.{progress_of}
use Rattle.tx_progress.proofs.Parts.{followed_fate, rests}
use Rattle.tx_meaning.specs.Limits.{Setting}
use Rattle.tx_meaning.specs.Meaning.{IsSetting, meaning}
use Rattle.tx_meaning.specs.State.{State, cpus_of, flat_of, footprint_of, cpu_of, attempt_of, is_live}
use Rattle.tx_meaning.specs.Turn.{Turned, happen}
use Rattle.tx_meaning.specs.Views.{AreKnown}
use Rattle.tx_keeping.specs.Kept.{Kept, kept_flat, text_of}
use Rattle.tx_keeping.specs.Keeping.{keeping}
use Rattle.tx_keeping.specs.Turn.{k_happen}
use Rattle.tx_keeping.proofs.Events.{keeping_is, keeping_good, happens_alike}
use Rattle.tx_keeping.proofs.Moves.{IsGood}
use Rattle.tx_keeping.proofs.Truth.{Truth, flat_is, attempt_is, footprint_is, live_is}
use Rattle.tx_keeping.proofs.Turning.{happen_ok}
use Rattle.tx_machine.specs.Wanted.{wanted, wanted_by, real_ranges}
use Rattle.tx_step.proofs.Framed.{happens_same, Same}
use Rattle.tx_step.proofs.Going.{goes_on_unchanged}

-- what a turn asks for is the same by what is kept
wanted_is : (m : Setting) (k : Kept) → Truth m k → (i : ℕ)
    → wanted m k.state i ≡ wanted_by m k.storage (k.locals i)
unfolding wanted wanted_by progress_of
wanted_is m k truth i =
    let l = k.locals i in
    let followed = (truth.each i).followed in
    ap (λ (f : FlatState). absolute_ranges (cpu_of m k.state i).prefix (real_ranges (f.pending i) (f.waiting i)
    (fate f.text (attempt_of m k.state i)))) (flat_is m k truth)
    ∙ ap (λ (p : Run). absolute_ranges p.cpu.prefix (real_ranges l.pending l.waiting (fate (text_of m) p)))
    (attempt_is m k truth i)
    ∙ ap (λ (n : Option ℕ). absolute_ranges n (real_ranges l.pending l.waiting (fate (text_of m)
    (run (kept_flat m k) i l.attempt.count)))) (ap (λ (q : Progress). q.cpu.prefix) followed.attempt)
    ∙ ap (λ (f : Fate). absolute_ranges l.attempt.cpu.prefix (real_ranges l.pending l.waiting f))
    (followed_fate (kept_flat m k) i l followed)

-- what a CPU has stored into is that of a live attempt
live_stores : (m : Setting) (k : Kept) → Truth m k → (j line : ℕ)
    → (footprint_of m k.state j).stored line ≡ true → is_live k.state j ≡ true
live_stores m k truth j line is =
    let q = (k.locals j).attempt in
    let there : q.footprint.stored line ≡ true =
    sym (ap (λ (t : Sets). t.stored line) (footprint_is m k truth j)) ∙ is in
    by_way (cases_Bool (progress.is_live q))
    (λ live. live_is m k truth j ∙ live)
    (λ off. absurd (let x : false ≡ true =
    sym (ap (λ (r : Progress). r.footprint.stored line)
    (rests (kept_flat m k) j (k.locals j) (truth.each j).followed off)) ∙ there in cc))

module _ (m : Setting) (s : IsSetting m) (events : List Event) (known : AreKnown m events) (e : Event)
    (within : cpu_of_event e < cpus_of m) where
  abbrev now : Kept
  now = keeping m events

  abbrev next : Kept
  next = (k_happen m e now).kept

  good : IsGood m now
  good = keeping_good m s events known

  next_good : IsGood m next
  next_good = (happen_ok m s e now good within).good

  is_now : meaning m events ≡ now.state
  is_now = keeping_is m s events known

  is_next : (happen m e (meaning m events)).state ≡ next.state
  is_next = ap (λ (t : Turned). t.state) (happens_alike m s events e known within)

  same_at : (a : ℕ) (P : ℕ → Type 0)
      → ((j : ℕ) → P j → (footprint_of m (meaning m events) j).stored (a / 256) ≡ false)
      → (P (cpu_of_event e) → stores (wanted m (meaning m events) (cpu_of_event e)) (a / 256) ≡ false)
      → Same m s a P now next
  same_at a P clear off =
      let i = cpu_of_event e in
      happens_same m s a P e now good within
      (λ j p. sym (ap (λ (t : Sets). t.stored (a / 256))
      (ap (λ (t : State). footprint_of m t j) is_now ∙ footprint_is m now good.truth j)) ∙ clear j p)
      (λ p. sym (ap (λ ranges. stores ranges (a / 256))
      (ap (λ (t : State). wanted m t i) is_now ∙ wanted_is m now good.truth i)) ∙ off p)

  pub bytes_stay : (a : ℕ) → ((j : ℕ) → (footprint_of m (meaning m events) j).stored (a / 256) ≡ false)
      → stores (wanted m (meaning m events) (cpu_of_event e)) (a / 256) ≡ false
      → (flat_of m (happen m e (meaning m events)).state).storage a ≡ (flat_of m (meaning m events)).storage a
  bytes_stay a clear off =
      let same = same_at a (λ j. Unit {0}) (λ j p. clear j) (λ p. off) in
      ap (λ (t : State). (flat_of m t).storage a) is_next
      ∙ ap (λ (f : FlatState). f.storage a) (flat_is m next next_good.truth)
      ∙ same.byte (λ j. tt)
      ∙ sym (ap (λ (t : State). (flat_of m t).storage a) is_now
      ∙ ap (λ (f : FlatState). f.storage a) (flat_is m now good.truth))

  pub lines_stay : (j line : ℕ) → (footprint_of m (meaning m events) j).stored line ≡ false
      → (j ≡ cpu_of_event e → stores (wanted m (meaning m events) j) line ≡ false)
      → (footprint_of m (happen m e (meaning m events)).state j).stored line ≡ false
  lines_stay j line clear off =
      let a = 256 * line in
      let here : a / 256 ≡ line = omega arith in
      let same = same_at a (λ x. x ≡ j)
      (λ x p. subst (λ x. (footprint_of m (meaning m events) x).stored (a / 256) ≡ false) (sym p)
      (ap (footprint_of m (meaning m events) j).stored here ∙ clear))
      (λ p. ap (stores (wanted m (meaning m events) (cpu_of_event e))) here
      ∙ subst (λ x. stores (wanted m (meaning m events) x) line ≡ false) (sym p) (off (sym p))) in
      ap (footprint_of m (happen m e (meaning m events)).state j).stored (sym here)
      ∙ ap (λ (t : Sets). t.stored (a / 256))
      (ap (λ (t : State). footprint_of m t j) is_next ∙ footprint_is m next next_good.truth j)
      ∙ same.stored j refl

  -- an attempt that goes on keeps the bytes of the lines it has stored into
  pub attempts_keep : (j a : ℕ) → is_live (meaning m events) j ≡ true
      → is_live (happen m e (meaning m events)).state j ≡ true
      → (footprint_of m (meaning m events) j).stored (a / 256) ≡ true
      → (flat_of m (happen m e (meaning m events)).state).storage a ≡ (flat_of m (meaning m events)).storage a
  attempts_keep j a live lives is =
      let there : (now.locals j).attempt.footprint.stored (a / 256) ≡ true =
      sym (ap (λ (t : Sets). t.stored (a / 256))
      (ap (λ (t : State). footprint_of m t j) is_now ∙ footprint_is m now good.truth j)) ∙ is in
      ap (λ (t : State). (flat_of m t).storage a) is_next
      ∙ ap (λ (f : FlatState). f.storage a) (flat_is m next next_good.truth)
      ∙ goes_on_unchanged m s e now good within j (ap (λ (t : State). is_live t j) (sym is_now) ∙ live)
      (ap (λ (t : State). is_live t j) (sym is_next) ∙ lives) a
      (or_right ((now.locals j).attempt.footprint.fetched (a / 256)) _ there)
      ∙ sym (ap (λ (t : State). (flat_of m t).storage a) is_now
      ∙ ap (λ (f : FlatState). f.storage a) (flat_is m now good.truth))

  -- what is stored into afterwards is stored into by a live attempt
  pub live_afterwards : (j line : ℕ) → (footprint_of m (happen m e (meaning m events)).state j).stored line ≡ true
      → is_live (happen m e (meaning m events)).state j ≡ true
  live_afterwards j line is =
      ap (λ (t : State). is_live t j) is_next
      ∙ live_stores m next next_good.truth j line
      (ap (λ (t : State). (footprint_of m t j).stored line) (sym is_next) ∙ is)
