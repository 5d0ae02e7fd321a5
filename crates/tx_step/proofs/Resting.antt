-- A CPU stays as it was seen where no new entry is its own and its attempt has come no further.
use Rattle.std.proofs.Common.{◌≡◌, ◌≢◌, ℕ, ◌<◌, ◌≤◌, true, false, List, [], ◌∷◌, ◌++◌, Option, Some, None}
use Rattle.std.proofs.Common.{length, drop, get_or, refl, sym, ap, subst, ◌∙◌, arith, length-append}
use Rattle.std.specs.Prelude.{◌==◌}
use Rattle.std.proofs.Math.Seq.{drop-append_seam}
use Rattle.std.proofs.lemmas.Bool.{cases_Bool, or_parts, both_ways, eq-eqb}
use borrow.Enum.Arm.{by_way}
use Rattle.tx_journal.specs.declared.entries.Entry.{Entry}
use Rattle.tx_journal.specs.declared.events.Event.{Event}
use Rattle.tx_progress.proofs.Parts.{not_live}
use Rattle.z_regs.specs.Cpu.{Cpu}
use Rattle.tx_serial.proofs.Entries.{entry_changes, replay_none, replay_twice}
use Rattle.tx_serial.specs.Alike.{Track}
use Rattle.tx_serial.specs.Apply.{apply}
use Rattle.tx_serial.specs.Changes.{cpu_of_entry}
use Rattle.tx_serial.specs.Flat.{FlatState, address_of}
use Rattle.tx_serial.specs.History.{IsLegal, replay, replay_from}
use Rattle.tx_serial.specs.Run.{run}
use Rattle.tx_meaning.specs.Limits.{Setting}
use Rattle.tx_meaning.specs.Shown.{levels_at}
use Rattle.tx_meaning.specs.State.{State, cpu_of, cpus_of, flat_of, flat_where, is_live}
use Rattle.tx_meaning.specs.Views.{GoesOnWith, KeepsViews}
use Rattle.tx_machine.specs.Machine.{Seen, setting_of, state_of}
use Rattle.tx_machine.specs.Machine.{after as after_event}
use Rattle.step_changes.specs.Seen.{CpuSeen, Sight}
use Rattle.step_changes.specs.Stored.{completed_in}
use Rattle.step_changes.specs.Resting.{StayAsSeen, is_entered}
use Rattle.step_changes.specs.declared.view.Step.{Step}
use Rattle.step_changes.proofs.Listed.{cpus_size, cpu_at}
use Rattle.tx_step.specs.Sights.{cpu_seen, shown_of}
use Rattle.tx_step.specs.Traces.{IsTraced}
use Rattle.tx_step.proofs.Due.{completed_is}
use Rattle.tx_step.proofs.Stepped.{shown_now}

-- of one CPU nothing but what it has in storage changes
record IsLeft (i : ℕ) (f g : FlatState) : Type 0 where
  cpu : g.cpus i ≡ f.cpus i
  pending : g.pending i ≡ f.pending i

-- an entry of another CPU leaves it
left_by : (i : ℕ) (f g : FlatState) (e : Entry) → apply f e ≡ Some g → (cpu_of_entry e == i) ≡ false → IsLeft i f g
left_by i f g e is other =
    let only = entry_changes f g e is in
    let ne : i ≢ cpu_of_entry e = λ same. both_ways (cpu_of_entry e == i) other (eq-eqb (cpu_of_entry e) i (sym same)) in
    record { cpu = only.cpus i ne; pending = only.pending i ne }

-- and so do entries of others
left_where : (i : ℕ) (f : FlatState) (e : Entry) (rest : List Entry) (g : FlatState) (o : Option FlatState)
    → apply f e ≡ o → replay_from rest o ≡ Some g → (cpu_of_entry e == i) ≡ false
    → ((h : FlatState) → replay_from rest (Some h) ≡ Some g → IsLeft i h g) → IsLeft i f g
left_where i f e rest g None is goes other on =
    absurd (let x : None ≡ Some g = sym (replay_none rest) ∙ goes in cc)
left_where i f e rest g (Some h) is goes other on =
    let first = left_by i f h e is other in
    let second = on h goes in
    record { cpu = second.cpu ∙ first.cpu; pending = second.pending ∙ first.pending }

left_by_all : (i : ℕ) (entries : List Entry) (f g : FlatState) → replay_from entries (Some f) ≡ Some g
    → is_entered entries i ≡ false → IsLeft i f g
unfolding replay_from
left_by_all i [] f g goes none =
    let same : f ≡ g = cc in
    record { cpu = ap (λ (h : FlatState). h.cpus i) (sym same); pending = ap (λ (h : FlatState). h.pending i) (sym same) }
left_by_all i (e ∷ rest) f g goes none =
    let parts = or_parts (cpu_of_entry e == i) (is_entered rest i) none in
    left_where i f e rest g (apply f e) refl goes parts.0 (λ h on. left_by_all i rest h g on parts.1)

-- ---- histories that go on

abbrev seen_of : Cpu → Option (ℕ × ℕ) → Option ℕ → CpuSeen
seen_of c live pending = record { cpu = c; live = live; pending = pending }

-- where all entries fit, the first of them do
fits_before : (first rest : List Entry) (g : FlatState) (start o : Option FlatState) → replay_from first start ≡ o
    → replay_from (first ++ rest) start ≡ Some g → (f : FlatState) × ((o ≡ Some f) × (replay_from rest (Some f) ≡ Some g))
fits_before first rest g start None is goes =
    absurd (let x : None ≡ Some g =
    sym (replay_none rest) ∙ ap (replay_from rest) (sym is) ∙ sym (replay_twice first rest start) ∙ goes in cc)
fits_before first rest g start (Some f) is goes =
    (f, (refl, ap (replay_from rest) (sym is) ∙ sym (replay_twice first rest start) ∙ goes))

module _ (m : Setting) (s t : State) (grows : GoesOnWith s.history t.history) (legal : IsLegal m.image t.history)
    (views : KeepsViews m s t) (i : ℕ) (none : is_entered (drop (length s.history) t.history) i ≡ false)
    (same : levels_at m s i ≡ levels_at m t i) where
  more_are : drop (length s.history) t.history ≡ grows.more
  more_are = ap (drop (length s.history)) (sym grows.is) ∙ drop-append_seam s.history grows.more

  flats : IsLeft i (flat_of m s) (flat_of m t)
  unfolding flat_of
  flats =
      let all : replay m.image (s.history ++ grows.more) ≡ Some legal.after =
      ap (replay m.image) grows.is ∙ legal.replayed in
      let parts = fits_before s.history grows.more legal.after _ (replay m.image s.history) refl all in
      let left = left_by_all i grows.more parts.0 legal.after parts.1.1
      (ap (λ l. is_entered l i) (sym more_are) ∙ none) in
      subst (λ f. IsLeft i f (flat_of m t)) (sym (ap (flat_where m) parts.1.0))
      (subst (IsLeft i parts.0) (sym (ap (flat_where m) legal.replayed)) left)

  completed : (t.numbers i).completed ≡ (s.numbers i).completed
  completed = sym (completed_is m t i) ∙ ap completed_in (sym same) ∙ completed_is m s i

  -- a CPU without an attempt
  resting : is_live s i ≡ false → cpu_of m t i ≡ cpu_of m s i
  unfolding run
  resting off =
      let zero_before = not_live (s.numbers i).completed off in
      ap (λ n. (run (flat_of m t) i n).cpu) (completed ∙ zero_before) ∙ flats.cpu
      ∙ sym (ap (λ n. (run (flat_of m s) i n).cpu) zero_before)

  attempting : is_live s i ≡ true → cpu_of m t i ≡ cpu_of m s i
  attempting on = ap (λ (p : Track). p.cpu) (views i on completed).shows

  pub stays_seen : cpu_seen m s i ≡ cpu_seen m t i
  stays_seen =
      let cpu : cpu_of m t i ≡ cpu_of m s i = by_way (cases_Bool (is_live s i)) attempting resting in
      let pending = ap address_of flats.pending in
      ap (λ c. seen_of c (levels_at m s i) (address_of ((flat_of m s).pending i))) (sym cpu)
      ∙ ap (λ l. seen_of (cpu_of m t i) l (address_of ((flat_of m s).pending i))) same
      ∙ ap (seen_of (cpu_of m t i) (levels_at m t i)) (sym pending)

-- ---- by what is seen of a machine

pub stay_as_seen : (before next : Seen) (e : Event) (sight : Sight) (steps : List Step)
    → IsTraced before sight steps (length steps) → next ≡ after_event before e
    → GoesOnWith (state_of before).history (state_of next).history
    → IsLegal next.image (state_of next).history
    → KeepsViews (setting_of before) (state_of before) (state_of next)
    → StayAsSeen sight.cpus sight.entries (shown_of (setting_of next) (state_of next))
stay_as_seen before next e sight steps traced is grows legal views i d low none same =
    let shown = shown_now before sight steps traced in
    let m = setting_of before in
    let s = state_of before in
    let t = state_of next in
    let setting : setting_of next ≡ m = ap setting_of is in
    let within : i < cpus_of m =
    subst (λ n. i < n) (ap (λ (v : Sight). length v.cpus) shown ∙ cpus_size (shown_of m s)) low in
    let seen : get_or sight.cpus i d ≡ cpu_seen m s i =
    ap (λ (v : Sight). get_or v.cpus i d) shown ∙ cpu_at (shown_of m s) i d within in
    let unentered : is_entered (drop (length s.history) t.history) i ≡ false =
    ap (λ (v : Sight). is_entered (drop v.entries t.history) i) (sym shown) ∙ none in
    let levels : levels_at m s i ≡ levels_at m t i =
    ap (λ (c : CpuSeen). c.live) (sym seen) ∙ same ∙ ap (λ n. levels_at n t i) setting in
    let fits : IsLegal m.image t.history = subst (λ n. IsLegal n.image t.history) setting legal in
    seen ∙ stays_seen m s t grows fits views i unentered levels ∙ sym (ap (λ n. cpu_seen n t i) setting)

pub has_grown : (before next : Seen) (e : Event) (sight : Sight) (steps : List Step)
    → IsTraced before sight steps (length steps)
    → GoesOnWith (state_of before).history (state_of next).history
    → sight.entries ≤ length (state_of next).history
has_grown before next e sight steps traced grows =
    let entries : sight.entries ≡ length (state_of before).history =
    ap (λ (v : Sight). v.entries) (shown_now before sight steps traced) in
    let size = length-append (state_of before).history grows.more in
    let all = ap length grows.is in
    omega arith
