-- Entries of legal histories are of CPUs that there are, and abort for causes that a machine finds.
use Rattle.std.proofs.Common.{◌≡◌, ◌≢◌, ℕ, zero, suc, ◌<◌, ◌≤◌, true, false, List, [], ◌∷◌, length}
use Rattle.std.proofs.Common.{Option, Some, None, refl, sym, ap, ◌∙◌, arith}
use Rattle.std.specs.Prelude.{◌&&◌, All, nat_lt, is_none}
use Rattle.std.proofs.lemmas.Bool.{and_parts, cases_lt, true≢false}
use Rattle.std.proofs.lemmas.List.Elements.{All-nil, All-cons, All-weaker}
use borrow.Enum.Arm.{by_way}
use Rattle.z_regs.specs.Cpu.{Cpu}
use Rattle.z_regs.specs.declared.waiting.Waiting.{Waiting}
use Rattle.tx_journal.specs.Content.{Content}
use Rattle.tx_journal.specs.Image.{IsImage}
use Rattle.tx_journal.specs.declared.entries.Entry.{Entry}
use Rattle.tx_journal.specs.declared.entries.Entry.TheVariants.{Step, Commit, Abort, Tdb, Interrupt}
use Rattle.tx_serial.specs.Apply.{apply, may_act, is_running, after_block, after_interruption}
use Rattle.tx_serial.specs.Changes.{cpu_of_entry}
use Rattle.tx_serial.specs.Ending.{fits}
use Rattle.tx_serial.specs.Flat.{FlatState, Pending}
use Rattle.tx_serial.specs.History.{IsLegal, cpu_at, start_of, replay_from}
use Rattle.tx_serial.specs.Run.{run}
use Rattle.tx_serial.specs.Text.{IsKept}
use Rattle.tx_serial.proofs.Entries.{entry_changes, replay_none}
use Rattle.tx_serial.proofs.Starting.{start_kept}
use Rattle.tx_serial.proofs.TextKept.{entry_keeps}
use Rattle.sound_laws.specs.Parts.{HasCause}
use Rattle.sound_laws.proofs.Causes.{fitting_is}
use Rattle.history_laws.proofs.Fitting.{passed}

-- ---- CPUs that are not there

-- a CPU that is not there never runs, and nothing is left to be done for it
record IsAbsent (f : FlatState) (i : ℕ) : Type 0 where
  rests : is_running (f.cpus i).state ≡ false
  settled : f.pending i ≡ None
  quiet : f.waiting i ≡ None

-- what holds of a state of so many CPUs
record Holds (cpus : ℕ) (f : FlatState) : Type 0 where
  kept : IsKept f
  absent : (i : ℕ) → cpus ≤ i → IsAbsent f i

-- behind the last CPU of an image none runs
far_rests : (cpus : List Cpu) (i : ℕ) → length cpus ≤ i → is_running (cpu_at cpus i).state ≡ false
far_rests [] i far = refl
far_rests (c ∷ cs) zero far = absurd (omega (arith, far))
far_rests (c ∷ cs) (suc i) far = far_rests cs i (omega (arith, far))

-- an image starts so
starts_so : (image : Content) → IsImage image → Holds (length image.cpus) (start_of image)
unfolding start_of
starts_so image is = record {
  kept = start_kept image is;
  absent = λ i far. record { rests = far_rests image.cpus i far; settled = refl; quiet = refl };
}

-- ---- one entry

-- who acts is there
acts_not : {P : Type 0} (f : FlatState) (i : ℕ) → IsAbsent f i → may_act f i ≡ true → P
acts_not f i absent acts =
    absurd (true≢false (sym (and_parts (is_running (f.cpus i).state) (is_none (f.pending i)) acts).0
    ∙ absent.rests))

-- no block is stored where none is pending
no_block : {P : Type 0} (f : FlatState) (i : ℕ) (o : Option Pending) (after : FlatState) → o ≡ None
    → after_block f i o ≡ Some after → P
no_block f i None after none h = absurd cc
no_block f i (Some b) after none h = absurd cc

-- no interruption is taken where none waits
no_interruption : {P : Type 0} (f : FlatState) (i : ℕ) (o : Option Pending) (w : Option Waiting)
    (after : FlatState) → w ≡ None → after_interruption f i o w ≡ Some after → P
no_interruption f i (Some b) w after none h = absurd cc
no_interruption f i None None after none h = absurd cc
no_interruption f i None (Some w) after none h = absurd cc

-- so no entry of a CPU that is not there fits
fits_not : {P : Type 0} (f after : FlatState) (e : Entry) → apply f e ≡ Some after
    → IsAbsent f (cpu_of_entry e) → P
unfolding apply
fits_not f after (Step i) h absent = acts_not f i absent (passed (may_act f i) _ after h)
fits_not f after (Commit i n) h absent = acts_not f i absent (passed (may_act f i) _ after h)
fits_not f after (Abort i n why) h absent =
    let all = passed (may_act f i && (nat_lt 0 n && fits f.text (run f i n) why)) _ after h in
    acts_not f i absent (and_parts (may_act f i) (nat_lt 0 n && fits f.text (run f i n) why) all).0
fits_not f after (Tdb i) h absent = no_block f i (f.pending i) after absent.settled h
fits_not f after (Interrupt i) h absent =
    no_interruption f i (f.pending i) (f.waiting i) after absent.quiet h

-- an abort that fits is for a cause that a machine finds
cause_fits : (f after : FlatState) (e : Entry) → IsKept f → apply f e ≡ Some after → HasCause e
unfolding apply
cause_fits f after (Abort i n why) kept h =
    let all = passed (may_act f i && (nat_lt 0 n && fits f.text (run f i n) why)) _ after h in
    let acts = and_parts (may_act f i) (nat_lt 0 n && fits f.text (run f i n) why) all in
    fitting_is f.text f i n why (kept.prefixes i)
    (and_parts (nat_lt 0 n) (fits f.text (run f i n) why) acts.1).1
cause_fits f after (Step i) kept h = tt
cause_fits f after (Commit i n) kept h = tt
cause_fits f after (Tdb i) kept h = tt
cause_fits f after (Interrupt i) kept h = tt

-- what is said of an entry
abbrev IsFine : ℕ → Entry → Type 0
IsFine cpus e = (cpu_of_entry e < cpus) × HasCause e

-- of an entry that fits
fine_one : (cpus : ℕ) (f after : FlatState) (e : Entry) → Holds cpus f → apply f e ≡ Some after
    → IsFine cpus e
fine_one cpus f after e holds h = (
  by_way (cases_lt (cpu_of_entry e) cpus) (λ lt. lt)
      (λ far. fits_not f after e h (holds.absent (cpu_of_entry e) far)),
  cause_fits f after e holds.kept h,
)

-- an entry that fits keeps what holds of the state
holds_on : (cpus : ℕ) (f after : FlatState) (e : Entry) → Holds cpus f → apply f e ≡ Some after
    → Holds cpus after
holds_on cpus f after e holds h =
    let only = entry_changes f after e h in
    let there = (fine_one cpus f after e holds h).0 in
    record {
      kept = entry_keeps f after e holds.kept h;
      absent = λ i far.
          let other : i ≢ cpu_of_entry e = λ same. absurd (omega (arith, far, there, same)) in
          let old = holds.absent i far in
          record {
            rests = ap (λ (c : Cpu). is_running c.state) (only.cpus i other) ∙ old.rests;
            settled = only.pending i other ∙ old.settled;
            quiet = only.waiting i other ∙ old.quiet;
          };
    }

-- ---- histories

-- the first entry and the others
fine_next : (cpus : ℕ) (f : FlatState) (e : Entry) (rest : List Entry) (o : Option FlatState) (g : FlatState)
    → apply f e ≡ o → replay_from rest o ≡ Some g → Holds cpus f
    → ((next : FlatState) → Holds cpus next → replay_from rest (Some next) ≡ Some g → All (IsFine cpus) rest)
    → All (IsFine cpus) (e ∷ rest)
fine_next cpus f e rest None g none h holds go =
    absurd (let stuck : None ≡ Some g = sym (replay_none rest) ∙ h in cc)
fine_next cpus f e rest (Some next) g is h holds go =
    All-cons (IsFine cpus) e rest (fine_one cpus f next e holds is)
    (go next (holds_on cpus f next e holds is) h)

-- all entries of a history that is replayed to its end
fine_all : (cpus : ℕ) (entries : List Entry) (f g : FlatState) → Holds cpus f
    → replay_from entries (Some f) ≡ Some g → All (IsFine cpus) entries
unfolding replay_from
fine_all cpus [] f g holds h = All-nil (IsFine cpus)
fine_all cpus (e ∷ rest) f g holds h =
    fine_next cpus f e rest (apply f e) g refl h holds (λ next good is. fine_all cpus rest next g good is)

-- all entries of a legal history
fine : (image : Content) (history : List Entry) → IsImage image → IsLegal image history
    → All (IsFine (length image.cpus)) history
fine image history is legal =
    fine_all (length image.cpus) history (start_of image) legal.after (starts_so image is) legal.replayed

-- their CPUs are there
pub known_cpus : (image : Content) (history : List Entry) → IsImage image → IsLegal image history
    → All (λ e. cpu_of_entry e < length image.cpus) history
known_cpus image history is legal =
    All-weaker (IsFine (length image.cpus)) (λ e. cpu_of_entry e < length image.cpus) (λ e h. h.0) history
    (fine image history is legal)

-- their causes are those that a machine finds
pub sound_causes : (image : Content) (history : List Entry) → IsImage image → IsLegal image history
    → All HasCause history
sound_causes image history is legal =
    All-weaker (IsFine (length image.cpus)) HasCause (λ e h. h.1) history (fine image history is legal)
