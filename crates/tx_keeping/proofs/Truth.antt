-- That what is kept is true, said of one CPU at a time; what follows from it; and how it passes on.
use Rattle.std.proofs.Common.{◌≡◌, ◌≢◌, ℕ, ◌/◌, true, List, [], ◌∷◌, ◌++◌, Option}
use Rattle.std.proofs.Common.{Some, refl, sym, ap, subst, ◌∙◌, ⊎_elim}
use Rattle.std.specs.Prelude.{◌||◌, ◌&&◌, nat_lt, if◌then◌else◌}
use Rattle.std.proofs.lemmas.Bool.{cases_eq, ne_eqb}
use Rattle.tx_control.specs.Nesting.{is_constrained}
use Rattle.tx_footprint.specs.Sizes.{line_size}
use Rattle.tx_ladder.specs.Rungs.{Standing}
use Rattle.tx_journal.specs.Content.{Content}
use Rattle.tx_journal.specs.declared.entries.Entry.{Entry}
use Rattle.tx_journal.specs.declared.entries.Entry.TheVariants.{Step, Commit, Abort, Tdb, Interrupt}
use Rattle.tx_serial.specs.Flat.{FlatState}
use Rattle.tx_serial.specs.Changes.{cpu_of_entry}
use Rattle.tx_serial.specs.Run.{run}
use Rattle.tx_serial.specs.Apply.{apply}
use Rattle.tx_serial.specs.History.{replay, replay_from, on_some, start_of}
use Rattle.tx_serial.specs.Text.{IsKept, SameText}
use Rattle.tx_serial.proofs.Entries.{replay_twice}
use Rattle.tx_serial.proofs.Starting.{replay_kept, replay_keeps_text}
use Rattle.tx_progress.specs.Progress.{Progress}
use Rattle.tx_progress.specs.Progress as progress
use Rattle.tx_progress.specs.Local.{Local}
use Rattle.tx_progress.specs.Reached.{IsFollowed, progress_of}
use Rattle.tx_meaning.specs.Hits.{hits, hits_from, hits_where, hits_after, hits_by, tries_constrained}
use Rattle.tx_meaning.specs.Limits.{Setting}
use Rattle.tx_meaning.specs.Meaning.{IsSetting}
use Rattle.tx_meaning.specs.State.{flat_of, flat_where, attempt_of, cpu_of, footprint_of, standing_of}
use Rattle.tx_meaning.specs.State.{is_live, Numbers}
use Rattle.tx_keeping.specs.Kept.{Kept, kept_flat, kept_footprint, text_of}
use Rattle.tx_keeping.specs.Keeping.{IsTrue_to}
use Rattle.tx_keeping.proofs.Needed.{stays_followed, StaysFollowed}

-- ---- the statement

pub record TrueAt (m : Setting) (k : Kept) (x : ℕ) : Type 0 where
  pub count : (k.state.numbers x).completed ≡ (k.locals x).attempt.count
  pub followed : IsFollowed (kept_flat m k) x (k.locals x)
  pub parms : (k.standings x).parms ≡ m.image.parms
  pub aborts : (k.standings x).aborts ≡ hits m.image k.state.history x
  pub kind : is_live k.state x ≡ true
      → (k.standings x).constrained ≡ is_constrained (k.locals x).attempt.nest
  pub given : (k.standings x).rejects_given ≡ (k.state.numbers x).given
  pub refused : (k.standings x).requests_rejected ≡ (k.state.numbers x).refused

pub record Truth (m : Setting) (k : Kept) : Type 0 where
  pub replayed : replay m.image k.state.history ≡ Some (kept_flat m k)
  pub each : (x : ℕ) → TrueAt m k x

-- ---- what the meaning reads is what is kept

pub flat_is : (m : Setting) (k : Kept) → Truth m k → flat_of m k.state ≡ kept_flat m k
unfolding flat_of
flat_is m k t = ap (flat_where m) t.replayed

-- one history leaves one flat state
pub same_flat : (m : Setting) (q mid : Kept) → Truth m q → Truth m mid → q.state.history ≡ mid.state.history
    → kept_flat m q ≡ kept_flat m mid
same_flat m q mid t u is =
    let e : Some (kept_flat m q) ≡ Some (kept_flat m mid) =
    sym t.replayed ∙ ap (replay m.image) is ∙ u.replayed in cc

pub attempt_is : (m : Setting) (k : Kept) → Truth m k → (x : ℕ)
    → attempt_of m k.state x ≡ run (kept_flat m k) x (k.locals x).attempt.count
attempt_is m k t x =
    ap (λ f. run f x (k.state.numbers x).completed) (flat_is m k t)
    ∙ ap (run (kept_flat m k) x) (t.each x).count

pub progress_is : (m : Setting) (k : Kept) → Truth m k → (x : ℕ)
    → progress_of (attempt_of m k.state x) ≡ (k.locals x).attempt
progress_is m k t x = ap progress_of (attempt_is m k t x) ∙ (t.each x).followed.attempt

pub cpu_is : (m : Setting) (k : Kept) → Truth m k → (x : ℕ) → cpu_of m k.state x ≡ (k.locals x).attempt.cpu
unfolding progress_of
cpu_is m k t x = ap (λ (q : Progress). q.cpu) (progress_is m k t x)

pub nest_is : (m : Setting) (k : Kept) → Truth m k → (x : ℕ)
    → (attempt_of m k.state x).nest ≡ (k.locals x).attempt.nest
unfolding progress_of
nest_is m k t x = ap (λ (q : Progress). q.nest) (progress_is m k t x)

pub footprint_is : (m : Setting) (k : Kept) → Truth m k → (x : ℕ)
    → footprint_of m k.state x ≡ kept_footprint k x
unfolding progress_of
footprint_is m k t x = ap (λ (q : Progress). q.footprint) (progress_is m k t x)

pub live_is : (m : Setting) (k : Kept) → Truth m k → (x : ℕ)
    → is_live k.state x ≡ progress.is_live (k.locals x).attempt
live_is m k t x = ap (nat_lt 0) (t.each x).count

pub standing_is : (m : Setting) (k : Kept) → Truth m k → (x : ℕ) → is_live k.state x ≡ true
    → standing_of m k.state x ≡ k.standings x
standing_is m k t x live i = record {
  parms = sym (t.each x).parms i;
  aborts = sym (t.each x).aborts i;
  constrained = (ap is_constrained (nest_is m k t x) ∙ sym ((t.each x).kind live)) i;
  rejects_given = sym (t.each x).given i;
  requests_rejected = sym (t.each x).refused i;
}

pub true_to : (m : Setting) (k : Kept) → Truth m k → IsTrue_to m k
true_to m k t = record {
  replayed = t.replayed;
  count = λ x. (t.each x).count;
  followed = λ x. (t.each x).followed;
  standing = λ x. record {
    parms = (t.each x).parms;
    aborts = (t.each x).aborts;
    kind = λ live. (t.each x).kind live ∙ sym (ap is_constrained (nest_is m k t x));
    given = (t.each x).given;
    refused = (t.each x).refused;
  };
}

-- ---- the counts of conflicts

hits_more : (x : ℕ) (h : List Entry) (e : Entry) (o : Option FlatState) (n : ℕ)
    → hits_from x (h ++ e ∷ []) o n ≡ hits_where x (replay_from h o) e (hits_from x h o n)
unfolding hits_from replay_from
hits_more x [] e o n = refl
hits_more x (y ∷ h) e o n = hits_more x h e (on_some (λ f. apply f y) o) (hits_where x o y n)

pub hits_with : (image : Content) (x : ℕ) (h : List Entry) (e : Entry) (f : FlatState)
    → replay image h ≡ Some f → hits image (h ++ e ∷ []) x ≡ hits_after x f e (hits image h x)
hits_with image x h e f is =
    hits_more x h e (Some (start_of image)) 0 ∙ ap (λ o. hits_where x o e (hits image h x)) is

other_hits : (x : ℕ) (f : FlatState) (e : Entry) (n : ℕ) → x ≢ cpu_of_entry e → hits_after x f e n ≡ n
other_hits x f (Step j) n ne = refl
other_hits x f (Tdb j) n ne = refl
other_hits x f (Interrupt j) n ne = refl
other_hits x f (Commit j k) n ne =
    ap (λ b. if b && tries_constrained f x then 0 else n) (ne_eqb j x (λ e. ne (sym e)))
other_hits x f (Abort j k why) n ne =
    ap (λ b. if b && tries_constrained f x then hits_by why n else n) (ne_eqb j x (λ e. ne (sym e)))

-- ---- how it passes on

-- a CPU of which nothing changed, where storage stays at what it touched
pub record Untouched (k after : Kept) (x : ℕ) : Type 0 where
  pub numbers : after.state.numbers x ≡ k.state.numbers x
  pub local : after.locals x ≡ k.locals x
  pub standing : after.standings x ≡ k.standings x
  pub bytes : (a : ℕ) → ((k.locals x).attempt.footprint.fetched (a / line_size)
      || (k.locals x).attempt.footprint.stored (a / line_size)) ≡ true → after.storage a ≡ k.storage a

module _ (m : Setting) (s : IsSetting m) where
  pub kept_is : (k : Kept) → Truth m k → IsKept (kept_flat m k)
  kept_is k t = replay_kept m.image k.state.history (kept_flat m k) s.image t.replayed

  pub same_text : (f g : FlatState) (h i : List Entry) → replay m.image h ≡ Some f → replay m.image i ≡ Some g
      → SameText (text_of m) f.storage g.storage
  same_text f g h i is after a text =
      replay_keeps_text m.image i g s.image after a text
      ∙ sym (replay_keeps_text m.image h f s.image is a text)

  pub stays : (k after : Kept) (x : ℕ) → Truth m k
      → replay m.image after.state.history ≡ Some (kept_flat m after) → Untouched k after x
      → StaysFollowed (kept_flat m k) (kept_flat m after) x (k.locals x)
  stays k after x t is u =
      stays_followed (kept_flat m k) (kept_flat m after) x (k.locals x) (kept_is k t) (t.each x).followed
      refl (same_text (kept_flat m k) (kept_flat m after) k.state.history after.state.history t.replayed is)
      (ap (λ (l : Local). l.cpu) u.local) (ap (λ (l : Local). l.pending) u.local)
      (ap (λ (l : Local). l.waiting) u.local) u.bytes

  pub still_true : (k after : Kept) (x : ℕ) → Truth m k
      → replay m.image after.state.history ≡ Some (kept_flat m after) → Untouched k after x
      → hits m.image after.state.history x ≡ hits m.image k.state.history x
      → TrueAt m after x
  still_true k after x t is u same = record {
    count = ap (λ (n : Numbers). n.completed) u.numbers ∙ (t.each x).count
        ∙ sym (ap (λ (l : Local). l.attempt.count) u.local);
    followed = subst (IsFollowed (kept_flat m after) x) (sym u.local) (stays k after x t is u).followed;
    parms = ap (λ (l : Standing). l.parms) u.standing ∙ (t.each x).parms;
    aborts = ap (λ (l : Standing). l.aborts) u.standing ∙ (t.each x).aborts ∙ sym same;
    kind = λ live. ap (λ (l : Standing). l.constrained) u.standing
        ∙ (t.each x).kind (ap (λ (n : Numbers). nat_lt 0 n.completed) (sym u.numbers) ∙ live)
        ∙ sym (ap (λ (l : Local). is_constrained l.attempt.nest) u.local);
    given = ap (λ (l : Standing). l.rejects_given) u.standing ∙ (t.each x).given
        ∙ sym (ap (λ (n : Numbers). n.given) u.numbers);
    refused = ap (λ (l : Standing). l.requests_rejected) u.standing ∙ (t.each x).refused
        ∙ sym (ap (λ (n : Numbers). n.refused) u.numbers);
  }

  -- an entry of one CPU
  pub replay_with : (k after : Kept) (e : Entry) → Truth m k
      → after.state.history ≡ k.state.history ++ e ∷ [] → apply (kept_flat m k) e ≡ Some (kept_flat m after)
      → replay m.image after.state.history ≡ Some (kept_flat m after)
  unfolding replay_from
  replay_with k after e t more applies =
      ap (replay m.image) more ∙ replay_twice k.state.history (e ∷ []) (Some (start_of m.image))
      ∙ ap (on_some (λ f. apply f e)) t.replayed ∙ applies

  by_two : {P : ℕ → Type 0} (i : ℕ) → P i → ((x : ℕ) → x ≢ i → P x) → (x : ℕ) → P x
  by_two {P} i own other x =
      ⊎_elim (λ e. subst P (sym e) own) (λ ne. other x ne) (cases_eq x i)

  pub entered : (k after : Kept) (i : ℕ) (e : Entry) → Truth m k → cpu_of_entry e ≡ i
      → after.state.history ≡ k.state.history ++ e ∷ [] → apply (kept_flat m k) e ≡ Some (kept_flat m after)
      → ((x : ℕ) → x ≢ i → Untouched k after x) → TrueAt m after i → Truth m after
  entered k after i e t is more applies others own =
      let replayed = replay_with k after e t more applies in
      record {
        replayed = replayed;
        each = by_two i own (λ x ne. still_true k after x t replayed (others x ne)
            (ap (λ h. hits m.image h x) more
            ∙ hits_with m.image x k.state.history e (kept_flat m k) t.replayed
            ∙ other_hits x (kept_flat m k) e (hits m.image k.state.history x) (λ ej. ne (ej ∙ is))));
      }

  -- no entry
  pub unentered : (k after : Kept) (i : ℕ) → Truth m k → after.state.history ≡ k.state.history
      → kept_flat m after ≡ kept_flat m k
      → ((x : ℕ) → x ≢ i → Untouched k after x) → TrueAt m after i → Truth m after
  unentered k after i t same flat others own =
      let replayed : replay m.image after.state.history ≡ Some (kept_flat m after) =
      ap (replay m.image) same ∙ t.replayed ∙ ap Some (sym flat) in
      record {
        replayed = replayed;
        each = by_two i own (λ x ne. still_true k after x t replayed (others x ne)
            (ap (λ h. hits m.image h x) same));
      }
