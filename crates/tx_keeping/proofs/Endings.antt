-- The abort of a live attempt: the machine that keeps leaves what the meaning does.
use Rattle.std.proofs.Common.{◌≡◌, ◌≢◌, ℕ, Bool, true, List, [], ◌∷◌, ◌++◌, Some}
use Rattle.std.proofs.Common.{refl, sym, ap, subst, ◌∙◌}
use Rattle.tx_control.specs.declared.causes.Why.{Why}
use Rattle.tx_ladder.specs.Rungs.{Standing}
use Rattle.tx_journal.specs.declared.entries.Entry.{Entry}
use Rattle.tx_journal.specs.declared.entries.Entry.TheVariants.{Abort}
use Rattle.line_table.specs.declared.table.Mode.TheVariants.{Exclusive}
use Rattle.tx_serial.specs.Ending.{fits, comes_from_outside}
use Rattle.tx_serial.specs.Run.{run}
use Rattle.tx_serial.proofs.Entries.{at_put_same, at_put_other}
use Rattle.tx_progress.proofs.Parts.{put_twice}
use Rattle.tx_progress.specs.Local.{Local, Beside, aborted}
use Rattle.tx_meaning.specs.Limits.{Setting}
use Rattle.tx_meaning.specs.Meaning.{IsSetting}
use Rattle.tx_meaning.specs.State.{is_live}
use Rattle.tx_meaning.specs.Changes.{aborting}
use Rattle.tx_keeping.specs.Kept.{Kept, kept_flat, text_of, with_state, with_standing, with_beside, beside}
use Rattle.tx_keeping.specs.Moves.{standing_after, k_aborting}
use Rattle.tx_keeping.proofs.Stores.{ChangesIn}
use Rattle.tx_keeping.proofs.Needed.{Leaves, abort_leaves, lasting_in_stored}
use Rattle.tx_keeping.proofs.Truth.{Truth, Untouched, live_is, kept_is}
use Rattle.tx_keeping.proofs.Moves.{IsGood, Moved, moved_good, moved_other, ends_after, same_after}
use Rattle.tx_keeping.proofs.Moves.{abort_hits}
use Rattle.tx_progress.proofs.Endings.{fits_open}

-- the attempt of a CPU that was left so is aborted; the address is that of the instruction that is told of
abbrev pub ended_by : ℕ → Why → ℕ → Beside → Kept → Kept
ended_by i why at after k =
    with_standing i (standing_after why (k.standings i))
    (with_beside i (aborted why at after)
    (with_state (aborting i (k.standings i) after.local.attempt.count why k.state) k))

pub aborting_is : (i : ℕ) (why : Why) (at : ℕ) (k : Kept)
    → k_aborting i why at k ≡ ended_by i why at (beside k i) k
unfolding k_aborting
aborting_is i why at k = refl

beside_same : (i : ℕ) (after : Beside) (k : Kept) → beside (with_beside i after k) i ≡ after
beside_same i after k n = record { local = at_put_same k.locals i after.local n; storage = after.storage }

pub aborting_after : (i : ℕ) (why : Why) (at : ℕ) (after : Beside) (k : Kept)
    → k_aborting i why at (with_beside i after k) ≡ ended_by i why at after k
unfolding k_aborting
aborting_after i why at after k =
    ap (λ (b : Beside). with_standing i (standing_after why (k.standings i))
    (with_beside i (aborted why at b)
    (with_state (aborting i (k.standings i) b.local.attempt.count why k.state) (with_beside i after k))))
    (beside_same i after k)
    ∙ ap (λ (locals : ℕ → Local). with_standing i (standing_after why (k.standings i)) (record k {
      state = aborting i (k.standings i) after.local.attempt.count why k.state;
      storage = (aborted why at after).storage;
      locals = locals;
    }))
    (put_twice k.locals i after.local (aborted why at after).local)

-- ---- what it leaves

module _ (m : Setting) (s : IsSetting m) where
  pub ended_moved : (k : Kept) (i : ℕ) (why : Why) (at : ℕ) (after : Beside) (lines : ℕ → Bool) → IsGood m k
      → is_live k.state i ≡ true
      → Leaves (text_of m) k.storage k.locals i (Abort i after.local.attempt.count why) (aborted why at after)
      → ChangesIn lines k.storage (aborted why at after).storage
      → ((line : ℕ) → lines line ≡ true → k.state.held i line ≡ Some Exclusive)
      → Moved m k (ended_by i why at after k) i (Abort i after.local.attempt.count why)
      (aborted why at after) lines
  unfolding aborting
  ended_moved k i why at after lines g live leaves changes exclusive =
      let st = k.standings i in
      let ends = ends_after i k.state st why in
      let same = same_after why st in
      let own = at_put_same k.standings i (standing_after why st) in
      let t = g.truth.each i in
      record {
        entry = refl;
        history = ap (λ h. h ++ Abort i after.local.attempt.count why ∷ []) ends.history;
        leaves = leaves;
        storage = refl;
        locals = refl;
        changes = changes;
        exclusive = exclusive;
        numbers = ends.others;
        standings = λ x ne. at_put_other k.standings i (standing_after why st) x ne;
        held = ends.held;
        completed = ends.completed;
        parms = ap (λ (st : Standing). st.parms) own ∙ same.parms ∙ t.parms;
        aborts = ap (λ (st : Standing). st.aborts) own
            ∙ abort_hits m s k i after.local.attempt.count why g.truth live;
        given = ap (λ (st : Standing). st.rejects_given) own ∙ same.given ∙ t.given ∙ sym ends.given;
        refused = ap (λ (st : Standing). st.requests_rejected) own ∙ same.refused ∙ t.refused
            ∙ sym ends.refused;
      }

  -- what an abort leaves of the machine
  pub record Ended (k after : Kept) (i : ℕ) : Type 0 where
    pub good : IsGood m after
    pub others : (x : ℕ) → x ≢ i → Untouched k after x
    pub completed : (after.state.numbers i).completed ≡ 0
    pub held : after.state.held ≡ k.state.held
    pub grows : (rest : List Entry) × (k.state.history ++ rest ≡ after.state.history)

  pub moved_ended : (k after : Kept) (i : ℕ) (e : Entry) (b : Beside) (lines : ℕ → Bool) → IsGood m k
      → Moved m k after i e b lines → Ended k after i
  moved_ended k after i e b lines g d = record {
    good = moved_good m s k after i e b lines g d;
    others = moved_other m k after i e b lines g d;
    completed = d.completed;
    held = d.held;
    grows = (e ∷ [], sym d.history);
  }

  -- the attempt of a CPU is aborted as it is, for a cause that fits its run
  pub abort_ended : (k : Kept) (i : ℕ) (why : Why) → IsGood m k → is_live k.state i ≡ true
      → fits (text_of m) (run (kept_flat m k) i (k.locals i).attempt.count) why ≡ true
      → Ended k (k_aborting i why (k.locals i).attempt.cpu.address k) i
  unfolding aborted
  abort_ended k i why g live fit =
      let f = kept_flat m k in
      let h = (g.truth.each i).followed in
      let at = (k.locals i).attempt.cpu.address in
      let leaves = abort_leaves (text_of m) k.storage k.locals i why (kept_is m s k g.truth) h
      (sym (live_is m k g.truth i) ∙ live) fit in
      subst (λ after. Ended k after i) (sym (aborting_is i why at k))
      (moved_ended k (ended_by i why at (beside k i) k) i (Abort i (k.locals i).attempt.count why)
      (aborted why at (beside k i)) (k.locals i).attempt.footprint.stored g
      (ended_moved k i why at (beside k i) (k.locals i).attempt.footprint.stored g live leaves
      (lasting_in_stored f i (k.locals i) (kept_is m s k g.truth) h)
      (g.holds.stored i)))

-- ---- causes from outside fit

pub outside_fits : (m : Setting) (k : Kept) (i : ℕ) (why : Why) → Truth m k
    → comes_from_outside (text_of m) (run (kept_flat m k) i (k.locals i).attempt.count) why ≡ true
    → fits (text_of m) (run (kept_flat m k) i (k.locals i).attempt.count) why ≡ true
outside_fits m k i why t comes =
    fits_open (text_of m) (run (kept_flat m k) i (k.locals i).attempt.count) why
    (t.each i).followed.opens comes
