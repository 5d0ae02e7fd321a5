-- What each move of one CPU leaves: all that is kept is true again, and what was touched is held.
use Rattle.std.proofs.Common.{◌≡◌, ◌≢◌, ℕ, ◌/◌, Bool, true, false, eqb, List, [], ◌∷◌, ◌++◌}
use Rattle.std.proofs.Common.{Some, is_some, refl, sym, ap, subst, ◌∙◌}
use Rattle.std.specs.Prelude.{◌||◌, ◌&&◌, nat_lt, if◌then◌else◌}
use Rattle.std.proofs.lemmas.Bool.{cond_both, eqb-true, eq-eqb, or_cases, false_from_ne_true}
use borrow.Enum.Arm.{by_way}
use Rattle.tx_control.specs.Nesting.{is_constrained}
use Rattle.tx_control.specs.declared.causes.Why.{Why}
use Rattle.tx_control.specs.declared.causes.Why.TheVariants.{External, Program, FetchConflict}
use Rattle.tx_control.specs.declared.causes.Why.TheVariants.{StoreConflict, FetchOverflow, StoreOverflow}
use Rattle.tx_control.specs.declared.causes.Why.TheVariants.{Restricted, Filtered, Depth, Starved, Tabort}
use Rattle.tx_footprint.specs.Sizes.{line_size}
use Rattle.tx_footprint.specs.Touched.{Sets, untouched}
use Rattle.tx_ladder.specs.Rungs.{Standing, after_conflict, descended, next_rung}
use Rattle.tx_ladder.specs.declared.ladder.Next.{Next}
use Rattle.tx_ladder.specs.declared.ladder.Next.TheVariants.{Plain, Delay, Queue}
use Rattle.tx_journal.specs.declared.entries.Entry.{Entry}
use Rattle.tx_journal.specs.declared.entries.Entry.TheVariants.{Commit, Abort}
use Rattle.line_table.specs.declared.table.Mode.TheVariants.{Exclusive}
use Rattle.line_table.specs.Holders.{Holders}
use Rattle.tx_serial.specs.Flat.{FlatState, Storage, at_put}
use Rattle.tx_serial.specs.Changes.{cpu_of_entry}
use Rattle.tx_serial.specs.Run.{run}
use Rattle.tx_serial.specs.History.{replay}
use Rattle.tx_serial.proofs.Entries.{at_put_same, at_put_other}
use Rattle.tx_progress.specs.Progress.{Progress}
use Rattle.tx_progress.specs.Local.{Local, Beside, flat_from}
use Rattle.tx_progress.specs.Reached.{IsFollowed, progress_of}
use Rattle.tx_meaning.specs.Hits.{hits, hits_by, tries_constrained}
use Rattle.tx_meaning.specs.Limits.{Setting}
use Rattle.tx_meaning.specs.Meaning.{IsSetting}
use Rattle.tx_meaning.specs.State.{State, Numbers, is_live, cpus_of}
use Rattle.tx_meaning.specs.Changes.{on_rung, after_cause, without_attempt}
use Rattle.tx_keeping.specs.Kept.{Kept, kept_flat, kept_footprint, text_of, with_state}
use Rattle.tx_keeping.specs.Moves.{standing_after}
use Rattle.tx_keeping.proofs.Stores.{ChangesIn}
use Rattle.tx_keeping.proofs.Needed.{Leaves, flat_with, kind_is}
use Rattle.tx_keeping.proofs.Truth.{TrueAt, Truth, Untouched, entered, hits_with}
use Rattle.tx_keeping.proofs.Holding.{Holds, touching_holds}

-- ---- the statement

pub record IsGood (m : Setting) (k : Kept) : Type 0 where
  pub truth : Truth m k
  pub holds : Holds (cpus_of m) k.state.held (kept_footprint k)

pub at_put_case : {A : Type 0} (table : ℕ → A) (i : ℕ) (v : A) (x : ℕ) (P : A → Type 0) → (x ≡ i → P v)
    → P (table x) → P (at_put table i v x)
at_put_case table i v x P here other =
    cond_both (eqb x i) v (table x) P (λ e. here (eqb-true x i e)) (λ e. other)

-- ---- the state alone changes

-- numbers that say the same of an attempt
pub record SameNumbers (n after : Numbers) : Type 0 where
  pub completed : after.completed ≡ n.completed
  pub given : after.given ≡ n.given
  pub refused : after.refused ≡ n.refused

pub same_numbers : (n : Numbers) → SameNumbers n n
same_numbers n = record { completed = refl; given = refl; refused = refl }

pub one_number : (numbers : ℕ → Numbers) (i : ℕ) (n : Numbers) → SameNumbers (numbers i) n → (x : ℕ)
    → SameNumbers (numbers x) (at_put numbers i n x)
one_number numbers i n same x =
    at_put_case numbers i n x (SameNumbers (numbers x))
    (λ e. subst (λ y. SameNumbers (numbers y) n) (sym e) same) (same_numbers (numbers x))

pub restated : (m : Setting) (k : Kept) (s : State) → Truth m k → s.history ≡ k.state.history
    → ((x : ℕ) → SameNumbers (k.state.numbers x) (s.numbers x)) → Truth m (with_state s k)
restated m k s t history numbers = record {
  replayed = ap (replay m.image) history ∙ t.replayed;
  each = λ x. record {
    count = (numbers x).completed ∙ (t.each x).count;
    followed = (t.each x).followed;
    parms = (t.each x).parms;
    aborts = (t.each x).aborts ∙ sym (ap (λ h. hits m.image h x) history);
    kind = λ live. (t.each x).kind (sym (ap (nat_lt 0) (numbers x).completed) ∙ live);
    given = (t.each x).given ∙ sym (numbers x).given;
    refused = (t.each x).refused ∙ sym (numbers x).refused;
  };
}

-- ---- one CPU changes

-- what is true of its parts
pub record TrueOf (m : Setting) (after : Kept) (i : ℕ) (n : Numbers) (l : Local)
    (st : Standing) : Type 0 where
  pub count : n.completed ≡ l.attempt.count
  pub followed : IsFollowed (kept_flat m after) i l
  pub parms : st.parms ≡ m.image.parms
  pub aborts : st.aborts ≡ hits m.image after.state.history i
  pub kind : nat_lt 0 n.completed ≡ true → st.constrained ≡ is_constrained l.attempt.nest
  pub given : st.rejects_given ≡ n.given
  pub refused : st.requests_rejected ≡ n.refused

pub true_at : (m : Setting) (after : Kept) (i : ℕ) (n : Numbers) (l : Local) (st : Standing)
    → after.state.numbers i ≡ n → after.locals i ≡ l → after.standings i ≡ st → TrueOf m after i n l st
    → TrueAt m after i
true_at m after i n l st en el es h =
    let all : TrueOf m after i (after.state.numbers i) (after.locals i) (after.standings i) =
    subst (λ l. TrueOf m after i (after.state.numbers i) l (after.standings i)) (sym el)
    (subst (λ n. TrueOf m after i n l (after.standings i)) (sym en)
    (subst (TrueOf m after i n l) (sym es) h)) in
    record {
      count = all.count;
      followed = all.followed;
      parms = all.parms;
      aborts = all.aborts;
      kind = all.kind;
      given = all.given;
      refused = all.refused;
    }

-- ---- an entry of one CPU

-- lines that only this CPU can hold are touched by no other
pub apart : (cpus : ℕ) (held : Holders) (touched : ℕ → Sets) (i x : ℕ) (lines : ℕ → Bool)
    → Holds cpus held touched → x ≢ i
    → ((line : ℕ) → lines line ≡ true → held i line ≡ Some Exclusive) → (line : ℕ)
    → ((touched x).fetched line || (touched x).stored line) ≡ true → lines line ≡ false
apart cpus held touched i x lines h ne exclusive line is =
    false_from_ne_true (lines line) (λ mine.
    let none = h.alone i x line (exclusive line mine) ne in
    by_way (or_cases ((touched x).fetched line) ((touched x).stored line) is)
    (λ fetched. let n : false ≡ true = sym (ap is_some none) ∙ h.fetched x line fetched in cc)
    (λ stored. let n : false ≡ true = sym (ap is_some none) ∙ ap is_some (h.stored x line stored) in cc))

-- a CPU without an attempt has touched nothing
pub rests_untouched : (f : FlatState) (i : ℕ) (l : Local) → IsFollowed f i l → l.attempt.count ≡ 0
    → l.attempt.footprint ≡ untouched
unfolding run progress_of
rests_untouched f i l h rests =
    ap (λ (q : Progress). q.footprint) (sym h.attempt ∙ ap (λ n. progress_of (run f i n)) rests)

-- an entry of a CPU that has no attempt behind it; its stores are in some lines
pub record Moved (m : Setting) (k after : Kept) (i : ℕ) (e : Entry) (b : Beside) (lines : ℕ → Bool)
    : Type 0 where
  pub entry : cpu_of_entry e ≡ i
  pub history : after.state.history ≡ k.state.history ++ e ∷ []
  pub leaves : Leaves (text_of m) k.storage k.locals i e b
  pub storage : after.storage ≡ b.storage
  pub locals : after.locals ≡ at_put k.locals i b.local
  pub changes : ChangesIn lines k.storage b.storage
  pub exclusive : (line : ℕ) → lines line ≡ true → k.state.held i line ≡ Some Exclusive
  pub numbers : (x : ℕ) → x ≢ i → after.state.numbers x ≡ k.state.numbers x
  pub standings : (x : ℕ) → x ≢ i → after.standings x ≡ k.standings x
  pub held : after.state.held ≡ k.state.held
  pub completed : (after.state.numbers i).completed ≡ 0
  pub parms : (after.standings i).parms ≡ m.image.parms
  pub aborts : (after.standings i).aborts ≡ hits m.image (k.state.history ++ e ∷ []) i
  pub given : (after.standings i).rejects_given ≡ (after.state.numbers i).given
  pub refused : (after.standings i).requests_rejected ≡ (after.state.numbers i).refused

pub moved_other : (m : Setting) (k after : Kept) (i : ℕ) (e : Entry) (b : Beside) (lines : ℕ → Bool)
    → IsGood m k → Moved m k after i e b lines → (x : ℕ) → x ≢ i → Untouched k after x
moved_other m k after i e b lines g d x ne = record {
  numbers = d.numbers x ne;
  local = ap (λ (f : ℕ → Local). f x) d.locals ∙ at_put_other k.locals i b.local x ne;
  standing = d.standings x ne;
  bytes = λ a is. ap (λ (s : Storage). s a) d.storage
      ∙ d.changes a (apart (cpus_of m) k.state.held (kept_footprint k) i x lines g.holds ne d.exclusive
      (a / line_size) is);
}

moved_flat : (m : Setting) (k after : Kept) (i : ℕ) (e : Entry) (b : Beside) (lines : ℕ → Bool)
    → Moved m k after i e b lines → flat_with (text_of m) k.locals i b ≡ kept_flat m after
moved_flat m k after i e b lines d =
    ap (λ s. flat_from (text_of m) s (at_put k.locals i b.local)) (sym d.storage)
    ∙ ap (flat_from (text_of m) after.storage) (sym d.locals)

pub moved_good : (m : Setting) (s : IsSetting m) (k after : Kept) (i : ℕ) (e : Entry) (b : Beside)
    (lines : ℕ → Bool) → IsGood m k → Moved m k after i e b lines → IsGood m after
moved_good m s k after i e b lines g d =
    let flat = moved_flat m k after i e b lines d in
    let own : after.locals i ≡ b.local =
    ap (λ (f : ℕ → Local). f i) d.locals ∙ at_put_same k.locals i b.local in
    let followed : IsFollowed (kept_flat m after) i b.local =
    subst (λ f. IsFollowed f i b.local) flat d.leaves.followed in
    let empty : kept_footprint after i ≡ untouched =
    ap (λ (l : Local). l.attempt.footprint) own
    ∙ rests_untouched (kept_flat m after) i b.local followed d.leaves.rests in
    record {
      truth = entered m s k after i e g.truth d.entry d.history (d.leaves.applies ∙ ap Some flat)
          (moved_other m k after i e b lines g d)
          (true_at m after i (after.state.numbers i) b.local (after.standings i) refl own refl record {
            count = d.completed ∙ sym d.leaves.rests;
            followed = followed;
            parms = d.parms;
            aborts = d.aborts ∙ sym (ap (λ h. hits m.image h i) d.history);
            kind = λ live. let n : false ≡ true = sym (ap (nat_lt 0) d.completed) ∙ live in absurd (cc);
            given = d.given;
            refused = d.refused;
          });
      holds = subst (λ held. Holds (cpus_of m) held (kept_footprint after)) (sym d.held)
          (touching_holds (cpus_of m) k.state.held (kept_footprint k) (kept_footprint after) i g.holds
          (λ x ne. ap (λ (l : Local). l.attempt.footprint)
          (ap (λ (f : ℕ → Local). f x) d.locals ∙ at_put_other k.locals i b.local x ne))
          (λ line is. let n : false ≡ true = sym (ap (λ (t : Sets). t.stored line) empty) ∙ is in absurd (cc))
          (λ line is. let n : false ≡ true = sym (ap (λ (t : Sets). t.fetched line) empty)
          ∙ is in absurd (cc)));
    }

-- ---- the end of an attempt

-- of the numbers of one CPU
pub record EndsAttempt (i : ℕ) (s after : State) : Type 0 where
  pub others : (x : ℕ) → x ≢ i → after.numbers x ≡ s.numbers x
  pub completed : (after.numbers i).completed ≡ 0
  pub given : (after.numbers i).given ≡ (s.numbers i).given
  pub refused : (after.numbers i).refused ≡ (s.numbers i).refused
  pub held : after.held ≡ s.held
  pub events : after.events ≡ s.events
  pub history : after.history ≡ s.history

pub ends_without : (i : ℕ) (s : State) → EndsAttempt i s (without_attempt i s)
ends_without i s =
    let n = record (s.numbers i) { completed = 0 } in
    let same = at_put_same s.numbers i n in
    record {
      others = at_put_other s.numbers i n;
      completed = ap (λ (n : Numbers). n.completed) same;
      given = ap (λ (n : Numbers). n.given) same;
      refused = ap (λ (n : Numbers). n.refused) same;
      held = refl;
      events = refl;
      history = refl;
    }

ends_delayed : (i turns : ℕ) (s after : State) → EndsAttempt i s after
    → EndsAttempt i s (record after {
      numbers = at_put after.numbers i (record
          (after.numbers i) { delay = turns });
    })
ends_delayed i turns s after h =
    let same = at_put_same after.numbers i (record (after.numbers i) { delay = turns }) in
    record {
      others = λ x ne. at_put_other after.numbers i _ x ne ∙ h.others x ne;
      completed = ap (λ (n : Numbers). n.completed) same ∙ h.completed;
      given = ap (λ (n : Numbers). n.given) same ∙ h.given;
      refused = ap (λ (n : Numbers). n.refused) same ∙ h.refused;
      held = h.held;
      events = h.events;
      history = h.history;
    }

pub ends_queued : (i : ℕ) (s after : State) (queue : List ℕ) → EndsAttempt i s after
    → EndsAttempt i s (record after { queue = queue })
ends_queued i s after queue h = record {
  others = h.others;
  completed = h.completed;
  given = h.given;
  refused = h.refused;
  held = h.held;
  events = h.events;
  history = h.history;
}

ends_on_rung : (i : ℕ) (s : State) (next : Next) → EndsAttempt i s (on_rung i next (without_attempt i s))
ends_on_rung i s Plain = ends_without i s
ends_on_rung i s (Delay turns) = ends_delayed i turns s (without_attempt i s) (ends_without i s)
ends_on_rung i s Queue = ends_queued i s (without_attempt i s) _ (ends_without i s)

pub ends_after : (i : ℕ) (s : State) (st : Standing) (why : Why)
    → EndsAttempt i s (after_cause i st why (without_attempt i s))
ends_after i s st (FetchConflict line) = ends_on_rung i s (next_rung st)
ends_after i s st (StoreConflict line) = ends_on_rung i s (next_rung st)
ends_after i s st Starved = ends_on_rung i s (next_rung st)
ends_after i s st (Program e) = ends_queued i s (without_attempt i s) _ (ends_without i s)
ends_after i s st External = ends_without i s
ends_after i s st FetchOverflow = ends_without i s
ends_after i s st StoreOverflow = ends_without i s
ends_after i s st Restricted = ends_without i s
ends_after i s st (Filtered e) = ends_without i s
ends_after i s st Depth = ends_without i s
ends_after i s st (Tabort code) = ends_without i s

-- of its standing
pub record SameStanding (st after : Standing) : Type 0 where
  pub parms : after.parms ≡ st.parms
  pub given : after.rejects_given ≡ st.rejects_given
  pub refused : after.requests_rejected ≡ st.requests_rejected

same_standing : (st : Standing) → SameStanding st st
same_standing st = record { parms = refl; given = refl; refused = refl }

pub same_descended : (b : Bool) (st : Standing) → SameStanding st (if b then descended st else st)
same_descended true st = record { parms = refl; given = refl; refused = refl }
same_descended false st = same_standing st

same_conflict : (st : Standing) → SameStanding st (after_conflict st)
same_conflict st = record { parms = refl; given = refl; refused = refl }

pub same_after : (why : Why) (st : Standing) → SameStanding st (standing_after why st)
same_after (FetchConflict line) st = same_conflict st
same_after (StoreConflict line) st = same_conflict st
same_after Starved st = same_conflict st
same_after (Program e) st = same_descended st.constrained st
same_after External st = same_standing st
same_after FetchOverflow st = same_standing st
same_after StoreOverflow st = same_standing st
same_after Restricted st = same_standing st
same_after (Filtered e) st = same_standing st
same_after Depth st = same_standing st
same_after (Tabort code) st = same_standing st

if_same : (b : Bool) (n : ℕ) → n ≡ (if b then n else n)
if_same true n = refl
if_same false n = refl

descended_aborts : (b : Bool) (st : Standing)
    → (if b then descended st else st).aborts ≡ (if b then 0 else st.aborts)
descended_aborts true st = refl
descended_aborts false st = refl

pub aborts_after : (why : Why) (st : Standing)
    → (standing_after why st).aborts ≡ (if st.constrained then hits_by why st.aborts else st.aborts)
aborts_after (FetchConflict line) st = refl
aborts_after (StoreConflict line) st = refl
aborts_after Starved st = refl
aborts_after (Program e) st = descended_aborts st.constrained st
aborts_after External st = if_same st.constrained st.aborts
aborts_after FetchOverflow st = if_same st.constrained st.aborts
aborts_after StoreOverflow st = if_same st.constrained st.aborts
aborts_after Restricted st = if_same st.constrained st.aborts
aborts_after (Filtered e) st = if_same st.constrained st.aborts
aborts_after Depth st = if_same st.constrained st.aborts
aborts_after (Tabort code) st = if_same st.constrained st.aborts

-- of the count of conflicts of its own CPU
own_hits : (i : ℕ) (b : Bool) (made n : ℕ) → (if eqb i i && b then made else n) ≡ (if b then made else n)
own_hits i b made n = ap (λ c. if c && b then made else n) (eq-eqb i i refl)

module _ (m : Setting) (s : IsSetting m) where
  -- the kind of a live attempt, as the history says
  pub kind_told : (k : Kept) (i : ℕ) → Truth m k → is_live k.state i ≡ true
      → tries_constrained (kept_flat m k) i ≡ (k.standings i).constrained
  kind_told k i t live =
      kind_is (kept_flat m k) i (k.locals i) (t.each i).followed
      (sym (ap (nat_lt 0) (t.each i).count) ∙ live) ∙ sym ((t.each i).kind live)

  pub abort_hits : (k : Kept) (i n : ℕ) (why : Why) → Truth m k → is_live k.state i ≡ true
      → (standing_after why (k.standings i)).aborts ≡ hits m.image (k.state.history ++ Abort i n why ∷ []) i
  abort_hits k i n why t live =
      let before = hits m.image k.state.history i in
      let f = kept_flat m k in
      aborts_after why (k.standings i)
      ∙ ap (λ a. if (k.standings i).constrained then hits_by why a else a) (t.each i).aborts
      ∙ ap (λ b. if b then hits_by why before else before) (sym (kind_told k i t live))
      ∙ sym (own_hits i (tries_constrained f i) (hits_by why before) before)
      ∙ sym (hits_with m.image i k.state.history (Abort i n why) f t.replayed)

  pub commit_hits : (k : Kept) (i n : ℕ) → Truth m k → is_live k.state i ≡ true
      → (if (k.standings i).constrained then descended (k.standings i) else k.standings i).aborts
      ≡ hits m.image (k.state.history ++ Commit i n ∷ []) i
  commit_hits k i n t live =
      let before = hits m.image k.state.history i in
      let f = kept_flat m k in
      descended_aborts (k.standings i).constrained (k.standings i)
      ∙ ap (λ a. if (k.standings i).constrained then 0 else a) (t.each i).aborts
      ∙ ap (λ b. if b then 0 else before) (sym (kind_told k i t live))
      ∙ sym (own_hits i (tries_constrained f i) 0 before)
      ∙ sym (hits_with m.image i k.state.history (Commit i n) f t.replayed)
