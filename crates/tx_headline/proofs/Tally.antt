-- The conflict aborts of a CPU among the entries since some history, in an event of the machine that keeps.
use Rattle.std.proofs.Common.{◌≡◌, ◌≢◌, ℕ, ◌+◌, ◌≤◌, Bool, true, false, cond, List, [], ◌∷◌, ◌++◌}
use Rattle.std.proofs.Common.{Option, Some, None, refl, sym, ap, ◌∙◌, subst, arith, inl, inr, append_assoc}
use Rattle.std.specs.Prelude.{◌⊎◌, ◌==◌, ◌&&◌, if◌then◌else◌, not, nat_lt, count_by}
use Rattle.std.specs.List.{list_any}
use Rattle.std.proofs.lemmas.Bool.{true≢false, cases_eq, cases_lt, eq-eqb, eqb-false, ne_eqb, and_from}
use Rattle.std.proofs.lemmas.List.Sums.{sum_by_push}
use borrow.Enum.Arm.{by_way}
use Rattle.tx_control.specs.declared.causes.Why.{Why}
use Rattle.tx_control.specs.declared.causes.Why.TheVariants.{External, Program, FetchConflict}
use Rattle.tx_control.specs.declared.causes.Why.TheVariants.{StoreConflict, FetchOverflow, StoreOverflow}
use Rattle.tx_control.specs.declared.causes.Why.TheVariants.{Restricted, Filtered, Depth, Starved, Tabort}
use Rattle.tx_ladder.specs.Parameters.{Parameters}
use Rattle.tx_ladder.specs.Rungs.{Standing, rejecting, rejected}
use Rattle.tx_journal.specs.declared.entries.Entry.{Entry}
use Rattle.tx_journal.specs.declared.entries.Entry.TheVariants.{Step, Commit, Abort, Tdb, Interrupt}
use Rattle.tx_journal.specs.declared.events.Event.{Event}
use Rattle.tx_journal.specs.declared.events.Event.TheVariants as event
use Rattle.tx_bounds.specs.Local.{Beside}
use Rattle.tx_bounds.specs.Flat.{at_put}
use Rattle.tx_meaning.specs.Limits.{Setting}
use Rattle.tx_meaning.specs.State.{Numbers, State, is_live}
use Rattle.tx_meaning.specs.Changes.{with_numbers, with_event, counting_turn, aborting}
use Rattle.tx_meaning.specs.Stretches.{is_end_by, is_end_of, is_interrupted_by, left_by}
use Rattle.tx_meaning.specs.declared.outcome.Outcome.{Outcome}
use Rattle.tx_meaning.proofs.Walk.{at_put_kept, conflict_on}
use Rattle.tx_bounds.specs.Kept.{Kept, with_state, with_beside}
use Rattle.tx_bounds.specs.Moves.{k_asking, k_rejecting, k_rejected, k_aborting, k_starting, k_committing}
use Rattle.tx_bounds.specs.Moves.{standing_after}
use Rattle.tx_bounds.specs.Turn.{k_external, k_interrupting, k_happen, k_idle, k_turn, k_turn_where}
use Rattle.tx_bounds.specs.Turn.{k_to_tail, next_address}
use Rattle.tx_bounds.proofs.Walk.{Walk, IsOwn, in_a_turn}
use Rattle.tx_bounds.proofs.News.{aborted_history}
use Rattle.tx_bounds.proofs.OtherTurns.{aborted_dead, aborted_elsewhere, same_left, conflict_counts}
use Rattle.tx_bounds.proofs.Paid.{left_now, left_of}
use Rattle.tx_bounds.proofs.Potential.{left_below, left_at}
use Rattle.tx_headline.specs.Since.{is_conflict, is_conflict_abort_of, is_other_abort_of}
use Rattle.tx_headline.proofs.Lists.{none_more}
use Rattle.tx_bounds.proofs.Entries.{at_put_other, at_put_same}
use Rattle.std.proofs.Math.Bool.{and-false}

-- none of the entries since ends a transaction of the CPU
pub record Plain (c : ℕ) (before : List Entry) (k : Kept) : Type 0 where
  pub entries : List Entry
  pub is : k.state.history ≡ before ++ entries
  pub none : list_any (is_end_of c) entries ≡ false

-- none of the entries since ends a transaction of the CPU, and its aborts among them are conflicts, which are
-- counted
pub record Tally (c : ℕ) (before : List Entry) (k : Kept) : Type 0 where
  pub entries : List Entry
  pub is : k.state.history ≡ before ++ entries
  pub none : list_any (is_end_of c) entries ≡ false
  pub few : count_by (is_conflict_abort_of c) entries ≤ (k.standings c).aborts
  pub only : list_any (is_other_abort_of c) entries ≡ false

pub plain_of : {c : ℕ} {before : List Entry} {k : Kept} → Tally c before k → Plain c before k
plain_of n = record { entries = n.entries; is = n.is; none = n.none }

-- the last of the entries since is the first that ends a transaction of the CPU
pub record Ended (stop c : ℕ) (before now : List Entry) : Type 0 where
  pub entries : List Entry
  pub last : Entry
  pub is : now ≡ before ++ (entries ++ last ∷ [])
  pub ends : is_end_of c last ≡ true
  pub none : list_any (is_end_of c) entries ≡ false
  pub few : count_by (is_conflict_abort_of c) entries ≤ stop
  pub only : list_any (is_other_abort_of c) entries ≡ false

-- Or a counted turn of the CPU leaves to its transaction no less than was left.
pub record Spends (m : Setting) (c : ℕ) (before : List Entry) (e : Event) (k : Kept) : Type 0 where
  pub turn : e ≡ event.Turn c
  pub ready : k_idle m k c ≡ None
  pub less : left_of m c k ≤ left_of m c (k_happen m e k).kept
  pub plain : Plain c before (k_happen m e k).kept

conflict_no_end : (stored : Bool) (line c n : ℕ) → is_end_of c (Abort c n (conflict_on stored line)) ≡ false
conflict_no_end true line c n = and-false (c == c)
conflict_no_end false line c n = and-false (c == c)

conflict_is : (stored : Bool) (line : ℕ) → is_conflict (conflict_on stored line) ≡ true
conflict_is true line = refl
conflict_is false line = refl

rejected_aborts : (b : Bool) (st : Standing) → (if b then rejected st else st).aborts ≡ st.aborts
rejected_aborts true st = refl
rejected_aborts false st = refl

rejected_kind : (b : Bool) (st : Standing) → (if b then rejected st else st).constrained ≡ st.constrained
rejected_kind true st = refl
rejected_kind false st = refl

-- an abort of an attempt that is not counted leaves no less
left_most : (p : Parameters) (a d n r : ℕ) → left_by p a d n r ≤ left_by p a d 0 0
left_most p a d n r =
    by_way (cases_lt a p.stop)
    (λ less.
    let old = left_below p a d n r less in
    let new = left_below p a d 0 0 less in
    omega (arith, old, new))
    (λ most.
    let old = left_at p a d n r most in
    let new = left_at p a d 0 0 most in
    omega (arith, old, new))

module _ (m : Setting) (i c : ℕ) (before : List Entry) (first : Kept) where
  abbrev stop : ℕ
  stop = m.image.parms.stop

  abbrev Counts : Kept → Type 0
  Counts k = Tally c before k

  -- while CPU i asks
  record Asking (k : Kept) : Type 0 where
    tally : Counts k
    kind : is_live k.state c ≡ true → (k.standings c).constrained ≡ true
    low : c ≡ i → (k.standings c).aborts ≤ stop
    rests : c ≡ i → left_of m c k ≡ left_of m c first

  -- behind a reject
  record Refused (k : Kept) : Type 0 where
    tally : Counts k
    kind : is_live k.state c ≡ true → (k.standings c).constrained ≡ true

  -- no less is left to the CPU
  record Keeps (k : Kept) : Type 0 where
    own : c ≡ i
    less : left_of m c first ≤ left_of m c k
    plain : Plain c before k

  abbrev Behind : Kept → Type 0
  Behind k = Counts k ⊎ (Ended stop c before k.state.history ⊎ Keeps k)

  -- ---- what is added to the entries

  tally_same : (k t : Kept) → t.state.history ≡ k.state.history
      → (t.standings c).aborts ≡ (k.standings c).aborts → Counts k → Counts t
  tally_same k t history aborts n = record {
    entries = n.entries;
    is = history ∙ n.is;
    none = n.none;
    few = let few = n.few in omega (arith, aborts, few);
    only = n.only;
  }

  same : (k t : Kept) → t.state.history ≡ k.state.history → (t.standings c).aborts ≡ (k.standings c).aborts
      → (t.standings c).constrained ≡ (k.standings c).constrained
      → (is_live t.state c ≡ true → is_live k.state c ≡ true) → (c ≡ i → left_of m c t ≡ left_of m c k)
      → Asking k → Asking t
  same k t history aborts kind live left a = record {
    tally = tally_same k t history aborts a.tally;
    kind = λ x. kind ∙ a.kind (live x);
    low = λ own. let low = a.low own in omega (arith, aborts, low);
    rests = λ own. left own ∙ a.rests own;
  }

  -- one entry more, which ends nothing
  tally_more : (k t : Kept) (e : Entry) (counts : Bool) → t.state.history ≡ k.state.history ++ e ∷ []
      → is_end_of c e ≡ false → is_conflict_abort_of c e ≡ counts → is_other_abort_of c e ≡ false
      → (k.standings c).aborts + cond counts 1 0 ≤ (t.standings c).aborts → Counts k → Counts t
  tally_more k t e counts history off conflict other aborts n = record {
    entries = n.entries ++ e ∷ [];
    is = history ∙ ap (λ h. h ++ e ∷ []) n.is ∙ append_assoc before n.entries (e ∷ []);
    none = none_more (is_end_of c) n.entries e off ∙ n.none;
    few =
        let few = n.few in
        let sum : count_by (is_conflict_abort_of c) (n.entries ++ e ∷ [])
        ≡ count_by (is_conflict_abort_of c) n.entries + cond (is_conflict_abort_of c e) 1 0 =
        sum_by_push (λ x. cond (is_conflict_abort_of c x) 1 0) n.entries e in
        let one : cond (is_conflict_abort_of c e) 1 0 ≡ cond {A = ℕ} counts 1 0 =
        ap (λ b. cond b 1 0) conflict in
        omega (arith, few, sum, one, aborts);
    only = none_more (is_other_abort_of c) n.entries e other ∙ n.only;
  }

  plain_more : (k t : Kept) (e : Entry) → t.state.history ≡ k.state.history ++ e ∷ []
      → is_end_of c e ≡ false → Counts k → Plain c before t
  plain_more k t e history off n = record {
    entries = n.entries ++ e ∷ [];
    is = history ∙ ap (λ h. h ++ e ∷ []) n.is ∙ append_assoc before n.entries (e ∷ []);
    none = none_more (is_end_of c) n.entries e off ∙ n.none;
  }

  -- one that is nothing to the CPU
  tally_plain : (k t : Kept) (e : Entry) → t.state.history ≡ k.state.history ++ e ∷ []
      → is_end_of c e ≡ false → is_conflict_abort_of c e ≡ false → is_other_abort_of c e ≡ false
      → (t.standings c).aborts ≡ (k.standings c).aborts → Counts k → Counts t
  tally_plain k t e history off conflict other aborts n =
      tally_more k t e false history off conflict other (omega (arith, aborts)) n

  -- and one that ends a transaction of the CPU
  ended_with : (k t : Kept) (e : Entry) → t.state.history ≡ k.state.history ++ e ∷ [] → is_end_of c e ≡ true
      → (k.standings c).aborts ≤ stop → Counts k → Ended stop c before t.state.history
  ended_with k t e history ends low n = record {
    entries = n.entries;
    last = e;
    is = history ∙ ap (λ h. h ++ e ∷ []) n.is ∙ append_assoc before n.entries (e ∷ []);
    ends = ends;
    none = n.none;
    few = let few = n.few in omega (arith, few, low);
    only = n.only;
  }

  -- ---- aborts

  abbrev abort_of : ℕ → Why → Kept → Entry
  abort_of j w k = Abort j (k.locals j).attempt.count w

  abort_history : (j at : ℕ) (w : Why) (k : Kept)
      → (k_aborting j w at k).state.history ≡ k.state.history ++ abort_of j w k ∷ []
  unfolding k_aborting
  abort_history j at w k = aborted_history j (k.standings j) (k.locals j).attempt.count w k.state

  abort_standing : (at : ℕ) (w : Why) (k : Kept)
      → (k_aborting c w at k).standings c ≡ standing_after w (k.standings c)
  unfolding k_aborting
  abort_standing at w k = at_put_same k.standings c (standing_after w (k.standings c))

  -- of another CPU
  other_tally : (j at : ℕ) (w : Why) (k : Kept) → c ≢ j → Counts k → Counts (k_aborting j w at k)
  other_tally j at w k ne n =
      let off = ne_eqb j c (λ e. ne (sym e)) in
      let there = aborted_elsewhere m true c k.state 0 j ne j w at k ne in
      tally_plain k (k_aborting j w at k) (abort_of j w k) (abort_history j at w k)
      (ap (λ b. b && is_end_by w) off) (ap (λ b. b && is_conflict w) off)
      (ap (λ b. b && not (is_conflict w)) off) there.standing.aborts n

  -- of the CPU, by a conflict
  conflict_tally : (at : ℕ) (w : Why) (k : Kept) → is_end_of c (abort_of c w k) ≡ false
      → is_conflict w ≡ true → (standing_after w (k.standings c)).aborts ≡ (k.standings c).aborts + 1
      → Counts k → Counts (k_aborting c w at k)
  conflict_tally at w k off is counts n =
      let now = ap (λ (s : Standing). s.aborts) (abort_standing at w k) in
      tally_more k (k_aborting c w at k) (abort_of c w k) true (abort_history c at w k) off
      (and_from (c == c) (is_conflict w) (eq-eqb c c refl) is)
      (ap (λ b. c == c && not b) is ∙ and-false (c == c)) (omega (arith, now, counts)) n

  -- and otherwise no less is left to it
  plain_kept : (at : ℕ) (w : Why) (k : Kept) → c ≡ i → is_end_of c (abort_of c w k) ≡ false
      → (k_aborting c w at k).state.numbers
      ≡ at_put k.state.numbers c (record (k.state.numbers c) { completed = 0 })
      → standing_after w (k.standings c) ≡ k.standings c → Asking k → Keeps (k_aborting c w at k)
  plain_kept at w k own off numbers keeps a =
      let t = k_aborting c w at k in
      let n = k.state.numbers c in
      let st = k.standings c in
      let now : t.state.numbers c ≡ record n { completed = 0 } =
      ap (λ f. f c) numbers ∙ at_put_same k.state.numbers c (record n { completed = 0 }) in
      let there : left_of m c t ≡ left_by m.image.parms st.aborts n.delay 0 0 =
      (λ x. left_now m.image.parms (now x).completed (now x).delay ((abort_standing at w k ∙ keeps) x)) in
      let most = left_most m.image.parms st.aborts n.delay n.completed
      (if is_live k.state c then st.requests_rejected else 0) in
      let rests = a.rests own in
      record {
        own = own;
        less = omega (arith, there, most, rests);
        plain = plain_more k t (abort_of c w k) (abort_history c at w k) off a.tally;
      }

  holder_here : (line at : ℕ) (stored : Bool) (k : Kept) → c ≢ i → is_live k.state c ≡ true → Asking k
      → Asking (k_aborting c (conflict_on stored line) at k)
  holder_here line at stored k ne live a = record {
    tally = conflict_tally at (conflict_on stored line) k
        (conflict_no_end stored line c (k.locals c).attempt.count) (conflict_is stored line)
        (conflict_counts stored line (k.standings c) (a.kind live)) a.tally;
    kind = λ alive. absurd (true≢false (sym alive ∙ aborted_dead m c k (conflict_on stored line) at));
    low = λ own. absurd (ne own);
    rests = λ own. absurd (ne own);
  }

  holder_elsewhere : (j at : ℕ) (w : Why) (k : Kept) → c ≢ j → Asking k → Asking (k_aborting j w at k)
  holder_elsewhere j at w k ne a =
      let there = aborted_elsewhere m true c k.state 0 j ne j w at k ne in
      record {
        tally = other_tally j at w k ne a.tally;
        kind = λ live. there.standing.constrained ∙ a.kind (sym (ap (nat_lt 0) there.completed) ∙ live);
        low = λ own. let low = a.low own in let same = there.standing.aborts in omega (arith, same, low);
        rests = λ own. same_left m c k (k_aborting j w at k) there ∙ a.rests own;
      }

  holder_aborted : (k : Kept) (j line : ℕ) (stored : Bool) (at : ℕ) → j ≢ i → is_live k.state j ≡ true
      → Asking k → Asking (k_aborting j (conflict_on stored line) at k)
  holder_aborted k j line stored at ne live a =
      by_way (cases_eq c j)
      (λ e.
      subst (λ x. Asking (k_aborting x (conflict_on stored line) at k)) e
      (holder_here line at stored k (λ own. ne (sym e ∙ own)) (ap (is_live k.state) e ∙ live) a))
      (λ other. holder_elsewhere j at (conflict_on stored line) k other a)

  -- ---- the end of CPU i's own attempt

  own_abort : (at : ℕ) (w : Why) (k : Kept) → IsOwn w → c ≡ i → (k.standings c).aborts ≤ stop → Asking k
      → Behind (k_aborting c w at k)
  unfolding k_aborting aborting
  own_abort at (Program e) k own is low a =
      inr (inl (ended_with k (k_aborting c (Program e) at k) (abort_of c (Program e) k)
      (abort_history c at (Program e) k) (and_from (c == c) true (eq-eqb c c refl) refl) low a.tally))
  own_abort at FetchOverflow k own is low a =
      inr (inr (plain_kept at FetchOverflow k is (and-false (c == c)) refl refl a))
  own_abort at StoreOverflow k own is low a =
      inr (inr (plain_kept at StoreOverflow k is (and-false (c == c)) refl refl a))
  own_abort at Restricted k own is low a =
      inr (inr (plain_kept at Restricted k is (and-false (c == c)) refl refl a))
  own_abort at (Filtered e) k own is low a =
      inr (inr (plain_kept at (Filtered e) k is (and-false (c == c)) refl refl a))
  own_abort at Depth k own is low a =
      inr (inr (plain_kept at Depth k is (and-false (c == c)) refl refl a))
  own_abort at (Tabort code) k own is low a =
      inr (inr (plain_kept at (Tabort code) k is (and-false (c == c)) refl refl a))
  own_abort at (FetchConflict line) k own is low a = absurd own
  own_abort at (StoreConflict line) k own is low a = absurd own
  own_abort at Starved k own is low a = absurd own
  own_abort at External k own is low a = absurd own

  ends : (k : Kept) (w : Why) (at : ℕ) → IsOwn w → Asking k → Behind (k_aborting i w at k)
  ends k w at own a =
      by_way (cases_eq c i)
      (λ e. subst (λ x. Behind (k_aborting x w at k)) e (own_abort at w k own e (a.low e) a))
      (λ other. inl (other_tally i at w k other a.tally))

  starves : (k : Kept) (at : ℕ) → is_live k.state i ≡ true → Refused k → Behind (k_aborting i Starved at k)
  starves k at live a =
      by_way (cases_eq c i)
      (λ e.
      let kind = a.kind (ap (is_live k.state) e ∙ live) in
      inl (subst (λ x. Counts (k_aborting x Starved at k)) e
      (conflict_tally at Starved k (and-false (c == c)) refl
      (ap (λ b. if b then (k.standings c).aborts + 1 else (k.standings c).aborts) kind) a.tally)))
      (λ other. inl (other_tally i at Starved k other a.tally))

  commits : (k : Kept) (n : ℕ) (after : Beside) → Asking k → Behind (k_committing i n after k)
  commits k n after a =
      by_way (cases_eq c i)
      (λ e.
      inr (inl (ended_with k (k_committing i n after k) (Commit i n) refl (eq-eqb i c (sym e)) (a.low e)
      a.tally)))
      (λ other.
      inl (tally_plain k (k_committing i n after k) (Commit i n) refl (ne_eqb i c (λ e. other (sym e))) refl
      refl (ap (λ (s : Standing). s.aborts) (at_put_other k.standings i _ c other)) a.tally))

  -- ---- an interruption from outside

  outside_kept : (at : ℕ) (k : Kept) → c ≡ i → Asking k → Keeps (k_aborting c External at k)
  unfolding k_aborting aborting
  outside_kept at k own a = plain_kept at External k own (and-false (c == c)) refl refl a

  keeps_last : (k : Kept) → Keeps k → Keeps (k_to_tail i k)
  keeps_last k a =
      let n = a.plain in
      record { own = a.own; less = a.less; plain = record { entries = n.entries; is = n.is; none = n.none } }

  own_interrupt : (live : Bool) (k : Kept) → c ≡ i → Asking k → Keeps (k_interrupting live i k).kept
  own_interrupt true k own a =
      keeps_last (k_aborting i External (next_address k i) k)
      (subst (λ x. Keeps (k_aborting x External (next_address k i) k)) own
      (outside_kept (next_address k i) k own a))
  own_interrupt false k own a =
      let n = a.tally in
      let rests = a.rests own in
      keeps_last k (record {
        own = own;
        less = omega (arith, rests);
        plain = record { entries = n.entries; is = n.is; none = n.none };
      })

  other_interrupt : (live : Bool) (k : Kept) → c ≢ i → Counts k → Counts (k_interrupting live i k).kept
  other_interrupt true k other n =
      let t = k_aborting i External (next_address k i) k in
      tally_same t (k_interrupting true i k).kept refl refl
      (other_tally i (next_address k i) External k other n)
  other_interrupt false k other n = tally_same k (k_interrupting false i k).kept refl refl n

  others_interrupt : (k : Kept) → c ≢ i → Counts k → Counts (k_external i k).kept
  unfolding k_external
  others_interrupt k other n = other_interrupt (is_live k.state i) k other n

  interrupts : (k : Kept) → Asking k → Behind (k_external i k).kept
  unfolding k_external
  interrupts k a =
      by_way (cases_eq c i)
      (λ own. inr (inr (own_interrupt (is_live k.state i) k own a)))
      (λ other. inl (other_interrupt (is_live k.state i) k other a.tally))

  -- ---- the walk

  same_number : (j : ℕ) (v : Numbers) (s : State) → v.completed ≡ (s.numbers j).completed
      → is_live (with_numbers j v s) c ≡ true → is_live s c ≡ true
  same_number j v s e live =
      sym (at_put_kept (λ (n : Numbers). nat_lt 0 n.completed) s.numbers j v (ap (nat_lt 0) e) c) ∙ live

  -- numbers of another kind change
  number_left : (j : ℕ) (v : Numbers) (k : Kept) → v.completed ≡ (k.state.numbers j).completed
      → v.delay ≡ (k.state.numbers j).delay
      → left_of m c (with_state (with_numbers j v k.state) k) ≡ left_of m c k
  number_left j v k completed delay =
      λ x. left_now m.image.parms
      (at_put_kept (λ (n : Numbers). n.completed) k.state.numbers j v completed c x)
      (at_put_kept (λ (n : Numbers). n.delay) k.state.numbers j v delay c x) (k.standings c)

  holder_rejects : (k : Kept) (j : ℕ) → Asking k → Refused (k_rejecting j k)
  holder_rejects k j a = record {
    tally = tally_same k (k_rejecting j k) refl
        (at_put_kept (λ (s : Standing). s.aborts) k.standings j (rejecting (k.standings j)) refl c) a.tally;
    kind = λ live.
        at_put_kept (λ (s : Standing). s.constrained) k.standings j (rejecting (k.standings j)) refl c
        ∙ a.kind (same_number j _ k.state refl live);
  }

  is_rejected : (k : Kept) → Refused k → Refused (k_rejected i k)
  is_rejected k a =
      let alive = is_live k.state i in
      let st = k.standings i in
      record {
        tally = tally_same k (k_rejected i k) refl
            (at_put_kept (λ (s : Standing). s.aborts) k.standings i _ (rejected_aborts alive st) c) a.tally;
        kind = λ live.
            at_put_kept (λ (s : Standing). s.constrained) k.standings i _ (rejected_kind alive st) c
            ∙ a.kind (same_number i _ k.state refl live);
      }

  walked : Walk m i Asking Refused Behind
  walked = record {
    asking = record {
      asks = λ k a.
          same k (k_asking i k) refl refl refl (same_number i _ k.state refl)
          (λ own. number_left i _ k refl refl) a;
      holds = λ k held a.
          same k (with_state (record k.state { held = held }) k) refl refl refl (λ h. h) (λ own. refl) a;
      rejects = λ k j other live head a. is_rejected (k_rejecting j k) (holder_rejects k j a);
      aborts = λ k j line stored at other live a. holder_aborted k j line stored at other live a;
    };
    refused = λ k a. inl a.tally;
    starved = λ k at live a. starves k at live a;
    nothing = λ k a. inl a.tally;
    leaves = λ k after a. same k (with_beside i after k) refl refl refl (λ h. h) (λ own. refl) a;
    ends = λ k w at own a. ends k w at own a;
    steps = λ k after a. inl (tally_plain k _ (Step i) refl refl refl refl refl a.tally);
    pauses = λ k after turns a. inl (tally_plain k _ (Step i) refl refl refl refl refl a.tally);
    stores = λ k a. inl (tally_plain k _ (Tdb i) refl refl refl refl refl a.tally);
    takes = λ k a. inl (tally_plain k _ (Interrupt i) refl refl refl refl refl a.tally);
    starts = λ k after live a.
        inl (tally_same k (k_starting i after k) refl
        (at_put_kept (λ (s : Standing). s.aborts) k.standings i _ refl c) a.tally);
    continues = λ k after live a. inl (tally_same k _ refl refl a.tally);
    commits = λ k n after live a. commits k n after a;
    waits = λ k a. inl (tally_same k _ refl refl a.tally);
    interrupted = λ k a. interrupts k a;
  }

-- what a turn of a CPU comes to; where it is idle, nothing is added
turn_tally : (m : Setting) (c : ℕ) (before : List Entry) (j : ℕ) (k : Kept) → Tally c before k
    → (is_live k.state c ≡ true → (k.standings c).constrained ≡ true)
    → (k.standings c).aborts ≤ m.image.parms.stop
    → Tally c before (k_happen m (event.Turn j) k).kept
    ⊎ (Ended m.image.parms.stop c before (k_happen m (event.Turn j) k).kept.state.history
    ⊎ ((k_idle m k j ≡ None) × Keeps m j c before k (k_happen m (event.Turn j) k).kept))
unfolding k_happen k_turn
turn_tally m c before j k n kind low = by_idle (k_idle m k j) refl
  where
    by_idle : (o : Option Outcome) → k_idle m k j ≡ o
        → Tally c before (k_turn_where o m j k).kept
        ⊎ (Ended m.image.parms.stop c before (k_turn_where o m j k).kept.state.history
        ⊎ ((k_idle m k j ≡ None) × Keeps m j c before k (k_turn_where o m j k).kept))
    by_idle (Some o) e = inl n
    by_idle None e =
        by_way
        (subst (λ o. Behind m j c before k (k_turn_where o m j k).kept) e
        (in_a_turn m j (Asking m j c before k) (Refused m j c before k) (Behind m j c before k)
        (walked m j c before k) k (λ o is. inl n)
        (λ _.
        same m j c before k k (with_state (with_event (event.Turn j) (counting_turn j k.state)) k) refl refl
        refl (same_number m j c before k j _ k.state refl)
        (λ own. number_left m j c before k j _ k refl refl)
        (record { tally = n; kind = kind; low = λ own. low; rests = λ own. refl }))))
        (λ u. inl u)
        (λ rest. by_way rest (λ ended. inr (inl ended)) (λ keeps. inr (inr (e, keeps))))

outside_tally : (m : Setting) (c : ℕ) (before : List Entry) (j : ℕ) (k : Kept) → c ≢ j → Tally c before k
    → Tally c before (k_happen m (event.External j) k).kept
unfolding k_happen
outside_tally m c before j k other n =
    others_interrupt m j c before k (with_state (with_event (event.External j) k.state) k) other
    (tally_same m j c before k k _ refl refl n)

-- an event goes on with the entries, is the first to end a transaction of the CPU, or leaves it no less
pub event_tally : (m : Setting) (c : ℕ) (before : List Entry) (e : Event) (k : Kept) → Tally c before k
    → (is_live k.state c ≡ true → (k.standings c).constrained ≡ true)
    → (k.standings c).aborts ≤ m.image.parms.stop → is_interrupted_by m k.state e c ≡ false
    → Tally c before (k_happen m e k).kept
    ⊎ (Ended m.image.parms.stop c before (k_happen m e k).kept.state.history ⊎ Spends m c before e k)
event_tally m c before (event.Turn j) k n kind low apart =
    by_way (turn_tally m c before j k n kind low) (λ u. inl u)
    (λ rest. by_way rest (λ ended. inr (inl ended)) (λ keeps. inr (inr (spent keeps.0 keeps.1))))
  where
    spent : k_idle m k j ≡ None → Keeps m j c before k (k_happen m (event.Turn j) k).kept
        → Spends m c before (event.Turn j) k
    spent ready keeps = record {
      turn = ap event.Turn (sym keeps.own);
      ready = ap (k_idle m k) keeps.own ∙ ready;
      less = keeps.less;
      plain = keeps.plain;
    }
event_tally m c before (event.External j) k n kind low apart =
    inl (outside_tally m c before j k (λ e. eqb-false j c apart (sym e)) n)
