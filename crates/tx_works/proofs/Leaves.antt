-- What a question leaves: all that the next one asks of what is kept.
use Rattle.std.proofs.Common.{◌≡◌, ◌≢◌, ℕ, ◌+◌, ◌<◌, ◌≤◌, Bool, true, false, List, [], ◌∷◌, ◌++◌, length}
use Rattle.std.proofs.Common.{None, is_some, refl, sym, ap, subst, ◌∙◌, arith, length-append}
use Rattle.std.specs.Prelude.{◌||◌, ◌==◌, not, nat_lt, if◌then◌else◌}
use Rattle.std.proofs.lemmas.Bool.{cases_eq, ne_eqb}
use Rattle.std.proofs.lemmas.List.Folds.{list_any-append}
use Rattle.std.proofs.Math.Bool.{or-false}
use borrow.Enum.Arm.{by_way}
use Rattle.bit_set.specs.Counts.{one_if, count_below, but_at}
use Rattle.bit_set.proofs.Counts.{count_agree, count_but_at, but_at-same, but_at-other}
use Rattle.line_table.specs.declared.table.Mode.{Mode}
use Rattle.line_table.specs.Holders.{holding}
use Rattle.tx_control.specs.declared.causes.Why.{Why}
use Rattle.tx_control.specs.declared.causes.Why.TheVariants.{FetchConflict, StoreConflict}
use Rattle.tx_ladder.specs.Rungs.{Standing, rejecting, rejected, next_rung}
use Rattle.tx_ladder.specs.Waiting.{waits_in}
use Rattle.tx_ladder.specs.declared.ladder.Next.{Next}
use Rattle.tx_ladder.specs.declared.ladder.Next.TheVariants.{Plain, Delay, Queue}
use Rattle.interrogate.specs.declared.kinds.Answer.{Answer}
use Rattle.interrogate.specs.declared.kinds.Answer.TheVariants.{Yields, Rejects, Aborts}
use Rattle.interrogate.specs.declared.kinds.Asker.{Asker}
use Rattle.interrogate.specs.Replies.{Lines, conflicts, may_hold_out, cause_at, reply}
use Rattle.tx_journal.specs.declared.entries.Entry.{Entry}
use Rattle.tx_serial.proofs.Entries.{at_put_same, at_put_other}
use Rattle.tx_progress.specs.Local.{Local}
use Rattle.tx_meaning.specs.declared.asking.Need.{Need}
use Rattle.tx_meaning.specs.State.{Numbers, State, is_live, is_head, is_first}
use Rattle.tx_meaning.specs.Changes.{aborting, on_rung}
use Rattle.tx_meaning.specs.Changes.{without_attempt, left_to}
use Rattle.tx_meaning.proofs.Walk.{at_put_kept, live_asking, not_the_head}
use Rattle.tx_keeping.specs.Kept.{Kept, kept_asker, kept_footprint}
use Rattle.tx_keeping.specs.Moves.{k_asking, k_rejecting, k_rejected, k_yielding, k_aborting}
use Rattle.tx_keeping.proofs.Moves.{ends_after}
use Rattle.tx_keeping.specs.Asking.{k_reply, k_by_answer, k_ask_one}
use Rattle.tx_works.specs.Ready.{MayClimb, MayAsk}
use Rattle.tx_works.specs.Asks.{MayCount, AskLeaves, entries_owed}
use Rattle.tx_works.proofs.Tables.{each, read_as_is}

-- ---- where a CPU stands on the ladder

-- but for the rejects that are counted
abbrev rung_of : Standing → Standing
rung_of s = record s { rejects_given = 0; requests_rejected = 0 }

record KeepsRung (k after : Kept) (x : ℕ) : Type 0 where
  rung : rung_of (after.standings x) ≡ rung_of (k.standings x)
  waits : waits_in after.state.queue x ≡ waits_in k.state.queue x

may_climb : (k after : Kept) (x : ℕ) → KeepsRung k after x → MayClimb k x → MayClimb after x
may_climb k after x same may = record {
  below = subst (λ (s : Standing). s.constrained ≡ true → s.aborts < s.parms.stop) (sym same.rung) may.below;
  out = λ c. same.waits ∙ may.out (sym (ap (λ (s : Standing). s.constrained) same.rung) ∙ c);
}

record KeepsLive (k after : Kept) (x : ℕ) : Type 0 where
  live : is_live k.state x ≡ true
  rung : KeepsRung k after x

may_ask_still : (cpus i : ℕ) (k after : Kept)
    → ((x : ℕ) → x ≢ i → is_live after.state x ≡ true → KeepsLive k after x) → KeepsRung k after i
    → is_head after.state i ≡ is_head k.state i → MayAsk cpus i k → MayAsk cpus i after
may_ask_still cpus i k after others own head may = record {
  others = λ j lt ne live.
      let same = others j ne live in
      may_climb k after j same.rung (may.others j lt ne same.live);
  own = λ off. may_climb k after i own (may.own (sym head ∙ off));
}

-- ---- a part of a question

record Part (cpus i : ℕ) (k after : Kept) : Type 0 where
  local : after.locals i ≡ k.locals i
  completed : (after.state.numbers i).completed ≡ (k.state.numbers i).completed
  asks : MayAsk cpus i k → MayAsk cpus i after
  owed_no_more : entries_owed cpus after.state ≤ entries_owed cpus k.state

part_then : (cpus i : ℕ) (k mid after : Kept) → Part cpus i k mid → Part cpus i mid after → Part cpus i k
    after
part_then cpus i k mid after f g = record {
  local = g.local ∙ f.local;
  completed = g.completed ∙ f.completed;
  asks = λ may. g.asks (f.asks may);
  owed_no_more = omega (arith, f.owed_no_more, g.owed_no_more);
}

-- nobody's attempt ends, and nobody moves on the ladder
record Counts (i : ℕ) (k after : Kept) : Type 0 where
  locals : after.locals ≡ k.locals
  live : each (λ (n : Numbers). n.completed) after.state.numbers ≡ each (λ (n : Numbers). n.completed)
      k.state.numbers
  history : after.state.history ≡ k.state.history
  queue : after.state.queue ≡ k.state.queue
  rungs : (x : ℕ) → rung_of (after.standings x) ≡ rung_of (k.standings x)

counts_part : (cpus i : ℕ) (k after : Kept) → Counts i k after → Part cpus i k after
counts_part cpus i k after c =
    let same : (x : ℕ) → KeepsRung k after x =
    λ x. record { rung = c.rungs x; waits = ap (λ q. waits_in q x) c.queue } in
    record {
      local = ap (λ (f : ℕ → Local). f i) c.locals;
      completed = ap (λ (f : ℕ → ℕ). f i) c.live;
      asks = may_ask_still cpus i k after
          (λ x ne live. record {
            live = sym (ap (λ (f : ℕ → ℕ). nat_lt 0 (f x)) c.live) ∙ live;
            rung = same
                x;
          })
          (same i) (ap (is_first i) c.queue);
      owed_no_more = let e : entries_owed cpus after.state ≡ entries_owed cpus k.state =
          ap (λ h. length h + count_below cpus (is_live after.state)) c.history
          ∙ ap (λ (f : ℕ → ℕ). length k.state.history + count_below cpus (λ x. nat_lt 0 (f x))) c.live in
          omega (arith, e);
    }

abbrev completed_in : Numbers → ℕ
completed_in n = n.completed

-- ---- the parts

asking_part : (cpus i : ℕ) (k : Kept) → Part cpus i k (k_asking i k)
asking_part cpus i k =
    let n = k.state.numbers i in
    counts_part cpus i k (k_asking i k) record {
      locals = refl;
      live = read_as_is completed_in k.state.numbers i (record n { asked = n.asked + 1 }) refl;
      history = refl;
      queue = refl;
      rungs = λ x. refl;
    }

yielding_part : (cpus i : ℕ) (k : Kept) (j line : ℕ) (mode : Mode) → Part cpus i k (k_yielding j line mode k)
yielding_part cpus i k j line mode = counts_part cpus i k (k_yielding j line mode k) record {
  locals = refl;
  live = refl;
  history = refl;
  queue = refl;
  rungs = λ x. refl;
}

rejecting_part : (cpus i : ℕ) (k : Kept) (j : ℕ) → Part cpus i k (k_rejecting j k)
rejecting_part cpus i k j =
    let n = record (k.state.numbers j) { given = (rejecting (k.standings j)).rejects_given } in
    counts_part cpus i k (k_rejecting j k) record {
      locals = refl;
      live = read_as_is completed_in k.state.numbers j n refl;
      history = refl;
      queue = refl;
      rungs = at_put_kept rung_of k.standings j (rejecting (k.standings j)) refl;
    }

rung_rejected : (b : Bool) (s : Standing) → rung_of (if b then rejected s else s) ≡ rung_of s
rung_rejected true s = refl
rung_rejected false s = refl

rejected_part : (cpus i : ℕ) (k : Kept) → Part cpus i k (k_rejected i k)
rejected_part cpus i k =
    let live = is_live k.state i in
    let standing = k.standings i in
    let n = k.state.numbers i in
    let after = record n {
      rejected = n.rejected + 1;
      refused = if live then (rejected standing).requests_rejected else n.refused;
    } in
    counts_part cpus i k (k_rejected i k) record {
      locals = refl;
      live = read_as_is completed_in k.state.numbers i after refl;
      history = refl;
      queue = refl;
      rungs = at_put_kept rung_of k.standings i (if live then rejected standing else standing)
          (rung_rejected live standing);
    }

-- ---- the holder's attempt ends

-- where it is a conflict that ends it
record OnRung (j : ℕ) (s after : State) : Type 0 where
  numbers : (x : ℕ) → x ≢ j → after.numbers x ≡ s.numbers x
  completed : (after.numbers j).completed ≡ (s.numbers j).completed
  waits : (x : ℕ) → x ≢ j → waits_in after.queue x ≡ waits_in s.queue x
  head : (x : ℕ) → x ≢ j → is_first x after.queue ≡ is_first x s.queue
  held : after.held ≡ s.held

same_rung : (j : ℕ) (s : State) → OnRung j s s
same_rung j s = record {
  numbers = λ x ne. refl;
  completed = refl;
  waits = λ x ne. refl;
  head = λ x ne. refl;
  held = refl;
}

joined_waits : (q : List ℕ) (j x : ℕ) → x ≢ j → waits_in (q ++ j ∷ []) x ≡ waits_in q x
joined_waits q j x ne =
    list_any-append (λ k. k == x) q (j ∷ [])
    ∙ ap (λ b. waits_in q x || (b || false)) (ne_eqb j x (λ e. ne (sym e))) ∙ or-false (waits_in q x)

joined_head : (q : List ℕ) (j x : ℕ) → x ≢ j → is_first x (q ++ j ∷ []) ≡ is_first x q
joined_head [] j x ne = ne_eqb j x (λ e. ne (sym e))
joined_head (head ∷ rest) j x ne = refl

on_rung_is : (j : ℕ) (s : State) (next : Next) → OnRung j s (on_rung j next s)
on_rung_is j s Plain = same_rung j s
on_rung_is j s (Delay turns) =
    let n = record (s.numbers j) { delay = turns } in
    record {
      numbers = at_put_other s.numbers j n;
      completed = ap completed_in (at_put_same s.numbers j n);
      waits = λ x ne. refl;
      head = λ x ne. refl;
      held = refl;
    }
on_rung_is j s Queue = record {
  numbers = λ x ne. refl;
  completed = refl;
  waits = joined_waits s.queue j;
  head = joined_head s.queue j;
  held = refl;
}

rung_history : (j : ℕ) (s : State) (next : Next) → (on_rung j next s).history ≡ s.history
rung_history j s Plain = refl
rung_history j s (Delay turns) = refl
rung_history j s Queue = refl

-- one attempt fewer is live
one_fewer : (cpus j : ℕ) (s after : State) → j < cpus → is_live s j ≡ true → is_live after j ≡ false
    → ((x : ℕ) → x ≢ j → is_live after x ≡ is_live s x)
    → count_below cpus (is_live after) + 1 ≡ count_below cpus (is_live s)
one_fewer cpus j s after lt live gone others =
    let same : count_below cpus (is_live after) ≡ count_below cpus (but_at (is_live s) j false) =
    count_agree cpus (is_live after) (but_at (is_live s) j false)
    (λ x below. by_way (cases_eq x j)
    (λ e. ap (is_live after) e ∙ gone ∙ sym (but_at-same (is_live s) j false)
    ∙ ap (but_at (is_live s) j false) (sym e))
    (λ ne. others x ne ∙ sym (but_at-other (is_live s) j false x ne))) in
    let put = count_but_at cpus (is_live s) j false lt in
    let one : one_if (is_live s j) ≡ 1 = ap one_if live in
    omega arith

-- of what is kept, by the parts that change
record Ends (j : ℕ) (k after : Kept) : Type 0 where
  state : OnRung j (without_attempt j k.state) after.state
  written : length after.state.history ≡ length k.state.history + 1
  locals : (x : ℕ) → x ≢ j → after.locals x ≡ k.locals x
  standings : (x : ℕ) → x ≢ j → after.standings x ≡ k.standings x

other_number : (j : ℕ) (k after : Kept) → Ends j k after → (x : ℕ) → x ≢ j
    → after.state.numbers x ≡ k.state.numbers x
other_number j k after e x ne =
    e.state.numbers x ne ∙ at_put_other k.state.numbers j (record (k.state.numbers j) { completed = 0 }) x ne

none_completed : (j : ℕ) (k after : Kept) → Ends j k after → (after.state.numbers j).completed ≡ 0
none_completed j k after e =
    e.state.completed
    ∙ ap completed_in (at_put_same k.state.numbers j (record (k.state.numbers j) { completed = 0 }))

ends_part : (cpus i j : ℕ) (k after : Kept) → j ≢ i → j < cpus → is_live k.state j ≡ true → Ends j k after
    → Part cpus i k after
ends_part cpus i j k after ne lt live e =
    let own : i ≢ j = λ same. ne (sym same) in
    let same : (x : ℕ) → x ≢ j → KeepsRung k after x =
    λ x apart. record { rung = ap rung_of (e.standings x apart); waits = e.state.waits x apart } in
    let gone : is_live after.state j ≡ false = ap (nat_lt 0) (none_completed j k after e) in
    let still : (x : ℕ) → x ≢ j → is_live after.state x ≡ is_live k.state x =
    λ x apart. ap (λ (n : Numbers). nat_lt 0 n.completed) (other_number j k after e x apart) in
    record {
      local = e.locals i own;
      completed = ap completed_in (other_number j k after e i own);
      asks = may_ask_still cpus i k after
          (λ x apart on. by_way (cases_eq x j)
          (λ it. absurd (let n : false ≡ true = sym gone ∙ sym (ap (is_live after.state) it) ∙ on in cc))
          (λ other. record { live = sym (still x other) ∙ on; rung = same x other }))
          (same i own) (e.state.head i own);
      owed_no_more = omega (arith, one_fewer cpus j k.state after.state lt live gone still, e.written);
    }

-- the state that a conflict abort leaves, but for the entry
rung_with : (j : ℕ) (s after : State) (e : List Entry) → OnRung j s after
    → OnRung j s (record after { history = e })
rung_with j s after e r = record {
  numbers = r.numbers;
  completed = r.completed;
  waits = r.waits;
  head = r.head;
  held = r.held;
}

conflict_state : (j : ℕ) (k : Kept) → OnRung j (without_attempt j k.state)
    (on_rung j (next_rung (k.standings j)) (without_attempt j k.state))
conflict_state j k = on_rung_is j (without_attempt j k.state) (next_rung (k.standings j))

written_by : (j : ℕ) (k : Kept) (e : Entry)
    → length ((on_rung j (next_rung (k.standings j)) (without_attempt j k.state)).history ++ e ∷ [])
    ≡ length k.state.history + 1
written_by j k e =
    ap (λ h. length (h ++ e ∷ [])) (rung_history j (without_attempt j k.state) (next_rung (k.standings j)))
    ∙ length-append k.state.history (e ∷ [])

conflict_ends : (j : ℕ) (b : Bool) (line at : ℕ) (k : Kept)
    → Ends j k (k_aborting j (if b then StoreConflict line else FetchConflict line) at k)
unfolding k_aborting aborting
conflict_ends j true line at k = record {
  state = rung_with j (without_attempt j k.state) _ _ (conflict_state j k);
  written = written_by j k _;
  locals = at_put_other k.locals j _;
  standings = at_put_other k.standings j _;
}
conflict_ends j false line at k = record {
  state = rung_with j (without_attempt j k.state) _ _ (conflict_state j k);
  written = written_by j k _;
  locals = at_put_other k.locals j _;
  standings = at_put_other k.standings j _;
}

-- ---- the counts of one question

counted_fewer : (fewer most : ℕ) (n : Numbers) → fewer ≤ most → MayCount most n → MayCount fewer n
counted_fewer fewer most n le may = record {
  attempts = may.attempts;
  completed = may.completed;
  asked = omega (arith, may.asked);
}

record OneMore (n after : Numbers) : Type 0 where
  turns : after.turns ≡ n.turns
  attempts : after.attempts ≡ n.attempts
  completed : after.completed ≡ n.completed
  asked : after.asked ≡ n.asked + 1

one_counted : (n after : Numbers) → OneMore n after → (more : ℕ) → MayCount (more + 1) n → MayCount more after
one_counted n after o more may = record {
  attempts = omega (arith, o.attempts, o.turns, may.attempts);
  completed = omega (arith, o.completed, o.turns, may.completed);
  asked = omega (arith, o.asked, o.turns, may.asked);
}

-- where the asker's numbers are those with the question counted
asked_once : (n after : Numbers) → after ≡ record n { asked = n.asked + 1 } → OneMore n after
asked_once n after e = record {
  turns = ap (λ (n : Numbers). n.turns) e;
  attempts = ap (λ (n : Numbers). n.attempts) e;
  completed = ap (λ (n : Numbers). n.completed) e;
  asked = ap (λ (n : Numbers). n.asked) e;
}

asked_here : (i : ℕ) (k : Kept)
    → (k_asking i k).state.numbers i ≡ record (k.state.numbers i) { asked = (k.state.numbers i).asked + 1 }
asked_here i k = at_put_same k.state.numbers i (record (k.state.numbers i)
    { asked = (k.state.numbers i).asked + 1 })

rejected_once_more : (i j : ℕ) (k : Kept) → j ≢ i
    → OneMore (k.state.numbers i) ((k_rejected i (k_rejecting j (k_asking i k))).state.numbers i)
rejected_once_more i j k apart =
    let mid = k_rejecting j (k_asking i k) in
    let n = mid.state.numbers i in
    let here = at_put_same mid.state.numbers i (record n {
      rejected = n.rejected + 1;
      refused = if is_live mid.state i then (rejected (mid.standings i)).requests_rejected else n.refused;
    }) in
    let was : n ≡ record (k.state.numbers i) { asked = (k.state.numbers i).asked + 1 } =
    at_put_other (k_asking i k).state.numbers j _ i (λ e. apart (sym e)) ∙ asked_here i k in
    let before = asked_once (k.state.numbers i) n was in
    record {
      turns = ap (λ (n : Numbers). n.turns) here ∙ before.turns;
      attempts = ap (λ (n : Numbers). n.attempts) here ∙ before.attempts;
      completed = ap (λ (n : Numbers). n.completed) here ∙ before.completed;
      asked = ap (λ (n : Numbers). n.asked) here ∙ before.asked;
    }

-- ---- one question

leaves_by : (cpus n i : ℕ) (k after : Kept) → Part cpus i k after
    → ((more : ℕ) → MayCount (more + n) (k.state.numbers i) → MayCount more (after.state.numbers i))
    → AskLeaves cpus n i k after
leaves_by cpus n i k after p counts = record {
  local = p.local;
  completed = p.completed;
  asks = p.asks;
  owed_no_more = p.owed_no_more;
  counts = counts;
}

-- an answer that aborts is that of a live attempt, and for a conflict
pub record IsConflict (k : Kept) (j line : ℕ) (why : Why) : Type 0 where
  pub live : is_live k.state j ≡ true
  pub cause : why ≡ cause_at (kept_footprint k j).stored line

module _ (cpus i j : ℕ) (need : Need) (k : Kept) (apart : j ≢ i) (known : j < cpus) where
  abbrev mid : Kept
  mid = k_asking i k

  one_by : (a : Answer) → ((why : Why) → a ≡ Aborts why → IsConflict k j need.line why)
      → AskLeaves cpus 1 i k (k_by_answer i need j mid a).kept
  one_by Yields conflict =
      leaves_by cpus 1 i k (k_yielding j need.line need.mode mid)
      (part_then cpus i k mid _ (asking_part cpus i k) (yielding_part cpus i mid j need.line need.mode))
      (one_counted (k.state.numbers i) _ (asked_once (k.state.numbers i) _ (asked_here i k)))
  one_by Rejects conflict =
      leaves_by cpus 1 i k (k_rejected i (k_rejecting j mid))
      (part_then cpus i k mid _ (asking_part cpus i k)
      (part_then cpus i mid (k_rejecting j mid) _ (rejecting_part cpus i mid j)
      (rejected_part cpus i (k_rejecting j mid))))
      (one_counted (k.state.numbers i) _ (rejected_once_more i j k apart))
  one_by (Aborts why) conflict =
      let c = conflict why refl in
      let at = (k.locals j).attempt.cpu.address in
      let left = k_aborting j why at mid in
      let ends : Ends j mid left =
      subst (λ w. Ends j mid (k_aborting j w at mid)) (sym c.cause)
      (conflict_ends j ((kept_footprint k j).stored need.line) need.line at mid) in
      leaves_by cpus 1 i k (k_yielding j need.line need.mode left)
      (part_then cpus i k mid _ (asking_part cpus i k)
      (part_then cpus i mid left _
      (ends_part cpus i j mid left apart known (live_asking i k.state j ∙ c.live) ends)
      (yielding_part cpus i left j need.line need.mode)))
      (one_counted (k.state.numbers i) _ (asked_once (k.state.numbers i) _
      (other_number j mid left ends i (λ e. apart (sym e)) ∙ asked_here i k)))

-- ---- the answer

answered_by : (c firm : Bool) (stored : Lines) (line : ℕ) (why : Why)
    → (if not c then Yields else (if firm then Rejects else Aborts (cause_at stored line))) ≡ Aborts why
    → why ≡ cause_at stored line
answered_by false firm stored line why e = absurd (cc)
answered_by true true stored line why e = absurd (cc)
answered_by true false stored line why e = cc

reply_aborts : (live : Bool) (fetched stored : Lines) (st : Standing) (line : ℕ) (mode : Mode) (asker : Asker)
    (why : Why) → reply live fetched stored st line mode asker ≡ Aborts why
    → (live ≡ true) × (why ≡ cause_at stored line)
unfolding reply
reply_aborts false fetched stored st line mode asker why e = absurd (cc)
reply_aborts true fetched stored st line mode asker why e = (
  refl,
  answered_by (conflicts true fetched stored line mode) (may_hold_out st asker) stored line why e,
)

pub aborts_conflict : (k : Kept) (i j : ℕ) (need : Need) (why : Why)
    → k_reply k j need.line need.mode i ≡ Aborts why → IsConflict k j need.line why
unfolding k_reply
aborts_conflict k i j need why e =
    let p = reply_aborts (is_live k.state j) (kept_footprint k j).fetched (kept_footprint k j).stored
    (k.standings j) need.line need.mode (kept_asker k i) why e in
    record { live = p.0; cause = p.1 }

pub one_leaves : (cpus i j : ℕ) (need : Need) (k : Kept) → j ≢ i → j < cpus
    → AskLeaves cpus 1 i k (k_ask_one i need j k).kept
unfolding k_ask_one
one_leaves cpus i j need k apart known =
    one_by cpus i j need k apart known (k_reply k j need.line need.mode i)
    (λ why e. aborts_conflict k i j need why e)

-- ---- more questions

pub leaves_none : (cpus i : ℕ) (k : Kept) → AskLeaves cpus 0 i k k
leaves_none cpus i k = record {
  local = refl;
  completed = refl;
  asks = λ h. h;
  owed_no_more = omega arith;
  counts = λ more may. counted_fewer more (more + 0) (k.state.numbers i) (omega arith) may;
}

pub leaves_then : (cpus n more i : ℕ) (k mid after : Kept) → AskLeaves cpus n i k mid
    → AskLeaves cpus more i mid after → AskLeaves cpus (n + more) i k after
leaves_then cpus n more i k mid after f g = record {
  local = g.local ∙ f.local;
  completed = g.completed ∙ f.completed;
  asks = λ may. g.asks (f.asks may);
  owed_no_more = omega (arith, f.owed_no_more, g.owed_no_more);
  counts = λ c may. g.counts c (f.counts (c + more)
      (counted_fewer (c + more + n) (c + (n + more)) (k.state.numbers i) (omega arith) may));
}

pub leaves_at_most : (cpus n most i : ℕ) (k after : Kept) → n ≤ most → AskLeaves cpus n i k after
    → AskLeaves cpus most i k after
leaves_at_most cpus n most i k after le f = record {
  local = f.local;
  completed = f.completed;
  asks = f.asks;
  owed_no_more = f.owed_no_more;
  counts = λ c may. f.counts c (counted_fewer (c + n) (c + most) (k.state.numbers i) (omega arith) may);
}

-- ---- what one question says of holders and of the stop queue

pub abort_held : (j : ℕ) (why : Why) (at : ℕ) (k : Kept) → (k_aborting j why at k).state.held ≡ k.state.held
unfolding k_aborting aborting
abort_held j why at k = (ends_after j k.state (k.standings j) why).held

held_by : (i j : ℕ) (need : Need) (k : Kept) (a : Answer) → (k_by_answer i need j (k_asking i k) a).reject
    ≡ None
    → (k_by_answer i need j (k_asking i k) a).kept.state.held
    ≡ holding k.state.held j need.line (left_to need.mode)
held_by i j need k Yields e = refl
held_by i j need k Rejects e = absurd (cc)
held_by i j need k (Aborts why) e =
    ap (λ h. holding h j need.line (left_to need.mode))
    (abort_held j why (k.locals j).attempt.cpu.address (k_asking i k))

pub one_held : (i j : ℕ) (need : Need) (k : Kept) → (k_ask_one i need j k).reject ≡ None
    → (k_ask_one i need j k).kept.state.held ≡ holding k.state.held j need.line (left_to need.mode)
unfolding k_ask_one
one_held i j need k e = held_by i j need k (k_reply k j need.line need.mode i) e

firm_head : (c firm : Bool) (stored : Lines) (line : ℕ)
    → (if not c then Yields else (if firm then Rejects else Aborts (cause_at stored line))) ≡ Rejects
    → firm ≡ true
firm_head false firm stored line e = absurd (cc)
firm_head true true stored line e = refl
firm_head true false stored line e = absurd (cc)

rejects_head : (live : Bool) (fetched stored : Lines) (st : Standing) (line : ℕ) (mode : Mode) (asker : Asker)
    → reply live fetched stored st line mode asker ≡ Rejects → asker.head ≡ false
unfolding reply
rejects_head live fetched stored st line mode asker e =
    not_the_head st asker
    (firm_head (conflicts live fetched stored line mode) (may_hold_out st asker) stored line e)

head_by : (i j : ℕ) (need : Need) (k : Kept) (a : Answer) → (a ≡ Rejects → is_head k.state i ≡ false)
    → is_some (k_by_answer i need j (k_asking i k) a).reject ≡ true
    → is_head (k_by_answer i need j (k_asking i k) a).kept.state i ≡ false
head_by i j need k Yields head e = absurd (let n : false ≡ true = e in cc)
head_by i j need k Rejects head e = head refl
head_by i j need k (Aborts why) head e = absurd (let n : false ≡ true = e in cc)

-- nobody rejects a request of the head
pub one_head : (i j : ℕ) (need : Need) (k : Kept) → is_some (k_ask_one i need j k).reject ≡ true
    → is_head (k_ask_one i need j k).kept.state i ≡ false
unfolding k_ask_one k_reply
one_head i j need k e =
    head_by i j need k (k_reply k j need.line need.mode i)
    (λ rejects. rejects_head (is_live k.state j) (kept_footprint k j).fetched (kept_footprint k j).stored
    (k.standings j) need.line need.mode (kept_asker k i) rejects) e
