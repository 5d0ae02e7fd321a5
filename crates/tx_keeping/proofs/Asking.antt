-- Asking the holders of a line: the answers are those of the meaning, and what they leave.
use Rattle.std.proofs.Common.{◌≡◌, ◌≢◌, ℕ, zero, suc, ◌+◌, ◌/◌, ◌<◌, Bool, true, false, List, [], ◌∷◌, ◌++◌}
use Rattle.std.proofs.Common.{Option, Some, None, refl, sym, ap, subst, ◌∙◌, arith, ◌⊎◌, inl, inr}
use Rattle.std.proofs.Common.{append_assoc, append-nil, get_or, is_some}
use Rattle.std.specs.Prelude.{◌||◌, ◌&&◌, not, nat_lt, if◌then◌else◌, Contains, AllPairs}
use Rattle.std.proofs.lemmas.Bool.{cases_eq, or_right, or_left, or_cases, and_from}
use Rattle.std.proofs.lemmas.Bool.{not_from_false}
use borrow.Enum.Arm.{by_way}
use Rattle.tx_control.specs.declared.causes.Why.{Why}
use Rattle.tx_control.specs.declared.causes.Why.TheVariants.{StoreConflict, FetchConflict}
use Rattle.tx_footprint.specs.Sizes.{line_size}
use Rattle.tx_footprint.specs.Touched.{Sets, untouched}
use Rattle.tx_ladder.specs.Rungs.{Standing, rejecting, rejected, is_late}
use Rattle.tx_journal.specs.declared.entries.Entry.{Entry}
use Rattle.line_table.specs.declared.table.Mode.{Mode}
use Rattle.line_table.specs.declared.table.Mode.TheVariants.{Shared, Exclusive}
use Rattle.line_table.specs.Holders.{Holders, holding, against, is_against}
use Rattle.interrogate.specs.declared.kinds.Answer.{Answer}
use Rattle.interrogate.specs.declared.kinds.Answer.TheVariants.{Yields, Rejects, Aborts}
use Rattle.interrogate.specs.declared.kinds.Asker.{Asker}
use Rattle.interrogate.specs.Replies.{Lines, conflicts, may_hold_out, cause_at}
use Rattle.interrogate.specs.Replies as interrogate
use Rattle.tx_serial.specs.Attempt.{Run, footprint}
use Rattle.tx_serial.specs.Ending.{comes_from_outside}
use Rattle.tx_serial.specs.Flat.{at_put}
use Rattle.tx_serial.specs.Run.{run}
use Rattle.tx_serial.proofs.Entries.{at_put_same, at_put_other}
use Rattle.tx_progress.specs.Progress.{Progress}
use Rattle.tx_progress.proofs.Parts.{not_live}
use Rattle.tx_progress.specs.Local.{Local}
use Rattle.tx_progress.specs.Reached.{IsFollowed, progress_of}
use Rattle.tx_meaning.specs.declared.asking.Need.{Need}
use Rattle.tx_meaning.specs.declared.asking.Reject.{Reject}
use Rattle.tx_meaning.specs.Limits.{Setting}
use Rattle.tx_meaning.specs.Meaning.{IsSetting}
use Rattle.tx_meaning.specs.State.{State, Numbers, is_live, is_head, cpus_of, standing_of}
use Rattle.tx_meaning.specs.Changes.{asking, rejecting_one, rejected_once, yielding, aborting, left_to}
use Rattle.tx_meaning.specs.Asking.{Asked, reply, asker_of, by_answer, ask_one, unless_rejected, ask_each}
use Rattle.tx_keeping.specs.Kept.{Kept, kept_flat, kept_footprint, kept_asker, text_of, with_state}
use Rattle.tx_keeping.specs.Moves.{k_asking, k_rejecting, k_rejected, k_yielding, k_aborting}
use Rattle.tx_keeping.specs.Asking.{KAsked, k_reply, k_by_answer, k_ask_one, k_unless_rejected, k_ask_each}
use Rattle.tx_keeping.proofs.Truth.{TrueAt, Truth, Untouched, standing_is, footprint_is, unentered}
use Rattle.tx_keeping.proofs.Holding.{IsClear, yielding_holds, holding_case}
use Rattle.tx_keeping.proofs.Moves.{IsGood, restated, one_number, same_numbers, TrueOf, true_at}
use Rattle.tx_keeping.proofs.Moves.{rests_untouched, at_put_case}
use Rattle.line_table.proofs.Seen.{holding_here, holding_other_cpu}
use Rattle.tx_meaning.specs.Hits.{hits}
use Rattle.tx_keeping.proofs.Endings.{Ended, abort_ended, outside_fits, aborting_is}
use Rattle.tx_meaning.proofs.Replies.{conflicts_live}

-- as the meaning has it
abbrev pub state_of : KAsked → Asked
state_of q = record { state = q.kept.state; reject = q.reject }

-- ---- what asking leaves

-- a CPU's attempt is as it was, and storage too where it touched it
pub record Keeps (k after : Kept) (x : ℕ) : Type 0 where
  pub completed : (after.state.numbers x).completed ≡ (k.state.numbers x).completed
  pub local : after.locals x ≡ k.locals x
  pub bytes : (a : ℕ) → ((k.locals x).attempt.footprint.fetched (a / line_size)
      || (k.locals x).attempt.footprint.stored (a / line_size)) ≡ true → after.storage a ≡ k.storage a

pub keeps_untouched : (k after : Kept) (x : ℕ) → Untouched k after x → Keeps k after x
keeps_untouched k after x u = record {
  completed = ap (λ (n : Numbers). n.completed) u.numbers;
  local = u.local;
  bytes = u.bytes;
}

pub keeps_then : (k mid after : Kept) (x : ℕ) → Keeps k mid x → Keeps mid after x → Keeps k after x
keeps_then k mid after x f g = record {
  completed = g.completed ∙ f.completed;
  local = g.local ∙ f.local;
  bytes = λ a is. g.bytes a
      (ap (λ (l : Local). l.attempt.footprint.fetched (a / line_size)
      || l.attempt.footprint.stored (a / line_size)) f.local ∙ is) ∙ f.bytes a is;
}

pub keeps_restated : (k : Kept) (s : State) (x : ℕ) → (s.numbers x).completed ≡ (k.state.numbers x).completed
    → Keeps k (with_state s k) x
keeps_restated k s x e = record { completed = e; local = refl; bytes = λ a is. refl }

abbrev pub Grows : Kept → Kept → Type 0
Grows k after = (rest : List Entry) × (k.state.history ++ rest ≡ after.state.history)

pub grows_not : (k after : Kept) → after.state.history ≡ k.state.history → Grows k after
grows_not k after e = ([], append-nil k.state.history ∙ sym e)

pub grows_then : (k mid after : Kept) → Grows k mid → Grows mid after → Grows k after
grows_then k mid after f g =
    (f.0 ++ g.0, sym (append_assoc k.state.history f.0 g.0) ∙ ap (λ h. h ++ g.0) f.1 ∙ g.1)

-- the asker is as it was, and so is every attempt that is not ended
pub record AskKeeps (i : ℕ) (k after : Kept) : Type 0 where
  pub own : Keeps k after i
  pub each : (x : ℕ) → ((after.state.numbers x).completed ≡ 0) ⊎ Keeps k after x
  pub grows : Grows k after

pub asks_restated : (i : ℕ) (k : Kept) (s : State) → s.history ≡ k.state.history
    → ((x : ℕ) → (s.numbers x).completed ≡ (k.state.numbers x).completed) → AskKeeps i k (with_state s k)
asks_restated i k s history numbers = record {
  own = keeps_restated k s i (numbers i);
  each = λ x. inr (keeps_restated k s x (numbers x));
  grows = grows_not k (with_state s k) history;
}

pub asks_none : (i : ℕ) (k : Kept) → AskKeeps i k k
asks_none i k = asks_restated i k k.state refl (λ x. refl)

pub asks_then : (i : ℕ) (k mid after : Kept) → AskKeeps i k mid → AskKeeps i mid after → AskKeeps i k after
asks_then i k mid after f g = record {
  own = keeps_then k mid after i f.own g.own;
  each = λ x. by_way (g.each x) (λ gone. inl gone)
      (λ kept. by_way (f.each x) (λ gone. inl (kept.completed ∙ gone))
      (λ first. inr (keeps_then k mid after x first kept)));
  grows = grows_then k mid after f.grows g.grows;
}

-- ---- the answer

-- by whether there is a conflict, and whether it may hold out
abbrev pub answer_of : Bool → Bool → Lines → ℕ → Answer
answer_of c below stored line =
    if not c then Yields else (if below then Rejects else Aborts (cause_at stored line))

asker_is : (m : Setting) (k : Kept) (i : ℕ) (b : Bool) → Truth m k → is_live k.state i ≡ b
    → asker_of m k.state i ≡ kept_asker k i
asker_is m k i true t live =
    ap (λ st. record { head = is_head k.state i; late = is_live k.state i && is_late st })
    (standing_is m k t i live)
asker_is m k i false t live =
    ap (λ b. record { head = is_head k.state i; late = b && is_late (standing_of m k.state i) }) live
    ∙ sym (ap (λ b. record { head = is_head k.state i; late = b && is_late (k.standings i) }) live)

reply_by : (b : Bool) (fetched stored : Lines) (st other : Standing) (line : ℕ) (mode : Mode) (asker : Asker)
    → (b ≡ true → st ≡ other)
    → interrogate.reply b fetched stored st line mode asker ≡ interrogate.reply b fetched stored other line
    mode asker
unfolding interrogate.reply
reply_by true fetched stored st other line mode asker same =
    ap (λ st. interrogate.reply true fetched stored st line mode asker) (same refl)
reply_by false fetched stored st other line mode asker same = refl

pub reply_is : (m : Setting) (k : Kept) (j line : ℕ) (mode : Mode) (i : ℕ) → Truth m k
    → reply m k.state j line mode i ≡ k_reply k j line mode i
unfolding reply k_reply
reply_is m k j line mode i t =
    ap (λ (lines : Sets). interrogate.reply (is_live k.state j) lines.fetched lines.stored
    (standing_of m k.state j) line mode (asker_of m k.state i)) (footprint_is m k t j)
    ∙ reply_by (is_live k.state j) (kept_footprint k j).fetched (kept_footprint k j).stored
    (standing_of m k.state j) (k.standings j) line mode (asker_of m k.state i) (standing_is m k t j)
    ∙ ap (interrogate.reply (is_live k.state j) (kept_footprint k j).fetched (kept_footprint k j).stored
    (k.standings j) line mode) (asker_is m k i (is_live k.state i) t refl)

reply_parts : (k : Kept) (j line : ℕ) (mode : Mode) (i : ℕ)
    → k_reply k j line mode i
    ≡ answer_of (conflicts (is_live k.state j) (kept_footprint k j).fetched
    (kept_footprint k j).stored line mode)
    (may_hold_out (k.standings j) (kept_asker k i)) (kept_footprint k j).stored line
unfolding k_reply interrogate.reply
reply_parts k j line mode i = refl

-- ---- what a conflict says

conflict_touched : (b : Bool) (fetched stored : Lines) (line : ℕ) (mode : Mode)
    → conflicts b fetched stored line mode ≡ true → (fetched line || stored line) ≡ true
conflict_touched true fetched stored line Shared h = or_right (fetched line) (stored line) h
conflict_touched true fetched stored line Exclusive h = h
conflict_touched false fetched stored line mode h = let n : false ≡ true = h in absurd (cc)

no_conflict_stored : (fetched stored : Lines) (line : ℕ) (mode : Mode)
    → conflicts true fetched stored line mode ≡ false → stored line ≡ true → ⊥
no_conflict_stored fetched stored line Shared h s = let n : false ≡ true = sym h ∙ s in cc
no_conflict_stored fetched stored line Exclusive h s =
    let n : false ≡ true = sym h ∙ or_right (fetched line) (stored line) s in cc

no_conflict_fetched : (fetched stored : Lines) (line : ℕ) (mode : Mode)
    → conflicts true fetched stored line mode ≡ false → mode ≡ Exclusive → fetched line ≡ true → ⊥
no_conflict_fetched fetched stored line Shared h e s = cc
no_conflict_fetched fetched stored line Exclusive h e s =
    let n : false ≡ true = sym h ∙ or_left (fetched line) (stored line) s in cc

-- a CPU without an attempt has touched nothing
clear_untouched : (sets : Sets) (line : ℕ) (mode : Mode) → sets ≡ untouched → IsClear sets line mode
clear_untouched sets line mode e = record {
  not_stored = λ s. let n : false ≡ true = sym (ap (λ (s : Sets). s.stored line) e) ∙ s in cc;
  not_fetched = λ x s. let n : false ≡ true = sym (ap (λ (s : Sets). s.fetched line) e) ∙ s in cc;
}

pub not_live_untouched : (m : Setting) (k : Kept) (j : ℕ) → Truth m k → is_live k.state j ≡ false
    → kept_footprint k j ≡ untouched
not_live_untouched m k j t off =
    rests_untouched (kept_flat m k) j (k.locals j) (t.each j).followed
    (sym (t.each j).count ∙ not_live (k.state.numbers j).completed off)

no_conflict_clear : (m : Setting) (k : Kept) (j line : ℕ) (mode : Mode) (b : Bool) → Truth m k
    → is_live k.state j ≡ b
    → conflicts b (kept_footprint k j).fetched (kept_footprint k j).stored line mode ≡ false
    → IsClear (kept_footprint k j) line mode
no_conflict_clear m k j line mode true t live h = record {
  not_stored = no_conflict_stored (kept_footprint k j).fetched (kept_footprint k j).stored line mode h;
  not_fetched = no_conflict_fetched (kept_footprint k j).fetched (kept_footprint k j).stored line mode h;
}
no_conflict_clear m k j line mode false t live h =
    clear_untouched (kept_footprint k j) line mode (not_live_untouched m k j t live)

-- the cause fits
comes : (text : List ℕ) (p : Run) (line : ℕ) (b : Bool) → (footprint p).stored line ≡ b
    → ((footprint p).fetched line || (footprint p).stored line) ≡ true
    → comes_from_outside text p (if b then StoreConflict line else FetchConflict line) ≡ true
comes text p line true s touched = s
comes text p line false s touched =
    and_from ((footprint p).fetched line) (not ((footprint p).stored line))
    (by_way (or_cases ((footprint p).fetched line) ((footprint p).stored line) touched) (λ f. f)
    (λ t. let n : false ≡ true = sym s ∙ t in absurd (cc)))
    (not_from_false ((footprint p).stored line) s)

cause_comes : (m : Setting) (k : Kept) (j line : ℕ) → Truth m k
    → ((kept_footprint k j).fetched line || (kept_footprint k j).stored line) ≡ true
    → comes_from_outside (text_of m) (run (kept_flat m k) j (k.locals j).attempt.count)
    (cause_at (kept_footprint k j).stored line) ≡ true
unfolding progress_of
cause_comes m k j line t touched =
    let p = run (kept_flat m k) j (k.locals j).attempt.count in
    let same : footprint p ≡ kept_footprint k j =
    ap (λ (q : Progress). q.footprint) (t.each j).followed.attempt in
    subst (λ (sets : Sets). comes_from_outside (text_of m) p (cause_at sets.stored line) ≡ true) same
    (comes (text_of m) p line ((footprint p).stored line) refl
    (ap (λ (sets : Sets). sets.fetched line || sets.stored line) same ∙ touched))

-- ---- one holder

-- nobody holds more lines
abbrev pub Shrinks : Holders → Holders → Type 0
Shrinks held after = (x line : ℕ) → is_some (after x line) ≡ true → is_some (held x line) ≡ true

against_some : (mode : Mode) (h : Option Mode) → is_against mode h ≡ true → is_some h ≡ true
against_some mode None e = let n : false ≡ true = e in cc
against_some mode (Some other) e = refl

yielding_shrinks : (held : Holders) (j line : ℕ) (mode : Mode) → is_against mode (held j line) ≡ true
    → Shrinks held (holding held j line (left_to mode))
yielding_shrinks held j line mode against x b =
    holding_case held j line (left_to mode) x b (λ v. is_some v ≡ true → is_some (held x b) ≡ true)
    (λ e f is. ap (λ y. is_some (held y b)) e ∙ ap (λ c. is_some (held j c)) f
    ∙ against_some mode (held j line) against)
    (λ is. is)

-- what one question leaves, where it is asked of a CPU that stands against the request
pub record AskOk (m : Setting) (i j : ℕ) (need : Need) (k : Kept) (q : KAsked) : Type 0 where
  pub good : IsGood m q.kept
  pub keeps : AskKeeps i k q.kept
  pub clears : q.reject ≡ None → is_against need.mode (q.kept.state.held j need.line) ≡ false
  pub others : (x : ℕ) → x ≢ j → (line : ℕ) → q.kept.state.held x line ≡ k.state.held x line
  pub shrinks : Shrinks k.state.held q.kept.state.held

pub left_not_against : (mode : Mode) → is_against mode (left_to mode) ≡ false
left_not_against Shared = refl
left_not_against Exclusive = refl

yielding_clears : (held : Holders) (j line : ℕ) (mode : Mode)
    → is_against mode (holding held j line (left_to mode) j line) ≡ false
yielding_clears held j line mode =
    ap (is_against mode) (holding_here held j line (left_to mode)) ∙ left_not_against mode

yields_ok : (m : Setting) (i j : ℕ) (need : Need) (k : Kept) → IsGood m k
    → IsClear (kept_footprint k j) need.line need.mode
    → is_against need.mode (k.state.held j need.line) ≡ true
    → AskOk m i j need k (record { kept = k_yielding j need.line need.mode k; reject = None })
yields_ok m i j need k g clear against = record {
  good = record {
    truth = restated m k (yielding j need.line need.mode k.state) g.truth refl
        (λ x. same_numbers (k.state.numbers x));
    holds = yielding_holds (cpus_of m) k.state.held
        (kept_footprint k) j need.line need.mode g.holds clear against;
  };
  keeps = asks_restated i k (yielding j need.line need.mode k.state) refl (λ x. refl);
  clears = λ e. yielding_clears k.state.held j need.line need.mode;
  others = λ x ne line. holding_other_cpu k.state.held j need.line (left_to need.mode) x line ne;
  shrinks = yielding_shrinks k.state.held j need.line need.mode against;
}

-- the holder rejects
pub rejecting_good : (m : Setting) (s : IsSetting m) (k : Kept) (j : ℕ) → IsGood m k
    → IsGood m (k_rejecting j k)
rejecting_good m s k j g =
    let st = rejecting (k.standings j) in
    let n = record (k.state.numbers j) { given = st.rejects_given } in
    record {
      truth = unentered m s k (k_rejecting j k) j g.truth refl refl
          (λ x ne. record {
            numbers = at_put_other k.state.numbers j n x ne;
            local = refl;
            standing = at_put_other k.standings j st x ne;
            bytes = λ a is. refl;
          })
          (true_at m (k_rejecting j k) j n (k.locals j) st (at_put_same k.state.numbers j n) refl
          (at_put_same k.standings j st) (let t = g.truth.each j in record {
            count = t.count;
            followed = t.followed;
            parms = t.parms;
            aborts = t.aborts;
            kind = t.kind;
            given = refl;
            refused = t.refused;
          }));
      holds = g.holds;
    }

abbrev refused_numbers : Bool → Standing → Numbers → Numbers
refused_numbers live st n =
    record n {
      rejected = n.rejected + 1;
      refused = if live then
          (rejected st).requests_rejected else n.refused;
    }

rejected_true : (m : Setting) (k after : Kept) (i : ℕ) (live : Bool) → TrueAt m k i
    → kept_flat m after ≡ kept_flat m k → after.state.history ≡ k.state.history
    → TrueOf m after i (refused_numbers live (k.standings i) (k.state.numbers i)) (k.locals i)
    (if live then rejected (k.standings i) else k.standings i)
rejected_true m k after i true t flat history = record {
  count = t.count;
  followed = subst (λ f. IsFollowed f i (k.locals i)) (sym flat) t.followed;
  parms = t.parms;
  aborts = t.aborts ∙ sym (ap (λ h. hits m.image h i) history);
  kind = t.kind;
  given = t.given;
  refused = refl;
}
rejected_true m k after i false t flat history = record {
  count = t.count;
  followed = subst (λ f. IsFollowed f i (k.locals i)) (sym flat) t.followed;
  parms = t.parms;
  aborts = t.aborts ∙ sym (ap (λ h. hits m.image h i) history);
  kind = t.kind;
  given = t.given;
  refused = t.refused;
}

pub rejected_good : (m : Setting) (s : IsSetting m) (k : Kept) (i : ℕ) → IsGood m k
    → IsGood m (k_rejected i k)
rejected_good m s k i g =
    let live = is_live k.state i in
    let st = if live then rejected (k.standings i) else k.standings i in
    let n = refused_numbers live (k.standings i) (k.state.numbers i) in
    record {
      truth = unentered m s k (k_rejected i k) i g.truth refl refl
          (λ x ne. record {
            numbers = at_put_other k.state.numbers i n x ne;
            local = refl;
            standing = at_put_other k.standings i st x ne;
            bytes = λ a is. refl;
          })
          (true_at m (k_rejected i k) i n (k.locals i) st (at_put_same k.state.numbers i n) refl
          (at_put_same k.standings i st)
          (rejected_true m k (k_rejected i k) i live (g.truth.each i) refl refl));
      holds = g.holds;
    }

completed_put : (numbers : ℕ → Numbers) (i : ℕ) (n : Numbers) → n.completed ≡ (numbers i).completed → (x : ℕ)
    → (at_put numbers i n x).completed ≡ (numbers x).completed
completed_put numbers i n e x =
    at_put_case numbers i n x (λ n. n.completed ≡ (numbers x).completed)
    (λ same. e ∙ ap (λ y. (numbers y).completed) (sym same)) refl

rejects_ok : (m : Setting) (s : IsSetting m) (i j : ℕ) (need : Need) (k : Kept) → IsGood m k
    → AskOk m i j need k (record {
      kept = k_rejected i (k_rejecting j k);
      reject = Some record { by = j; line = need.line };
    })
rejects_ok m s i j need k g =
    let mid = k_rejecting j k in
    let completed : (x : ℕ) → ((k_rejected i mid).state.numbers x).completed ≡ (k.state.numbers x).completed =
    λ x. completed_put mid.state.numbers i _ refl x ∙ completed_put k.state.numbers j _ refl x in
    record {
      good = rejected_good m s mid i (rejecting_good m s k j g);
      keeps = record {
        own = record { completed = completed i; local = refl; bytes = λ a is. refl };
        each = λ x. inr record { completed = completed x; local = refl; bytes = λ a is. refl };
        grows = grows_not k (k_rejected i mid) refl;
      };
      clears = λ e. let n : Some record { by = j; line = need.line } ≡ None = e in absurd (cc);
      others = λ x ne line. refl;
      shrinks = λ x line is. is;
    }

-- the attempt of the holder is aborted
pub ended_keeps : (m : Setting) (s : IsSetting m) (i : ℕ) (k after : Kept) (j : ℕ) → j ≢ i
    → Ended m s k after j
    → AskKeeps i k after
ended_keeps m s i k after j ne e = record {
  own = keeps_untouched k after i (e.others i (λ same. ne (sym same)));
  each = λ x. by_way (cases_eq x j)
      (λ same. inl (ap (λ y. (after.state.numbers y).completed) same ∙ e.completed))
      (λ other. inr (keeps_untouched k after x (e.others x other)));
  grows = e.grows;
}

aborts_ok : (m : Setting) (s : IsSetting m) (i j : ℕ) (need : Need) (k : Kept) → IsGood m k → j ≢ i
    → is_against need.mode (k.state.held j need.line) ≡ true → is_live k.state j ≡ true
    → ((kept_footprint k j).fetched need.line || (kept_footprint k j).stored need.line) ≡ true
    → AskOk m i j need k (record {
      kept = k_yielding j need.line need.mode
          (k_aborting j (cause_at (kept_footprint k j).stored need.line) (k.locals j).attempt.cpu.address k);
      reject = None;
    })
aborts_ok m s i j need k g ne against live touched =
    let why = cause_at (kept_footprint k j).stored need.line in
    let mid = k_aborting j why (k.locals j).attempt.cpu.address k in
    let e = abort_ended m s k j why g live (outside_fits m k j why g.truth
    (cause_comes m k j need.line g.truth touched)) in
    let off : is_live mid.state j ≡ false = ap (nat_lt 0) e.completed in
    let y = yields_ok m i j need mid e.good
    (clear_untouched (kept_footprint mid j) need.line need.mode (not_live_untouched m mid j e.good.truth off))
    (ap (λ (h : Holders). is_against need.mode (h j need.line)) e.held ∙ against) in
    record {
      good = y.good;
      keeps = asks_then i k mid (k_yielding j need.line need.mode mid)
          (ended_keeps m s i k mid j ne e) y.keeps;
      clears = y.clears;
      others = λ x apart line. y.others x apart line ∙ ap (λ (h : Holders). h x line) e.held;
      shrinks = λ x line is. ap (λ (h : Holders). is_some (h x line)) (sym e.held) ∙ y.shrinks x line is;
    }

-- ---- the answer is that of the meaning

pub refused_is : (i : ℕ) (b : Bool) (st other : Standing) (s : State) → (b ≡ true → st ≡ other)
    → rejected_once i b st s ≡ rejected_once i b other s
refused_is i true st other s same = ap (λ st. rejected_once i true st s) (same refl)
refused_is i false st other s same = refl

rejects_is : (m : Setting) (i j : ℕ) (k : Kept) → Truth m k → j ≢ i → is_live k.state j ≡ true
    → rejected_once i (is_live k.state i) (standing_of m k.state i)
    (rejecting_one j (standing_of m k.state j) k.state)
    ≡ (k_rejected i (k_rejecting j k)).state
rejects_is m i j k t ne live =
    let apart : i ≢ j = λ e. ne (sym e) in
    let st = rejecting (k.standings j) in
    let n = record (k.state.numbers j) { given = st.rejects_given } in
    ap (λ st. rejected_once i (is_live k.state i) (standing_of m k.state i) (rejecting_one j st k.state))
    (standing_is m k t j live)
    ∙ refused_is i (is_live k.state i) (standing_of m k.state i) (k.standings i)
    (rejecting_one j (k.standings j) k.state) (standing_is m k t i)
    ∙ ap (λ n. rejected_once i (nat_lt 0 n.completed) (k.standings i) (rejecting_one j
    (k.standings j) k.state))
    (sym (at_put_other k.state.numbers j n i apart))
    ∙ ap (λ st. rejected_once i (is_live (k_rejecting j k).state i) st (rejecting_one j
    (k.standings j) k.state))
    (sym (at_put_other k.standings j st i apart))

pub live_aborting_is : (m : Setting) (j : ℕ) (why : Why) (at : ℕ) (k : Kept) → Truth m k
    → is_live k.state j ≡ true
    → aborting j (standing_of m k.state j) (k.state.numbers j).completed why k.state
    ≡ (k_aborting j why at k).state
live_aborting_is m j why at k t live =
    ap (λ st. aborting j st (k.state.numbers j).completed why k.state) (standing_is m k t j live)
    ∙ ap (λ n. aborting j (k.standings j) n why k.state) (t.each j).count
    ∙ sym (ap (λ (k : Kept). k.state) (aborting_is j why at k))

answered_is : (m : Setting) (i j : ℕ) (need : Need) (k : Kept) (c below : Bool) (stored : Lines) → Truth m k
    → j ≢ i
    → (c ≡ true → is_live k.state j ≡ true)
    → by_answer m i need j k.state (answer_of c below stored need.line)
    ≡ state_of (k_by_answer i need j k (answer_of c below stored need.line))
answered_is m i j need k false below stored t ne live = refl
answered_is m i j need k true true stored t ne live =
    ap (λ s. record { state = s; reject = Some record { by = j; line = need.line } })
    (rejects_is m i j k t ne (live refl))
answered_is m i j need k true false stored t ne live =
    ap (λ s. record { state = yielding j need.line need.mode s; reject = None })
    (live_aborting_is m j (cause_at stored need.line) (k.locals j).attempt.cpu.address k t (live refl))

answered_ok : (m : Setting) (s : IsSetting m) (i j : ℕ) (need : Need) (k : Kept) (c below : Bool)
    → IsGood m k → j ≢ i
    → is_against need.mode (k.state.held j need.line) ≡ true
    → conflicts (is_live k.state j) (kept_footprint k j).fetched
    (kept_footprint k j).stored need.line need.mode ≡ c
    → AskOk m i j need k (k_by_answer i need j k (answer_of c below (kept_footprint k j).stored need.line))
answered_ok m s i j need k false below g ne against h =
    yields_ok m i j need k g
    (no_conflict_clear m k j need.line need.mode (is_live k.state j) g.truth refl h) against
answered_ok m s i j need k true true g ne against h = rejects_ok m s i j need k g
answered_ok m s i j need k true false g ne against h =
    aborts_ok m s i j need k g ne against
    (conflicts_live (is_live k.state j) (kept_footprint k j).fetched
    (kept_footprint k j).stored need.line need.mode h)
    (conflict_touched (is_live k.state j) (kept_footprint k j).fetched (kept_footprint k j).stored need.line
    need.mode h)

-- ---- the question is counted

pub asking_good : (m : Setting) (i : ℕ) (k : Kept) → IsGood m k → IsGood m (k_asking i k)
asking_good m i k g = record {
  truth = restated m k (asking i k.state) g.truth refl
      (one_number k.state.numbers i _ record { completed = refl; given = refl; refused = refl });
  holds = g.holds;
}

asking_keeps : (i : ℕ) (k : Kept) → AskKeeps i k (k_asking i k)
asking_keeps i k = asks_restated i k (asking i k.state) refl (completed_put k.state.numbers i _ refl)

asking_live : (i j : ℕ) (k : Kept) → is_live (asking i k.state) j ≡ is_live k.state j
asking_live i j k = ap (nat_lt 0) (completed_put k.state.numbers i _ refl j)

-- ---- one question

pub record OneAsked (m : Setting) (i j : ℕ) (need : Need) (k : Kept) (q : KAsked) : Type 0 where
  pub is : ask_one m i need j k.state ≡ state_of q
  pub ok : AskOk m i j need k q

ask_by : (m : Setting) (s : IsSetting m) (i j : ℕ) (need : Need) (k : Kept) (a : Answer) (c below : Bool)
    → IsGood m k
    → j ≢ i → is_against need.mode (k.state.held j need.line) ≡ true
    → reply m k.state j need.line need.mode i ≡ a
    → a ≡ answer_of c below (kept_footprint k j).stored need.line
    → conflicts (is_live k.state j) (kept_footprint k j).fetched
    (kept_footprint k j).stored need.line need.mode ≡ c
    → OneAsked m i j need k (k_by_answer i need j (k_asking i k) a)
ask_by m s i j need k a c below g ne against is parts h =
    let mid = k_asking i k in
    let good = asking_good m i k g in
    let live = asking_live i j k in
    let h' : conflicts (is_live mid.state j) (kept_footprint k j).fetched
    (kept_footprint k j).stored need.line
    need.mode ≡ c = ap (λ b. conflicts b (kept_footprint k j).fetched (kept_footprint k j).stored need.line
    need.mode) live ∙ h in
    let ok = answered_ok m s i j need mid c below good ne against h' in
    let there : OneAsked m i j need k
    (k_by_answer i need j mid (answer_of c below (kept_footprint k j).stored need.line)) = record {
      is = ap (by_answer m i need j mid.state) (is ∙ parts)
          ∙ answered_is m i j need mid c below (kept_footprint k j).stored good.truth ne
          (λ e. conflicts_live (is_live mid.state j) (kept_footprint k j).fetched (kept_footprint k j).stored
          need.line need.mode (h' ∙ e));
      ok = record {
        good = ok.good;
        keeps = asks_then i k mid _ (asking_keeps i k) ok.keeps;
        clears = ok.clears;
        others = ok.others;
        shrinks = ok.shrinks;
      };
    } in
    subst (λ a. OneAsked m i j need k (k_by_answer i need j mid a)) (sym parts) there

pub one_asked : (m : Setting) (s : IsSetting m) (i j : ℕ) (need : Need) (k : Kept) → IsGood m k → j ≢ i
    → is_against need.mode (k.state.held j need.line) ≡ true → OneAsked m i j need k (k_ask_one i need j k)
unfolding k_ask_one
one_asked m s i j need k g ne against =
    ask_by m s i j need k (k_reply k j need.line need.mode i)
    (conflicts (is_live k.state j) (kept_footprint k j).fetched
    (kept_footprint k j).stored need.line need.mode)
    (may_hold_out (k.standings j) (kept_asker k i)) g ne against
    (reply_is m k j need.line need.mode i g.truth) (reply_parts k j need.line need.mode i) refl

-- ---- all who stand against the request

first_or_later : (j : ℕ) (rest : List ℕ) (x : ℕ) → Contains (j ∷ rest) x → (x ≡ j) ⊎ Contains rest x
first_or_later j rest x (zero, lt, e) = inl (sym e)
first_or_later j rest x (suc n, lt, e) = inr (n, omega (arith, lt), e)

later_is_there : (j : ℕ) (rest : List ℕ) (x : ℕ) → Contains rest x → Contains (j ∷ rest) x
later_is_there j rest x c = (suc c.0, omega (arith, c.1), c.2)

-- the list: no CPU twice, none is the asker, and all stand against the request
pub record AreAgainst (i : ℕ) (need : Need) (js : List ℕ) (held : Holders) : Type 0 where
  pub apart : AllPairs (λ x y. x < y) js
  pub others : (x : ℕ) → Contains js x → x ≢ i
  pub stand : (x : ℕ) → Contains js x → is_against need.mode (held x need.line) ≡ true

pub record AllAsked (m : Setting) (i : ℕ) (need : Need) (js : List ℕ) (k : Kept) (q : KAsked) : Type 0 where
  pub is : ask_each m i need js k.state ≡ state_of q
  pub good : IsGood m q.kept
  pub keeps : AskKeeps i k q.kept
  pub clears : q.reject ≡ None → (x : ℕ) → Contains js x
      → is_against need.mode (q.kept.state.held x need.line) ≡ false
  pub others : (x : ℕ) → (Contains js x → ⊥) → (line : ℕ) → q.kept.state.held x line ≡ k.state.held x line
  pub shrinks : Shrinks k.state.held q.kept.state.held

later_apart : (j : ℕ) (rest : List ℕ) (x : ℕ) → AllPairs (λ x y. x < y) (j ∷ rest) → Contains rest x → j < x
later_apart j rest x h c =
    let lt : j < get_or rest c.0 x = h zero (suc c.0) x (omega arith) (omega (arith, c.1)) in
    omega (arith, lt, c.2)

go_on : (m : Setting) (i j : ℕ) (need : Need) (rest : List ℕ) (k : Kept) (q : KAsked) (r : Option Reject)
    → q.reject ≡ r → AllPairs (λ x y. x < y) (j ∷ rest) → OneAsked m i j need k q
    → AllAsked m i need rest q.kept (k_ask_each i need rest q.kept)
    → AllAsked m i need (j ∷ rest) k (k_unless_rejected r q.kept (k_ask_each i need rest))
unfolding ask_each
go_on m i j need rest k q None none apart one all = record {
  is = ap (λ (a : Asked). unless_rejected a.reject a.state (ask_each m i need rest)) one.is
      ∙ ap (λ r. unless_rejected r q.kept.state (ask_each m i need rest)) none ∙ all.is;
  good = all.good;
  keeps = asks_then i k q.kept _ one.ok.keeps all.keeps;
  clears = λ e x c. by_way (first_or_later j rest x c)
      (λ same. ap (is_against need.mode)
      (all.others x (λ later. let lt = later_apart j rest x apart later in omega (arith, lt, same)) need.line)
      ∙ ap (λ y. is_against need.mode (q.kept.state.held y need.line)) same ∙ one.ok.clears none)
      (all.clears e x);
  others = λ x not line. all.others x (λ c. not (later_is_there j rest x c)) line
      ∙ one.ok.others x (λ same. not (0, omega arith, sym same)) line;
  shrinks = λ x line is. one.ok.shrinks x line (all.shrinks x line is);
}
go_on m i j need rest k q (Some r) some apart one all = record {
  is = ap (λ (a : Asked). unless_rejected a.reject a.state (ask_each m i need rest)) one.is
      ∙ ap (λ r. unless_rejected r q.kept.state (ask_each m i need rest)) some;
  good = one.ok.good;
  keeps = one.ok.keeps;
  clears = λ e x c. let n : Some r ≡ None = e in absurd (cc);
  others = λ x not line. one.ok.others x (λ same. not (0, omega arith, sym same)) line;
  shrinks = one.ok.shrinks;
}

pub all_asked : (m : Setting) (s : IsSetting m) (i : ℕ) (need : Need) (js : List ℕ) (k : Kept) → IsGood m k
    → AreAgainst i need js k.state.held → AllAsked m i need js k (k_ask_each i need js k)
unfolding ask_each k_ask_each
all_asked m s i need [] k g h = record {
  is = refl;
  good = g;
  keeps = asks_none i k;
  clears = λ e x c. absurd (omega (arith, c.1));
  others = λ x not line. refl;
  shrinks = λ x line is. is;
}
all_asked m s i need (j ∷ rest) k g h =
    let here : Contains (j ∷ rest) j = (0, omega arith, refl) in
    let one = one_asked m s i j need k g (h.others j here) (h.stand j here) in
    let q = k_ask_one i need j k in
    go_on m i j need rest k q q.reject refl h.apart one
    (all_asked m s i need rest q.kept one.ok.good record {
      apart = λ a b d lt within. h.apart (suc a) (suc b) d (omega (arith, lt)) (omega (arith, within));
      others = λ x c. h.others x (later_is_there j rest x c);
      stand = λ x c.
          let lt = later_apart j rest x h.apart c in
          let ne : x ≢ j = λ e. absurd (omega (arith, lt, e)) in
          ap (is_against need.mode) (one.ok.others x ne need.line) ∙ h.stand x (later_is_there j rest x c);
    })
