-- A turn changes bytes only in lines that attempts have stored into, and in those that the turn itself stores into.
use Rattle.std.proofs.Common.{◌≡◌, ℕ, ◌+◌, ◌/◌, ◌<◌, Bool, true, false, List, [], ◌∷◌, Option, Some, None, refl, sym, ap}
use Rattle.std.proofs.Common.{◌∙◌, subst}
use Rattle.std.specs.Prelude.{◌||◌, ◌&&◌, unwrap_or}
use Rattle.std.proofs.lemmas.Bool.{false_from_ne_true, or_from}
use Rattle.z_regs.specs.Cpu.{Cpu}
use Rattle.z_regs.specs.Absolute.{absolute_ranges}
use Rattle.z_regs.specs.Prefix.{is_prefix}
use Rattle.z_regs.specs.declared.ranges.Range.{Range}
use Rattle.z_regs.specs.declared.waiting.Waiting.{Waiting}
use Rattle.z_instr.specs.declared.instr.Instr.{Instr}
use Rattle.tx_control.specs.declared.causes.Why.{Why}
use Rattle.tx_control.specs.declared.causes.Why.TheVariants as why
use Rattle.tx_footprint.specs.Sizes.{line_size}
use Rattle.tx_footprint.specs.Places.{stores}
use Rattle.interrogate.specs.declared.kinds.Answer.{Answer}
use Rattle.interrogate.specs.declared.kinds.Answer.TheVariants.{Yields, Rejects, Aborts}
use Rattle.line_table.specs.Holders.{against}
use Rattle.tx_serial.specs.Fate.{Fate, Goes, Ends, Stops}
use Rattle.tx_serial.specs.Flat.{Pending}
use Rattle.tx_progress.specs.Local.{Local, Beside, aborted, block_stored, interruption_taken, taken_by}
use Rattle.tx_progress.specs.Doing.{Executed, executed, stopped}
use Rattle.tx_progress.specs.Progress.{seen_through}
use Rattle.tx_progress.specs.Trial.{fate_by_progress}
use Rattle.tx_progress.specs.declared.done.Done.{Done}
use Rattle.tx_progress.specs.declared.done.Done.TheVariants as done
use Rattle.tx_progress.proofs.Facts.{lasting_line, keeps_prefix}
use Rattle.tx_meaning.specs.Limits.{Setting}
use Rattle.tx_meaning.specs.Meaning.{IsSetting}
use Rattle.tx_meaning.specs.Needs.{stored, interruption_ranges}
use Rattle.tx_meaning.specs.State.{State, is_live, cpus_of}
use Rattle.tx_meaning.specs.declared.asking.Need.{Need}
use Rattle.tx_meaning.specs.declared.outcome.Outcome.{Outcome}
use Rattle.tx_machine.specs.Wanted.{real_ranges, operands_of, wanted_by}
use Rattle.tx_meaning.specs.declared.asking.Reject.{Reject}
use Rattle.tx_meaning.specs.Asking.{is_there}
use Rattle.tx_meaning.specs.Changes.{with_event, counting_turn}
use Rattle.tx_ladder.specs.Rungs.{is_starved}
use Rattle.tx_journal.specs.Image.{cpu_of_event}
use Rattle.tx_journal.specs.declared.events.Event.{Event}
use Rattle.tx_journal.specs.declared.events.Event.TheVariants as event
use Rattle.tx_keeping.specs.Kept.{Kept, kept_flat, text_of, with_state, with_beside, beside}
use Rattle.tx_keeping.specs.Moves.{k_asking, k_aborting}
use Rattle.tx_keeping.specs.Asking.{KAsked, k_by_answer, k_reply, k_ask_one, k_ask_each, k_unless_rejected}
use Rattle.tx_keeping.specs.Asking.{k_granting, k_get_unless, k_get_line, k_get_each, k_get_lines}
use Rattle.tx_keeping.specs.Turn.{KTurned, k_ends_by, k_refused_turn, k_once_given, k_with_lines, k_inside}
use Rattle.tx_keeping.specs.Turn.{k_outside, k_done, k_executing, k_attempting, k_acting, k_interrupting, k_external}
use Rattle.tx_keeping.specs.Turn.{k_storing_block, k_taking_interruption}
use Rattle.tx_keeping.specs.Turn.{k_by_rules, k_counted_turn, k_turn_where, k_turn, k_happen, k_idle, next_address}
use Rattle.tx_keeping.proofs.Asking.{Keeps}
use Rattle.tx_keeping.proofs.Endings.{aborting_after, ended_by}
use Rattle.tx_keeping.proofs.Getting.{lines_got}
use Rattle.tx_keeping.proofs.Moves.{IsGood, at_put_case, restated, one_number}
use Rattle.tx_keeping.proofs.Needed.{TouchesMore, executed_touches, block_changes, taking_changes, none_there}
use Rattle.tx_keeping.proofs.Truth.{Truth, kept_is}
use Rattle.tx_keeping.proofs.Turning.{own_fate}

-- at one address, and for some CPUs, of which all are meant where a byte is spoken of
module _ (m : Setting) (s : IsSetting m) (a : ℕ) (P : ℕ → Type 0) where
  abbrev line : ℕ
  line = a / line_size

  -- none of those CPUs has stored into the line, nor by NTSTG at the address
  record Clear (k : Kept) : Type 0 where
    stored : (j : ℕ) → P j → (k.locals j).attempt.footprint.stored line ≡ false
    lasting : (j : ℕ) → P j → (k.locals j).attempt.lasting a ≡ None

  -- the byte is the same, and none has stored into the line
  pub record Same (k after : Kept) : Type 0 where
    pub byte : ((j : ℕ) → P j) → after.storage a ≡ k.storage a
    pub stored : (j : ℕ) → P j → (after.locals j).attempt.footprint.stored line ≡ false

  record Still (k after : Kept) : Type 0 where
    byte : ((j : ℕ) → P j) → after.storage a ≡ k.storage a
    clear : Clear after

  still_none : (k : Kept) (st : State) → Clear k → Still k (with_state st k)
  still_none k st c = record {
    byte = λ all. refl;
    clear = record { stored = c.stored; lasting = c.lasting };
  }

  still_then : (k mid after : Kept) → Still k mid → Still mid after → Still k after
  still_then k mid after one two = record {
    byte = λ all. two.byte all ∙ one.byte all;
    clear = two.clear;
  }

  same_of : (k after : Kept) → Still k after → Same k after
  same_of k after t = record { byte = t.byte; stored = t.clear.stored }

  same_then : (k mid after : Kept) → Still k mid → Same mid after → Same k after
  same_then k mid after one two = record { byte = λ all. two.byte all ∙ one.byte all; stored = two.stored }

  good_clear : (k : Kept) → IsGood m k → ((j : ℕ) → P j → (k.locals j).attempt.footprint.stored line ≡ false)
      → Clear k
  good_clear k g off = record {
    stored = off;
    lasting = λ j p.
        let h = (g.truth.each j).followed in
        let kept = kept_is m s k g.truth in
        none_there ((k.locals j).attempt.lasting a) ((k.locals j).attempt.footprint.stored line) (off j p)
        (λ byte e. lasting_line (kept_flat m k) j a byte (k.locals j) h
        (ap (λ (c : Cpu). is_prefix c.prefix) (sym h.cpu) ∙ kept.prefixes j) e);
  }

  -- ---- an abort

  aborts_still : (j : ℕ) (w : Why) (at : ℕ) (k : Kept) → Clear k → Still k (k_aborting j w at k)
  unfolding k_aborting aborted
  aborts_still j w at k c = record {
    byte = λ all. ap (λ o. unwrap_or o (k.storage a)) (c.lasting j (all j));
    clear = record {
      stored = λ x p. at_put_case k.locals j _ x (λ l. l.attempt.footprint.stored line ≡ false) (λ same. refl)
          (c.stored x p);
      lasting = λ x p. at_put_case k.locals j _ x (λ l. l.attempt.lasting a ≡ None) (λ same. refl)
          (c.lasting x p);
    };
  }

  -- ---- questions

  answers_still : (i : ℕ) (need : Need) (j : ℕ) (k : Kept) (answer : Answer) → Clear k
      → Still k (k_by_answer i need j k answer).kept
  answers_still i need j k Yields c = record {
    byte = λ all. refl;
    clear = record { stored = c.stored; lasting = c.lasting };
  }
  answers_still i need j k Rejects c = record {
    byte = λ all. refl;
    clear = record { stored = c.stored; lasting = c.lasting };
  }
  answers_still i need j k (Aborts w) c =
      let t = aborts_still j w (k.locals j).attempt.cpu.address k c in
      record {
        byte = t.byte;
        clear = record { stored = t.clear.stored; lasting = t.clear.lasting };
      }

  one_still : (i : ℕ) (need : Need) (j : ℕ) (k : Kept) → Clear k → Still k (k_ask_one i need j k).kept
  unfolding k_ask_one
  one_still i need j k c =
      let t = answers_still i need j (k_asking i k) (k_reply k j need.line need.mode i)
      (record { stored = c.stored; lasting = c.lasting }) in
      record { byte = t.byte; clear = t.clear }

  unless_still : (r : Option Reject) (k mid : Kept) (next : Kept → KAsked) → Still k mid
      → (Clear mid → Still mid (next mid).kept) → Still k (k_unless_rejected r mid next).kept
  unless_still None k mid next one two = still_then k mid (next mid).kept one (two one.clear)
  unless_still (Some r) k mid next one two = one

  each_still : (i : ℕ) (need : Need) (js : List ℕ) (k : Kept) → Clear k → Still k (k_ask_each i need js k).kept
  unfolding k_ask_each
  each_still i need [] k c = record { byte = λ all. refl; clear = c }
  each_still i need (j ∷ rest) k c =
      let q = k_ask_one i need j k in
      unless_still q.reject k q.kept (k_ask_each i need rest) (one_still i need j k c)
      (each_still i need rest q.kept)

  take_still : (i : ℕ) (needs : List Need) (need : Need) (k : Kept) → Clear k
      → Still k (k_granting i needs need k)
  unfolding k_granting
  take_still i needs need k c = record {
    byte = λ all. refl;
    clear = record { stored = c.stored; lasting = c.lasting };
  }

  get_still : (b : Bool) (i : ℕ) (needs : List Need) (need : Need) (k : Kept) → Clear k
      → Still k (k_get_unless b m i needs need k).kept
  get_still true i needs need k c = record { byte = λ all. refl; clear = c }
  get_still false i needs need k c =
      let q = k_ask_each i need (against (cpus_of m) k.state.held i need.line need.mode) k in
      unless_still q.reject k q.kept (λ t. record { kept = k_granting i needs need t; reject = None })
      (each_still i need (against (cpus_of m) k.state.held i need.line need.mode) k c)
      (take_still i needs need q.kept)

  line_still : (i : ℕ) (needs : List Need) (need : Need) (k : Kept) → Clear k
      → Still k (k_get_line m i needs need k).kept
  unfolding k_get_line
  line_still i needs need k c = get_still (is_there need.mode (k.state.held i need.line)) i needs need k c

  lines_still : (i : ℕ) (needs rest : List Need) (k : Kept) → Clear k
      → Still k (k_get_each m i needs rest k).kept
  unfolding k_get_each
  lines_still i needs [] k c = record { byte = λ all. refl; clear = c }
  lines_still i needs (need ∷ rest) k c =
      let q = k_get_line m i needs need k in
      unless_still q.reject k q.kept (k_get_each m i needs rest) (line_still i needs need k c)
      (lines_still i needs rest q.kept)

  -- ---- what a CPU does once its lines are there

  ends_same : (i : ℕ) (w : Why) (at : ℕ) (k : Kept) → Clear k → Same k (k_ends_by i w at k).kept
  unfolding k_ends_by
  ends_same i w at k c = same_of k (k_aborting i w at k) (aborts_still i w at k c)

  refused_same : (b : Bool) (i : ℕ) (r : Reject) (k : Kept) → Clear k → Same k (k_refused_turn b i r k).kept
  unfolding k_ends_by
  refused_same false i r k c = record { byte = λ all. refl; stored = c.stored }
  refused_same true i r k c = same_of k _ (aborts_still i why.Starved (next_address k i) k c)

  -- a CPU that is left so
  put_same : (k : Kept) (i : ℕ) (b : Beside) (st : State) → Clear k
      → (((j : ℕ) → P j) → b.storage a ≡ k.storage a)
      → (P i → b.local.attempt.footprint.stored line ≡ false) → Same k (with_beside i b (with_state st k))
  put_same k i b st c byte off = record {
    byte = byte;
    stored = λ x p. at_put_case k.locals i b.local x (λ l. l.attempt.footprint.stored line ≡ false)
        (λ same. off (subst P same p)) (c.stored x p);
  }

  -- what an instruction leaves of a CPU and of storage
  record Left (k : Kept) (i : ℕ) (b : Beside) : Type 0 where
    byte : ((j : ℕ) → P j) → b.storage a ≡ k.storage a
    stored : P i → b.local.attempt.footprint.stored line ≡ false
    ended : ((j : ℕ) → P j) → seen_through b.local.attempt.lasting b.storage a ≡ k.storage a

  left_same : (k : Kept) (i : ℕ) (b : Beside) (st : State) → Clear k → Left k i b
      → Same k (with_beside i b (with_state st k))
  left_same k i b st c l = put_same k i b st c l.byte l.stored

  unchanged : (k : Kept) → Clear k → Same k k
  unchanged k c = record { byte = λ all. refl; stored = c.stored }

  left_ended : (k : Kept) (i at : ℕ) (w : Why) (b : Beside) → Clear k → Left k i b
      → Same k (ended_by i w at b k)
  unfolding aborted
  left_ended k i at w b c l = record {
    byte = l.ended;
    stored = λ x p. at_put_case k.locals i (aborted w at b).local x
        (λ l. l.attempt.footprint.stored line ≡ false) (λ same. refl) (c.stored x p);
  }

  inside_same : (i at : ℕ) (b : Beside) (k : Kept) (told : Done) → Clear k → Left k i b
      → Same k (k_inside i at b k told).kept
  unfolding k_ends_by
  inside_same i at b k done.Stepped c l = left_same k i b _ c l
  inside_same i at b k (done.Committed n) c l =
      let t = left_same k i b k.state c l in record { byte = t.byte; stored = t.stored }
  inside_same i at b k (done.Ended w) c l =
      subst (Same k) (sym (aborting_after i w at b k)) (left_ended k i at w b c l)
  inside_same i at b k done.Began c l = unchanged k c
  inside_same i at b k (done.Paused turns) c l = unchanged k c
  inside_same i at b k (done.Interrupted code) c l = unchanged k c

  outside_same : (i : ℕ) (b : Beside) (k : Kept) (told : Done) → Clear k → Left k i b
      → Same k (k_outside i b k told).kept
  outside_same i b k done.Began c l =
      let t = left_same k i b k.state c l in record { byte = t.byte; stored = t.stored }
  outside_same i b k done.Stepped c l = left_same k i b _ c l
  outside_same i b k (done.Paused turns) c l =
      let t = left_same k i b k.state c l in record { byte = t.byte; stored = t.stored }
  outside_same i b k (done.Interrupted code) c l = left_same k i b _ c l
  outside_same i b k (done.Committed n) c l = unchanged k c
  outside_same i b k (done.Ended w) c l = unchanged k c

  executing_same : (i : ℕ) (k : Kept) (instr : Instr) (ranges : List Range) → IsGood m k
      → fate_by_progress (text_of m) k.storage (k.locals i).attempt ≡ Goes instr ranges → Clear k
      → (P i → stores (absolute_ranges (k.locals i).attempt.cpu.prefix ranges) line ≡ false)
      → Same k (k_executing i instr ranges k).kept
  unfolding k_executing
  executing_same i k instr ranges g goes c off =
      let q = (k.locals i).attempt in
      let e = executed instr ranges (beside k i) in
      let t : TouchesMore q k.storage ranges e.after =
      executed_touches (text_of m) k.storage k.locals i instr ranges (kept_is m s k g.truth)
      (g.truth.each i).followed goes in
      let none : P i → (q.footprint.stored line || stores (absolute_ranges q.cpu.prefix ranges) line) ≡ false =
      λ p. or_from (q.footprint.stored line) (stores (absolute_ranges q.cpu.prefix ranges) line) (c.stored i p)
      (off p) in
      let l : Left k i e.after = record {
        byte = λ all. t.bytes a (none (all i));
        stored = λ p. false_from_ne_true (e.after.local.attempt.footprint.stored line) (λ is.
            let x : false ≡ true = sym (none p) ∙ t.stored line is in cc);
        ended = λ all. t.lasting a (none (all i));
      } in
      done_same (is_live k.state i) e l
    where
      done_same : (b : Bool) (e : Executed) → Left k i e.after → Same k (k_done b i e k).kept
      done_same true e l = inside_same i (next_address k i) e.after k e.told c l
      done_same false e l = outside_same i e.after k e.told c l

  -- ---- lines first

  once_same : (i : ℕ) (r : Option Reject) (k mid : Kept) (next : Kept → KTurned) → Still k mid
      → (Clear mid → Same mid (next mid).kept) → Same k (k_once_given i r mid next).kept
  once_same i None k mid next one two = same_then k mid _ one (two one.clear)
  once_same i (Some r) k mid next one two =
      same_then k mid _ one
      (refused_same (is_live mid.state i && is_starved (mid.standings i)) i r mid one.clear)

  with_lines_same : (i : ℕ) (k : Kept) (needs : List Need) (next : Kept → KTurned) → IsGood m k
      → i < cpus_of m → Clear k
      → ((mid : Kept) → IsGood m mid → Keeps k mid i → Clear mid → Same mid (next mid).kept)
      → Same k (k_with_lines m i needs k next).kept
  with_lines_same i k needs next g within c act =
      let q = k_get_lines m i needs k in
      let got = lines_got m s i needs needs k g within (λ n h. h) in
      once_same i q.reject k q.kept next (lines_still i needs needs k c)
      (λ clear. act q.kept got.good got.keeps.own clear)

  own_stores : (k mid : Kept) (i : ℕ) (ranges : List Range) → Keeps k mid i
      → (P i → stores (absolute_ranges (k.locals i).attempt.cpu.prefix ranges) line ≡ false)
      → P i → stores (absolute_ranges (mid.locals i).attempt.cpu.prefix ranges) line ≡ false
  own_stores k mid i ranges keeps off p =
      subst (λ (l : Local). stores (absolute_ranges l.attempt.cpu.prefix ranges) line ≡ false)
      (sym keeps.local) (off p)

  -- ---- the next instruction

  attempting_same : (i : ℕ) (k : Kept) (f : Fate) → IsGood m k → i < cpus_of m
      → fate_by_progress (text_of m) k.storage (k.locals i).attempt ≡ f → Clear k
      → (P i → stores (absolute_ranges (k.locals i).attempt.cpu.prefix (operands_of f)) line ≡ false)
      → Same k (k_attempting m i k f).kept
  unfolding stopped
  attempting_same i k (Goes instr ranges) g within is c off =
      with_lines_same i k _ (k_executing i instr ranges) g within c (λ mid good keeps clear.
      executing_same i mid instr ranges good (own_fate m s k mid i g.truth good.truth keeps ∙ is) clear
      (own_stores k mid i ranges keeps off))
  attempting_same i k (Ends w) g within is c off = ends_same i w (next_address k i) k c
  attempting_same i k (Stops e) g within is c off =
      put_same k i (record { local = stopped e (k.locals i); storage = k.storage }) _ c (λ all. refl) (λ p. refl)

  -- ---- a block, and an interruption

  settled_prefix : (k : Kept) (i : ℕ) → Truth m k → (k.locals i).attempt.cpu.prefix ≡ (k.locals i).cpu.prefix
  settled_prefix k i t = keeps_prefix (kept_flat m k) i (k.locals i) (t.each i).followed

  by_settled : (k : Kept) (i : ℕ) (ranges : List Range) → Truth m k
      → (P i → stores (absolute_ranges (k.locals i).attempt.cpu.prefix ranges) line ≡ false)
      → P i → stores (absolute_ranges (k.locals i).cpu.prefix ranges) line ≡ false
  by_settled k i ranges t off p =
      subst (λ prefix. stores (absolute_ranges prefix ranges) line ≡ false) (settled_prefix k i t) (off p)

  storing_same : (i : ℕ) (k : Kept) (b : Pending) → IsGood m k → i < cpus_of m → (k.locals i).pending ≡ Some b
      → Clear k
      → (P i → stores (absolute_ranges (k.locals i).attempt.cpu.prefix (stored b.address 256 ∷ [])) line ≡ false)
      → Same k (k_storing_block m i b k).kept
  unfolding block_stored
  storing_same i k b g within is c off =
      with_lines_same i k _ _ g within c (λ mid good keeps clear.
      let kept = kept_is m s mid good.truth in
      let there : (mid.locals i).pending ≡ Some b = ap (λ (l : Local). l.pending) keeps.local ∙ is in
      put_same mid i (block_stored (beside mid i)) _ clear
      (λ all. block_changes mid.storage mid.locals i b (kept.prefixes i) there (kept.blocks i b there).size a
      (by_settled mid i (stored b.address 256 ∷ []) good.truth
      (own_stores k mid i (stored b.address 256 ∷ []) keeps off) (all i)))
      (λ p. clear.stored i p))

  taken_stored : (o : Option Waiting) (w : Waiting) (b : Beside) → o ≡ Some w
      → (taken_by o b).local.attempt.footprint.stored line ≡ false
  taken_stored None w b is = let n : None ≡ Some w = is in cc
  taken_stored (Some v) w b is = refl

  taking_same : (i : ℕ) (k : Kept) (w : Waiting) → IsGood m k → i < cpus_of m → (k.locals i).waiting ≡ Some w
      → Clear k
      → (P i → stores (absolute_ranges (k.locals i).attempt.cpu.prefix (interruption_ranges w.block)) line ≡ false)
      → Same k (k_taking_interruption m i w k).kept
  unfolding interruption_taken
  taking_same i k w g within is c off =
      with_lines_same i k _ _ g within c (λ mid good keeps clear.
      let kept = kept_is m s mid good.truth in
      let there : (mid.locals i).waiting ≡ Some w = ap (λ (l : Local). l.waiting) keeps.local ∙ is in
      put_same mid i (interruption_taken (beside mid i)) _ clear
      (λ all. taking_changes mid.storage mid.locals i w (kept.prefixes i) there
      (λ bytes e. (kept.interruptions i w there).size bytes e) a
      (by_settled mid i (interruption_ranges w.block) good.truth
      (own_stores k mid i (interruption_ranges w.block) keeps off) (all i)))
      (λ p. taken_stored (mid.locals i).waiting w (beside mid i) there))

  acting_same : (i : ℕ) (k : Kept) (pending : Option Pending) (waiting : Option Waiting) → IsGood m k
      → i < cpus_of m → (k.locals i).pending ≡ pending → (k.locals i).waiting ≡ waiting → Clear k
      → (P i → stores (absolute_ranges (k.locals i).attempt.cpu.prefix (real_ranges pending waiting
      (fate_by_progress (text_of m) k.storage (k.locals i).attempt))) line ≡ false)
      → Same k (k_acting m i k pending waiting).kept
  acting_same i k (Some b) waiting g within is awaits c off = storing_same i k b g within is c off
  acting_same i k None (Some w) g within none awaits c off = taking_same i k w g within awaits c off
  acting_same i k None None g within none empty c off =
      attempting_same i k (fate_by_progress (text_of m) k.storage (k.locals i).attempt) g within refl c off

  -- ---- turns and events

  abbrev Off : ℕ → Kept → Type 0
  Off i k = P i → stores (wanted_by m k.storage (k.locals i)) line ≡ false

  interrupting_same : (b : Bool) (i : ℕ) (k : Kept) → Clear k → Same k (k_interrupting b i k).kept
  interrupting_same true i k c =
      let t = aborts_still i why.External (next_address k i) k c in
      record { byte = t.byte; stored = t.clear.stored }
  interrupting_same false i k c = record { byte = λ all. refl; stored = c.stored }

  external_same : (i : ℕ) (k : Kept) → Clear k → Same k (k_external i k).kept
  unfolding k_external
  external_same i k c = interrupting_same (is_live k.state i) i k c

  rules_same : (tick waits : Bool) (i : ℕ) (k : Kept) → IsGood m k → i < cpus_of m → Clear k → Off i k
      → Same k (k_by_rules tick waits m i k).kept
  unfolding wanted_by
  rules_same true waits i k g within c off = external_same i k c
  rules_same false true i k g within c off = record { byte = λ all. refl; stored = c.stored }
  rules_same false false i k g within c off =
      acting_same i k (k.locals i).pending (k.locals i).waiting g within refl refl c off

  counted_same : (i : ℕ) (k : Kept) → IsGood m k → i < cpus_of m → Clear k → Off i k
      → Same k (k_counted_turn m i k).kept
  unfolding k_counted_turn
  counted_same i k g within c off = rules_same _ _ i k g within c off

  turn_where_same : (o : Option Outcome) (i : ℕ) (k : Kept) → IsGood m k → i < cpus_of m → Clear k → Off i k
      → Same k (k_turn_where o m i k).kept
  turn_where_same (Some o) i k g within c off = unchanged k c
  turn_where_same None i k g within c off =
      let counted = with_event (event.Turn i) (counting_turn i k.state) in
      let n = record (k.state.numbers i) { turns = (k.state.numbers i).turns + 1 } in
      let same = one_number k.state.numbers i n record { completed = refl; given = refl; refused = refl } in
      let t = counted_same i (with_state counted k)
      (record { truth = restated m k counted g.truth refl same; holds = g.holds }) within
      (record { stored = c.stored; lasting = c.lasting }) off in
      record { byte = t.byte; stored = t.stored }

  pub happens_same : (e : Event) (k : Kept) → IsGood m k → cpu_of_event e < cpus_of m
      → ((j : ℕ) → P j → (k.locals j).attempt.footprint.stored line ≡ false) → Off (cpu_of_event e) k
      → Same k (k_happen m e k).kept
  unfolding k_happen k_turn
  happens_same (event.Turn i) k g within clear off =
      turn_where_same (k_idle m k i) i k g within (good_clear k g clear) off
  happens_same (event.External i) k g within clear off =
      let c = good_clear k g clear in
      let t = external_same i (with_state (with_event (event.External i) k.state) k)
      (record { stored = c.stored; lasting = c.lasting }) in
      record { byte = t.byte; stored = t.stored }
