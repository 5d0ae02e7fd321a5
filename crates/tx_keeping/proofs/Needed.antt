-- What is needed of one CPU beside storage: its fate by what is kept, what each entry makes of it, and that it
-- stays followed where nothing that it has touched changes.
use Rattle.std.proofs.Common.{◌≡◌, ℕ, zero, suc, ◌+◌, ◌/◌, Bool, true, false, List, [], ◌∷◌, Option}
use Rattle.std.proofs.Common.{Some}
use Rattle.std.proofs.Common.{None, refl, sym, ap, ◌∙◌, is_some, length}
use Rattle.std.specs.Prelude.{◌||◌, ◌⊎◌}
use Rattle.z_regs.specs.Absolute.{absolute_ranges}
use Rattle.z_regs.specs.declared.ranges.Range.{Range}
use Rattle.z_regs.specs.declared.waiting.Waiting.{Waiting}
use Rattle.z_instr.specs.declared.instr.Instr.{Instr}
use Rattle.z_instr.specs.Table.{entry_at}
use Rattle.z_instr.specs.Roles.{begins}
use Rattle.tx_control.specs.declared.causes.Why.{Why}
use Rattle.tx_control.specs.declared.exceptions.Exception.{Exception}
use Rattle.tx_footprint.specs.Sizes.{line_size}
use Rattle.tx_footprint.specs.Places.{fetches, stores}
use Rattle.tx_footprint.specs.Touched.{Sets}
use Rattle.tx_journal.specs.declared.entries.Entry.{Entry}
use Rattle.tx_journal.specs.declared.entries.Entry.TheVariants.{Step, Commit, Abort, Tdb, Interrupt}
use Rattle.tx_serial.specs.Flat.{FlatState, Storage, Pending, at_put}
use Rattle.tx_serial.specs.Attempt.{Run, Open, Committed, Overflowed, Missing}
use Rattle.tx_serial.specs.Alike.{track_of}
use Rattle.tx_serial.specs.Fate.{Goes, Stops, fate}
use Rattle.tx_serial.specs.Run.{run}
use Rattle.tx_serial.specs.Apply.{apply, may_act, is_running}
use Rattle.tx_serial.specs.Ending.{ending, fits}
use Rattle.tx_serial.specs.Text.{IsKept, SameText}
use Rattle.tx_progress.specs.Progress.{Progress, is_live, seen_through}
use Rattle.tx_progress.specs.Local.{Local, Beside, flat_from, aborted, block_stored, interruption_taken}
use Rattle.tx_progress.specs.Doing.{Executed, executed, stopped}
use Rattle.tx_progress.specs.Trial.{fate_by_progress}
use Rattle.tx_progress.specs.Reached.{IsFollowed}
use Rattle.tx_control.specs.Nesting.{is_constrained}
use Rattle.tx_journal.specs.Content.{Content}
use Rattle.tx_journal.specs.Image.{IsImage}
use Rattle.tx_serial.specs.History.{replay}
use Rattle.tx_meaning.specs.Hits.{tries_constrained}
use Rattle.tx_meaning.specs.Needs.{stored, interruption_ranges}
use Rattle.z_regs.specs.Prefix.{is_prefix}
use Rattle.z_regs.specs.declared.image.RunState.TheVariants.{Interrupted}
use Rattle.tx_progress.specs.declared.done.Done.{Done}
use Rattle.tx_progress.specs.declared.done.Done.TheVariants as done
use Rattle.std.proofs.Common.{subst, arith}
use Rattle.std.specs.Prelude.{unwrap_or}
use Rattle.z_regs.specs.Cpu.{Cpu}
use Rattle.z_regs.specs.Psw.{psw_of}
use Rattle.z_regs.specs.Prefix.{absolute_of}
use Rattle.z_instr.specs.Access.{lies_in}
use Rattle.z_effect.specs.Outcome.{Outcome, Did, Divides, Aborts}
use Rattle.z_effect.specs.Outcome as outcome
use Rattle.tx_serial.specs.Alike.{AgreeInText}
use Rattle.tx_serial.specs.Apply.{identification, old_psw, new_psw, interruption_block, identified}
use Rattle.tx_serial.specs.Apply.{with_block}
use Rattle.tx_serial.specs.Flat.{with_bytes_at}
use Rattle.tx_serial.proofs.Frame.{run_alike, fate_alike, with_its_copy}
use Rattle.tx_serial.proofs.TextStays.{copy_keeps_text, has_prefix}
use Rattle.tx_serial.proofs.TextKept.{psw_size}
use Rattle.tx_progress.specs.Followed as followed
use Rattle.tx_progress.specs.Progress.{resting}
use Rattle.tx_progress.specs.Local.{storage_with, taken_by}
use Rattle.tx_progress.specs.Doing.{outside, executed_where}
use Rattle.tx_progress.specs.Trial.{outcome_by}
use Rattle.tx_progress.proofs.OneMore.{open_is_there}
use Rattle.tx_progress.proofs.Alike.{followed_by_lines, its_footprint}
use Rattle.tx_progress.proofs.Lines.{touched_lines, text_there}
use Rattle.tx_progress.proofs.Parts.{followed_fate, rests}
use Rattle.tx_progress.proofs.Facts.{lasting_line}
use Rattle.tx_progress.proofs.Leaving.{aborted_rests, quiet_with_block, interruption_leaves, stop_leaves}
use Rattle.tx_progress.proofs.Leaving as leaving
use Rattle.tx_progress.proofs.Moving.{begin_leaves, step_leaves, going_leaves, commit_leaves}
use Rattle.tx_keeping.proofs.Stores.{ChangesIn, bytes_change, first_stores, in_line, laid_elsewhere}
use Rattle.tx_keeping.proofs.Stores.{laying_elsewhere, operands_elsewhere}
use Rattle.std.proofs.lemmas.Bool.{or_left, or_parts}
use Rattle.std.specs.Prelude.{if◌then◌else◌, ◌≤◌}
use Rattle.std.proofs.Common.{inl, inr}
use Rattle.z_effect.specs.One.{length_of}
use Rattle.z_effect.specs.After.{exception}
use Rattle.tx_progress.proofs.Rows.{role_done}
use Rattle.z_instr.specs.Roles.{is_end}
use Rattle.tx_control.specs.declared.begins.Begin.{Begin}
use Rattle.tx_control.specs.Codes.{fixed_point_overflow_code}
use Rattle.tx_serial.specs.Overlay.{Store}
use Rattle.tx_serial.specs.Ending.{outcome_cause}
use Rattle.tx_serial.specs.Fate.{cause_in}
use Rattle.tx_serial.specs.Flat.{operand_bytes, operand_stores, laid_over}
use Rattle.tx_serial.specs.Run.{after, overflowed, with_instruction, mark_in, outcome_of, lasting_of}
use Rattle.z_instr.specs.Roles.{stores_lastingly}
use Rattle.tx_serial.proofs.Passing.{passes}
use Rattle.tx_serial.proofs.StoredBytes.{Fills, stored_size}
use Rattle.tx_serial.proofs.StoredPlaces.{filled, small_operands, AreSmall, goes_there}
use Rattle.tx_progress.specs.Doing.{inside, closed_by, going_on, committed, moved_to, stores_of}
use Rattle.tx_progress.proofs.OneMore.{run_after}
use Rattle.tx_progress.proofs.Parts.{followed_outcome, live_follows}
use Rattle.tx_progress.proofs.Moving.{next_of, one_more, executed_is, executed_live}
use Rattle.tx_progress.proofs.Endings.{open_ending, over_ending, over_progress, its_nest, ended_leaves}
use Rattle.tx_progress.proofs.Facts.{stored_line, keeps_prefix}
use Rattle.tx_progress.proofs.OneMore.{went}
use Rattle.tx_progress.specs.Reached.{progress_of}
use Rattle.tx_progress.specs.Trial.{fetched}
use Rattle.tx_serial.specs.Run.{nest_after}
use Rattle.z_effect.specs.Beginning.{begin_of}
use Rattle.std.proofs.Common.{◌++◌, ◌-◌, take}
use Rattle.std.specs.Prelude.{nat_lt}
use borrow.Enum.Arm.{by_way}
use Rattle.tx_keeping.proofs.Awaited.{replay_awaits, awaits_at}

-- ---- one CPU among others

abbrev pub flat_with : List ℕ → (ℕ → Local) → ℕ → Beside → FlatState
flat_with text locals i b = flat_from text b.storage (at_put locals i b.local)

abbrev pub side : Storage → (ℕ → Local) → ℕ → Beside
side storage locals i = record { local = locals i; storage = storage }

-- an entry leaves this of the CPU and of storage, and what is left of the CPU is followed
pub record Leaves (text : List ℕ) (storage : Storage) (locals : ℕ → Local) (i : ℕ) (e : Entry) (b : Beside)
    : Type 0 where
  pub applies : apply (flat_from text storage locals) e ≡ Some (flat_with text locals i b)
  pub followed : IsFollowed (flat_with text locals i b) i b.local
  pub rests : b.local.attempt.count ≡ 0

at_rest : (text : List ℕ) (storage : Storage) (locals : ℕ → Local) (i : ℕ) (e : Entry) (b : Beside)
    → followed.Leaves text storage locals i e b → b.local.attempt ≡ resting b.local.cpu
    → Leaves text storage locals i e b
at_rest text storage locals i e b l rest =
    record { applies = l.applied; followed = l.followed; rests = ap (λ (q : Progress). q.count) rest }

-- ---- the fate

pub fate_followed : (f : FlatState) (i : ℕ) (local : Local) → IsKept f → IsFollowed f i local
    → fate f.text (run f i local.attempt.count) ≡ fate_by_progress f.text f.storage local.attempt
fate_followed f i local kept h = followed_fate f i local h

-- ---- a CPU of which nothing changes

pub record StaysFollowed (f g : FlatState) (i : ℕ) (local : Local) : Type 0 where
  pub followed : IsFollowed g i local
  pub track : track_of (run g i local.attempt.count) ≡ track_of (run f i local.attempt.count)

pub stays_followed : (f g : FlatState) (i : ℕ) (local : Local) → IsKept f → IsFollowed f i local
    → g.text ≡ f.text → SameText f.text f.storage g.storage → g.cpus i ≡ f.cpus i
    → g.pending i ≡ f.pending i → g.waiting i ≡ f.waiting i
    → ((a : ℕ) → (local.attempt.footprint.fetched (a / line_size)
    || local.attempt.footprint.stored (a / line_size)) ≡ true → g.storage a ≡ f.storage a)
    → StaysFollowed f g i local
stays_followed f g i local kept h text same cpu pending waiting bytes =
    let n = local.attempt.count in
    let prefix = (f.cpus i).prefix in
    let exists = open_is_there (run f i n).mark h.opens in
    record {
      followed = followed_by_lines f g i local h (kept.prefixes i) record {
        cpu = cpu;
        pending = pending;
        waiting = waiting;
        pages = text;
        text = same;
        lines = bytes;
      };
      track = run_alike f g i n record {
        cpu = cpu;
        pages = text;
        text = λ a is. same (absolute_of prefix a) (text_there prefix f.text a (kept.prefixes i) is);
        touched = λ a is. bytes (absolute_of prefix a)
            (ap (λ (sets : Sets). sets.fetched (absolute_of prefix a / line_size)
            || sets.stored (absolute_of prefix a / line_size)) (sym (its_footprint f i local h))
            ∙ touched_lines f i n a (kept.prefixes i) exists is);
      };
    }

-- its fate depends on the bytes of the text alone
pub fate_stays : (f g : FlatState) (i : ℕ) (local : Local) → IsKept f → IsKept g → IsFollowed f i local
    → StaysFollowed f g i local → g.text ≡ f.text → SameText f.text f.storage g.storage
    → fate_by_progress g.text g.storage local.attempt ≡ fate_by_progress f.text f.storage local.attempt
fate_stays f g i local kept also h stays pages same =
    let n = local.attempt.count in
    let p = run f i n in
    let q = run g i n in
    let agree : AgreeInText p.cpu.prefix f.text p.copy q.copy = λ a is.
    let at = absolute_of p.cpu.prefix a in
    let there = text_there p.cpu.prefix f.text a (has_prefix f i n (kept.prefixes i)) is in
    copy_keeps_text g i n (also.prefixes i) at (ap (λ t. lies_in t at) pages ∙ there)
    ∙ same at there
    ∙ sym (copy_keeps_text f i n (kept.prefixes i) at there) in
    sym (followed_fate g i local stays.followed)
    ∙ ap (λ t. fate t q) pages
    ∙ ap (fate f.text) (with_its_copy p q stays.track)
    ∙ fate_alike f.text p q.copy agree
    ∙ followed_fate f i local h

-- ---- the kind of an attempt

-- a run that is open behind its first instruction has an open begin
open_nest : (f : FlatState) (i n : ℕ) → (run f i (suc n)).mark ≡ Open → mark_in (run f i (suc n)).nest ≡ Open
open_nest f i n opens =
    let w = went f i n (open_is_there (run f i (suc n)).mark opens) in
    ap (λ (r : Run). mark_in r.nest) w.is
    ∙ by_way w.outcome (λ did. sym did.1 ∙ opens)
    (λ over. absurd (let x : Overflowed ≡ Open = sym over.1 ∙ opens in cc))

taken_kind : (b : Begin) (bs : List Begin) (k : ℕ) → mark_in (take k (b ∷ bs)) ≡ Open
    → b.constrained ≡ is_constrained (take k (b ∷ bs))
taken_kind b bs zero opens = absurd (let x : Committed ≡ Open = opens in cc)
taken_kind b bs (suc k) opens = refl

kind_by_roles : (b : Begin) (bs more : List Begin) (begin end : Bool) (k : ℕ)
    → mark_in (if begin then (b ∷ bs) ++ more else if end then take k (b ∷ bs) else b ∷ bs) ≡ Open
    → b.constrained ≡ is_constrained (if begin then (b ∷ bs) ++ more else if end then take k
    (b ∷ bs) else b ∷ bs)
kind_by_roles b bs more true end k opens = refl
kind_by_roles b bs more false true k opens = taken_kind b bs k opens
kind_by_roles b bs more false false k opens = refl

kind_after : (instr : Instr) (general : List ℕ) (nest : List Begin) → mark_in nest ≡ Open
    → mark_in (nest_after instr general nest) ≡ Open
    → is_constrained nest ≡ is_constrained (nest_after instr general nest)
kind_after instr general [] some opens = absurd (let x : Committed ≡ Open = some in cc)
kind_after instr general (b ∷ bs) some opens =
    kind_by_roles b bs (begin_of instr general ∷ []) (begins (entry_at instr.op.number))
    (is_end (entry_at instr.op.number)) (length (b ∷ bs) - 1) opens

same_kind : (f : FlatState) (i n : ℕ) → (run f i (suc n)).mark ≡ Open
    → is_constrained (run f i 1).nest ≡ is_constrained (run f i (suc n)).nest
same_kind f i zero opens = refl
same_kind f i (suc n) opens =
    let w = went f i (suc n) (open_is_there (run f i (suc (suc n))).mark opens) in
    let p = run f i (suc n) in
    let nest = ap (λ (r : Run). r.nest) w.is in
    same_kind f i n w.opens
    ∙ kind_after w.instruction p.cpu.general p.nest (open_nest f i n w.opens)
    (ap mark_in (sym nest) ∙ open_nest f i (suc n) opens)
    ∙ ap is_constrained (sym nest)

kind_by : (f : FlatState) (i : ℕ) (local : Local) (n : ℕ) → local.attempt.count ≡ n → IsFollowed f i local
    → is_live local.attempt ≡ true → tries_constrained f i ≡ is_constrained local.attempt.nest
unfolding progress_of
kind_by f i local zero e h live = absurd (let x : false ≡ true = sym (ap (nat_lt 0) e) ∙ live in cc)
kind_by f i local (suc n) e h live =
    same_kind f i n (sym (ap (λ k. (run f i k).mark) e) ∙ h.opens)
    ∙ ap (λ k. is_constrained (run f i k).nest) (sym e)
    ∙ ap (λ (q : Progress). is_constrained q.nest) h.attempt

-- it is that of the begin
pub kind_is : (f : FlatState) (i : ℕ) (local : Local) → IsFollowed f i local → is_live local.attempt ≡ true
    → tries_constrained f i ≡ is_constrained local.attempt.nest
kind_is f i local h live = kind_by f i local local.attempt.count refl h live

-- a CPU that an interruption has stopped has one to take, where it has a prefix
pub is_awaited : (image : Content) (history : List Entry) (f : FlatState) → IsImage image
    → replay image history ≡ Some f → (i code first : ℕ) → (f.cpus i).state ≡ Interrupted code
    → (f.cpus i).prefix ≡ Some first → is_some (f.waiting i) ≡ true
is_awaited image history f is replayed i code first stopped prefix =
    (awaits_at f (replay_awaits image history f is replayed) i).awaited code first stopped prefix

-- and a CPU that runs has none
pub waits_stopped : (image : Content) (history : List Entry) (f : FlatState) → IsImage image
    → replay image history ≡ Some f → (i : ℕ) (w : Waiting) → f.waiting i ≡ Some w
    → is_running (f.cpus i).state ≡ false
waits_stopped image history f is replayed i w h =
    (awaits_at f (replay_awaits image history f is replayed) i).stopped w h

-- ---- an abort

pub abort_leaves : (text : List ℕ) (storage : Storage) (locals : ℕ → Local) (i : ℕ) (why : Why)
    → let f = flat_from text storage locals in
    IsKept f → IsFollowed f i (locals i) → is_live (locals i).attempt ≡ true
    → fits text (run f i (locals i).attempt.count) why ≡ true
    → Leaves text storage locals i (Abort i (locals i).attempt.count why)
    (aborted why (locals i).attempt.cpu.address (side storage locals i))
abort_leaves text storage locals i why kept h live fit =
    let l = leaving.abort_leaves text storage locals i why h live fit in
    let b = aborted why (locals i).attempt.cpu.address (side storage locals i) in
    at_rest text storage locals i (Abort i (locals i).attempt.count why) b l
    (aborted_rests why (locals i).attempt.cpu.address (side storage locals i))

pub none_there : (o : Option ℕ) (b : Bool) → b ≡ false → ((byte : ℕ) → o ≡ Some byte → b ≡ true) → o ≡ None
none_there None b off some = refl
none_there (Some byte) b off some = absurd (let x : false ≡ true = sym off ∙ some byte refl in cc)

pub lasting_in_stored : (f : FlatState) (i : ℕ) (local : Local) → IsKept f → IsFollowed f i local
    → ChangesIn local.attempt.footprint.stored f.storage (seen_through local.attempt.lasting f.storage)
lasting_in_stored f i local kept h a off =
    ap (λ o. unwrap_or o (f.storage a))
    (none_there (local.attempt.lasting a) (local.attempt.footprint.stored (a / line_size)) off
    (λ byte e. lasting_line f i a byte local h (ap (λ (c : Cpu). is_prefix c.prefix) (sym h.cpu)
    ∙ kept.prefixes i) e))

-- ---- one instruction inside a transaction

-- a run has no instruction more that leaves it open; by what is told, what comes of it
abbrev pub AttemptEnds : List ℕ → Run → Run → ℕ → Beside → Why → Type 0
AttemptEnds text p q n after why =
    ((q.mark ≡ Overflowed) × (ending text q ≡ Some why) × (after.local.attempt.count ≡ n + 1))
    ⊎ ((q.mark ≡ Missing) × (ending text p ≡ Some why) × (after.local.attempt.count ≡ n))

pub record GoesOn (text : List ℕ) (storage : Storage) (locals : ℕ → Local) (i : ℕ) (after : Beside) (q : Run)
    : Type 0 where
  pub mark : q.mark ≡ Open
  pub flat : flat_with text locals i after ≡ flat_from text storage locals
  pub count : after.local.attempt.count ≡ (locals i).attempt.count + 1
  pub followed : IsFollowed (flat_with text locals i after) i after.local

pub record Commits (text : List ℕ) (storage : Storage) (locals : ℕ
    → Local) (i n : ℕ) (after : Beside) (q : Run)
    : Type 0 where
  pub mark : q.mark ≡ Committed
  pub count : n ≡ (locals i).attempt.count + 1
  pub leaves : Leaves text storage locals i (Commit i n) after

pub record EndsBy (text : List ℕ) (storage : Storage) (locals : ℕ
    → Local) (i : ℕ) (why : Why) (after : Beside)
    (p q : Run) : Type 0 where
  pub ends : AttemptEnds text p q (locals i).attempt.count after why
  pub leaves : Leaves text storage locals i (Abort i after.local.attempt.count why)
      (aborted why (locals i).attempt.cpu.address after)

abbrev pub Inside : List ℕ → Storage → (ℕ → Local) → ℕ → Beside → Done → Type 0
Inside text storage locals i after done.Stepped =
    GoesOn text storage locals i after (run (flat_from text storage locals) i (suc (locals i).attempt.count))
Inside text storage locals i after (done.Committed n) =
    Commits text storage locals i n after
    (run (flat_from text storage locals) i (suc (locals i).attempt.count))
Inside text storage locals i after (done.Ended why) =
    EndsBy text storage locals i why after (run (flat_from text storage locals) i (locals i).attempt.count)
    (run (flat_from text storage locals) i (suc (locals i).attempt.count))
Inside text storage locals i after done.Began = ⊥
Inside text storage locals i after (done.Paused turns) = ⊥
Inside text storage locals i after (done.Interrupted code) = ⊥

-- of the runs
abbrev Facts : List ℕ → Run → Run → ℕ → Beside → Done → Type 0
Facts text p q n after done.Stepped = (q.mark ≡ Open) × (after.local.attempt.count ≡ n + 1)
Facts text p q n after (done.Committed k) =
    (q.mark ≡ Committed) × (k ≡ n + 1) × (after.local.attempt ≡ resting after.local.cpu)
Facts text p q n after (done.Ended why) = AttemptEnds text p q n after why
Facts text p q n after done.Began = ⊥
Facts text p q n after (done.Paused turns) = ⊥
Facts text p q n after (done.Interrupted code) = ⊥

closed_facts : (text : List ℕ) (p q : Run) (n : ℕ) (next : Progress) (nest : List Begin) (b : Beside)
    → q.mark ≡ mark_in nest → next.count ≡ n + 1
    → Facts text p q n (closed_by next nest b).after (closed_by next nest b).told
closed_facts text p q n next [] b mark count = (mark, count, refl)
closed_facts text p q n next (outermost ∷ inner) b mark count = (mark, count)

-- an instruction that goes, and the run behind it
went_on : (f : FlatState) (i : ℕ) (local : Local) (instr : Instr) (ranges : List Range) (o : Outcome)
    → IsFollowed f i local → is_live local.attempt ≡ true
    → fate_by_progress f.text f.storage local.attempt ≡ Goes instr ranges
    → outcome_by f.storage instr ranges local.attempt ≡ o
    → run f i (suc local.attempt.count) ≡ after instr ranges (run f i local.attempt.count) o
went_on f i local instr ranges o h live goes came =
    run_after f i local.attempt.count instr ranges o h.opens (followed_fate f i local h ∙ goes)
    (live_follows f i local.attempt.count instr h.opens live)
    (followed_outcome f i local instr ranges h ∙ came)

undone_ends : (f : FlatState) (i : ℕ) (local : Local) (instr : Instr) (ranges : List Range) (o : Outcome)
    → IsFollowed f i local → fate_by_progress f.text f.storage local.attempt ≡ Goes instr ranges
    → outcome_by f.storage instr ranges local.attempt ≡ o
    → ending f.text (run f i local.attempt.count) ≡ outcome_cause local.attempt.nest instr o
undone_ends f i local instr ranges o h goes came =
    let p = run f i local.attempt.count in
    open_ending f.text p (Goes instr ranges) h.opens (followed_fate f i local h ∙ goes)
    ∙ ap (outcome_cause p.nest instr) (followed_outcome f i local instr ranges h ∙ came)
    ∙ ap (λ n. outcome_cause n instr o) (its_nest p local.attempt h.attempt)

inside_facts : (text : List ℕ) (storage : Storage) (locals : ℕ → Local) (i : ℕ) (instr : Instr)
    (ranges : List Range) (o : Outcome) → IsFollowed (flat_from text storage locals) i (locals i)
    → is_live (locals i).attempt ≡ true → fate_by_progress text storage (locals i).attempt ≡ Goes instr ranges
    → outcome_by storage instr ranges (locals i).attempt ≡ o
    → Facts text (run (flat_from text storage locals) i (locals i).attempt.count)
    (run (flat_from text storage locals) i (suc (locals i).attempt.count)) (locals i).attempt.count
    (inside instr ranges (side storage locals i) o).after (inside instr ranges (side storage locals i) o).told
inside_facts text storage locals i instr ranges (Did c bytes) h live goes came =
    let f = flat_from text storage locals in
    let n = (locals i).attempt.count in
    let next = next_of (locals i) instr ranges c bytes in
    let more = one_more f i (locals i) instr ranges c bytes h goes
    (live_follows f i n instr h.opens live) came in
    let e : suc n ≡ n + 1 = omega arith in
    closed_facts text (run f i n) (run f i (suc n)) n next next.nest (side storage locals i)
    (ap (λ k. (run f i k).mark) e ∙ more.mark) refl
inside_facts text storage locals i instr ranges (outcome.Overflowed c bytes) h live goes came =
    let f = flat_from text storage locals in
    let q = (locals i).attempt in
    let p = run f i q.count in
    let next = next_of (locals i) instr ranges c bytes in
    let stores = operand_stores p.cpu.prefix ranges bytes in
    let longer = went_on f i (locals i) instr ranges (outcome.Overflowed c bytes) h live goes came in
    let over = overflowed (with_instruction instr ranges c stores p) in
    inl (
      ap (λ (r : Run). r.mark) longer,
      ap (ending text) longer ∙ over_ending text p instr ranges c stores
          ∙ ap (λ nest. Some (cause_in nest (exception fixed_point_overflow_code (length_of instr))))
          (its_nest over next (over_progress p q instr ranges c bytes h.attempt)),
      refl,
    )
inside_facts text storage locals i instr ranges Divides h live goes came =
    let f = flat_from text storage locals in
    inr (
      ap (λ (r : Run). r.mark) (went_on f i (locals i) instr ranges Divides h live goes came),
      undone_ends f i (locals i) instr ranges Divides h goes came,
      refl,
    )
inside_facts text storage locals i instr ranges (Aborts code) h live goes came =
    let f = flat_from text storage locals in
    inr (
      ap (λ (r : Run). r.mark) (went_on f i (locals i) instr ranges (Aborts code) h live goes came),
      undone_ends f i (locals i) instr ranges (Aborts code) h goes came,
      refl,
    )

executed_facts : (text : List ℕ) (storage : Storage) (locals : ℕ → Local) (i : ℕ) (instr : Instr)
    (ranges : List Range) → IsFollowed (flat_from text storage locals) i (locals i)
    → is_live (locals i).attempt ≡ true → fate_by_progress text storage (locals i).attempt ≡ Goes instr ranges
    → Facts text (run (flat_from text storage locals) i (locals i).attempt.count)
    (run (flat_from text storage locals) i (suc (locals i).attempt.count)) (locals i).attempt.count
    (executed instr ranges (side storage locals i)).after (executed instr ranges (side storage locals i)).told
executed_facts text storage locals i instr ranges h live goes =
    let f = flat_from text storage locals in
    let n = (locals i).attempt.count in
    subst (λ (e : Executed). Facts text (run f i n) (run f i (suc n)) n e.after e.told)
    (sym (executed_live instr ranges (side storage locals i) live))
    (inside_facts text storage locals i instr ranges (outcome_by storage instr ranges
    (locals i).attempt) h live goes
    refl)

pub executed_inside : (text : List ℕ) (storage : Storage) (locals : ℕ → Local) (i : ℕ) (instr : Instr)
    (ranges : List Range)
    → let f = flat_from text storage locals in
    let e = executed instr ranges (side storage locals i) in
    IsKept f → IsFollowed f i (locals i) → is_live (locals i).attempt ≡ true
    → fate_by_progress text storage (locals i).attempt ≡ Goes instr ranges
    → Inside text storage locals i e.after e.told
executed_inside text storage locals i instr ranges kept h live goes =
    let e = executed instr ranges (side storage locals i) in
    by e.told refl (executed_facts text storage locals i instr ranges h live goes)
  where
    by : (told : Done) → (executed instr ranges (side storage locals i)).told ≡ told
        → Facts text (run (flat_from text storage locals) i (locals i).attempt.count)
        (run (flat_from text storage locals) i (suc (locals i).attempt.count)) (locals i).attempt.count
        (executed instr ranges (side storage locals i)).after told
        → Inside text storage locals i (executed instr ranges (side storage locals i)).after told
    by done.Stepped is facts =
        let l = going_leaves text storage locals i instr ranges h live goes is in
        record { mark = facts.0; flat = l.same; count = facts.1; followed = l.followed }
    by (done.Committed n) is facts = record {
      mark = facts.0;
      count = facts.1;
      leaves = at_rest text storage locals i (Commit i n) (executed instr ranges
          (side storage locals i)).after
          (commit_leaves text storage locals i n instr ranges h live goes is) facts.2;
    }
    by (done.Ended why) is facts =
        let after = (executed instr ranges (side storage locals i)).after in
        record {
          ends = facts;
          leaves = at_rest text storage locals i (Abort i after.local.attempt.count why)
              (aborted why (locals i).attempt.cpu.address after)
              (ended_leaves text storage locals i instr ranges why h live goes is)
              (aborted_rests why (locals i).attempt.cpu.address after);
        }
    by done.Began is facts = absurd facts
    by (done.Paused turns) is facts = absurd facts
    by (done.Interrupted code) is facts = absurd facts

-- ---- one instruction outside transactions

-- the run with one instruction more is open, where what is left of the CPU is followed
run_opens : (text : List ℕ) (storage : Storage) (locals : ℕ → Local) (i : ℕ) (after : Beside)
    → followed.GoesOnAs text storage locals i after
    → after.local.attempt.count ≡ (locals i).attempt.count + 1
    → (run (flat_from text storage locals) i (suc (locals i).attempt.count)).mark ≡ Open
run_opens text storage locals i after l count =
    let n : suc (locals i).attempt.count ≡ (locals i).attempt.count + 1 = omega arith in
    ap (λ k. (run (flat_from text storage locals) i k).mark) (n ∙ sym count)
    ∙ ap (λ f. (run f i after.local.attempt.count).mark) (sym l.same) ∙ l.followed.opens

-- a begin is counted
begun_count : (text : List ℕ) (storage : Storage) (locals : ℕ → Local) (i : ℕ) (instr : Instr)
    (ranges : List Range) → is_live (locals i).attempt ≡ false → begins (entry_at instr.op.number) ≡ true
    → (executed instr ranges (side storage locals i)).after.local.attempt.count ≡ (locals i).attempt.count + 1
begun_count text storage locals i instr ranges off begin =
    let b = side storage locals i in
    let q = (locals i).attempt in
    let d = role_done instr q.cpu (length q.nest) (operand_bytes q.cpu.prefix (seen_through q.overlay storage)
    ranges) (or_left (begins (entry_at instr.op.number)) (is_end (entry_at instr.op.number)) begin) in
    ap (λ (e : Executed). e.after.local.attempt.count)
    (executed_is instr ranges b false true off begin ∙ ap (executed_where false true instr ranges b) d.is)

-- it begins a transaction
pub executed_begins : (text : List ℕ) (storage : Storage) (locals : ℕ → Local) (i : ℕ) (instr : Instr)
    (ranges : List Range)
    → let f = flat_from text storage locals in
    IsKept f → IsFollowed f i (locals i) → is_live (locals i).attempt ≡ false → may_act f i ≡ true
    → fate_by_progress text storage (locals i).attempt ≡ Goes instr ranges
    → begins (entry_at instr.op.number) ≡ true
    → GoesOn text storage locals i (executed instr ranges (side storage locals i)).after
    (run f i (suc (locals i).attempt.count))
executed_begins text storage locals i instr ranges kept h off acts goes begin =
    let e = executed instr ranges (side storage locals i) in
    let l = begin_leaves text storage locals i instr ranges h acts off begin goes in
    let count = begun_count text storage locals i instr ranges off begin in
    record {
      mark = run_opens text storage locals i e.after l count;
      flat = l.same;
      count = count;
      followed = l.followed;
    }

outside_rest : (storage : Storage) (locals : ℕ → Local) (i : ℕ) (instr : Instr) (ranges : List Range)
    (o : Outcome) → (locals i).attempt ≡ resting (locals i).cpu
    → (outside instr ranges (side storage locals i) o).local.attempt
    ≡ resting (outside instr ranges (side storage locals i) o).local.cpu
outside_rest storage locals i instr ranges (Did c bytes) rest = refl
outside_rest storage locals i instr ranges (outcome.Overflowed c bytes) rest = refl
outside_rest storage locals i instr ranges Divides rest = refl
outside_rest storage locals i instr ranges (Aborts code) rest = rest

abbrev Rests : Executed → Type 0
Rests e = e.after.local.attempt ≡ resting e.after.local.cpu

outside_rests : (storage : Storage) (locals : ℕ → Local) (i : ℕ) (instr : Instr) (ranges : List Range)
    → is_live (locals i).attempt ≡ false → begins (entry_at instr.op.number) ≡ false
    → (locals i).attempt ≡ resting (locals i).cpu
    → (executed instr ranges (side storage locals i)).after.local.attempt
    ≡ resting (executed instr ranges (side storage locals i)).after.local.cpu
unfolding executed
outside_rests storage locals i instr ranges off plain rest =
    let o = outcome_by storage instr ranges (locals i).attempt in
    subst (λ live. Rests (executed_where live (begins (entry_at instr.op.number)) instr ranges
    (side storage locals i) o))
    (sym off)
    (subst (λ begin. Rests (executed_where false begin instr ranges (side storage locals i) o)) (sym plain)
    (outside_rest storage locals i instr ranges o rest))

-- it is done
pub executed_outside : (text : List ℕ) (storage : Storage) (locals : ℕ → Local) (i : ℕ) (instr : Instr)
    (ranges : List Range)
    → let f = flat_from text storage locals in
    IsKept f → IsFollowed f i (locals i) → is_live (locals i).attempt ≡ false → may_act f i ≡ true
    → fate_by_progress text storage (locals i).attempt ≡ Goes instr ranges
    → begins (entry_at instr.op.number) ≡ false
    → Leaves text storage locals i (Step i)
    (executed instr ranges (side storage locals i)).after
executed_outside text storage locals i instr ranges kept h off acts goes plain =
    let e = executed instr ranges (side storage locals i) in
    at_rest text storage locals i (Step i) e.after
    (step_leaves text storage locals i instr ranges h acts off plain goes)
    (outside_rests storage locals i instr ranges off plain (rests (flat_from text storage locals) i
    (locals i) h off))

stopped_rests : (e : Exception) (l : Local) → (stopped e l).attempt ≡ resting (stopped e l).cpu
unfolding stopped
stopped_rests e l = refl

-- it is stopped by an exception
pub stopped_leaves : (text : List ℕ) (storage : Storage) (locals : ℕ → Local) (i : ℕ) (e : Exception)
    → let f = flat_from text storage locals in
    IsKept f → IsFollowed f i (locals i) → is_live (locals i).attempt ≡ false → may_act f i ≡ true
    → fate_by_progress text storage (locals i).attempt ≡ Stops e
    → Leaves text storage locals i (Step i)
    (record { local = stopped e (locals i); storage = storage })
stopped_leaves text storage locals i e kept h rests acts stops =
    at_rest text storage locals i (Step i) (record { local = stopped e (locals i); storage = storage })
    (stop_leaves text storage locals i e h acts rests stops) (stopped_rests e (locals i))

-- ---- what an instruction touches

pub record TouchesMore (q : Progress) (storage : Storage) (ranges : List Range)
    (after : Beside) : Type 0 where
  pub bytes : ChangesIn (λ line. q.footprint.stored line
      || stores (absolute_ranges q.cpu.prefix ranges) line) storage after.storage
  pub stored : (line : ℕ) → after.local.attempt.footprint.stored line ≡ true
      → (q.footprint.stored line || stores (absolute_ranges q.cpu.prefix ranges) line) ≡ true
  pub fetched : (line : ℕ) → after.local.attempt.footprint.fetched line ≡ true
      → (q.footprint.fetched line || fetches (absolute_ranges q.cpu.prefix ranges) line) ≡ true
  pub lasting : ChangesIn (λ line. q.footprint.stored line
      || stores (absolute_ranges q.cpu.prefix ranges) line) storage
      (seen_through after.local.attempt.lasting after.storage)

-- an instruction that goes has small operands, and a byte for each place that it stores into
record Operated (q : Progress) (storage : Storage) (ranges : List Range) (instr : Instr) : Type 0 where
  small : AreSmall ranges
  filled : Fills (stored_size ranges) (outcome_by storage instr ranges q)

operated : (f : FlatState) (i : ℕ) (local : Local) (instr : Instr) (ranges : List Range)
    → IsFollowed f i local
    → fate_by_progress f.text f.storage local.attempt ≡ Goes instr ranges
    → Operated local.attempt f.storage ranges instr
operated f i local instr ranges h goes =
    let p = run f i local.attempt.count in
    let pass = passes f.text p instr ranges (followed_fate f i local h ∙ goes) in
    let filled : Fills (stored_size ranges) (outcome_of instr ranges p) =
    subst (λ rs. Fills (stored_size rs) (outcome_of instr rs p)) (sym pass.touches) (filled instr p) in
    record {
      small = subst AreSmall (sym pass.touches) (small_operands instr p.cpu);
      filled = subst (Fills (stored_size ranges)) (followed_outcome f i local instr ranges h) filled;
    }

none_lasting : (test : ℕ → Bool) (b : Bool) (xs : List Store) → goes_there test xs ≡ false
    → goes_there test (if b then xs else []) ≡ false
none_lasting test true xs off = off
none_lasting test false xs off = refl

-- of one CPU that is followed, with an instruction that goes
record Touching (q : Progress) (storage : Storage) (ranges : List Range) : Type 0 where
  prefix : is_prefix q.cpu.prefix ≡ true
  small : AreSmall ranges
  overlay : (a : ℕ) → q.footprint.stored (a / line_size) ≡ false → q.overlay a ≡ None
  lasting : (a : ℕ) → q.footprint.stored (a / line_size) ≡ false → q.lasting a ≡ None

same_touches : (l : Local) (storage : Storage) (ranges : List Range) → Touching l.attempt storage ranges
    → TouchesMore l.attempt storage ranges (record { local = l; storage = storage })
same_touches l storage ranges t =
    let q = l.attempt in
    let abs = absolute_ranges q.cpu.prefix ranges in
    record {
      bytes = λ a off. refl;
      stored = λ line is. or_left (q.footprint.stored line) (stores abs line) is;
      fetched = λ line is. or_left (q.footprint.fetched line) (fetches abs line) is;
      lasting = λ a off. ap (λ o. unwrap_or o (storage a)) (t.lasting a
          (or_parts (q.footprint.stored (a / line_size)) (stores abs (a / line_size)) off).0);
    }

-- stores of operands go to no other lines
no_store : (q : Progress) (storage : Storage) (ranges : List Range) (bytes : List ℕ) (a : ℕ)
    → Touching q storage ranges → stored_size ranges ≤ length bytes
    → stores (absolute_ranges q.cpu.prefix ranges) (a / line_size) ≡ false
    → goes_there (in_line (a / line_size)) (stores_of ranges bytes q) ≡ false
no_store q storage ranges bytes a t enough off =
    operands_elsewhere q.cpu.prefix ranges bytes a t.prefix t.small enough off

on_touches : (l : Local) (storage : Storage) (ranges : List Range) (instr : Instr) (c : Cpu) (bytes : List ℕ)
    → Touching l.attempt storage ranges → stored_size ranges ≤ length bytes
    → TouchesMore l.attempt storage ranges
    (going_on (next_of l instr ranges c bytes) (record { local = l; storage = storage }))
on_touches l storage ranges instr c bytes t enough =
    let q = l.attempt in
    let abs = absolute_ranges q.cpu.prefix ranges in
    record {
      bytes = λ a off. refl;
      stored = λ line is. is;
      fetched = λ line is. is;
      lasting = λ a off.
          let parts = or_parts (q.footprint.stored (a / line_size)) (stores abs (a / line_size)) off in
          ap (λ o. unwrap_or o (storage a))
          (laying_elsewhere (lasting_of instr (stores_of ranges bytes q)) q.lasting a
          (none_lasting (in_line (a / line_size)) (stores_lastingly (entry_at instr.op.number))
          (stores_of ranges bytes q) (no_store q storage ranges bytes a t enough parts.1))
          ∙ t.lasting a parts.0);
    }

-- a CPU that has no attempt left has touched nothing
gone_touches : (q : Progress) (storage : Storage) (ranges : List Range) (after : Beside)
    → after.local.attempt ≡ resting after.local.cpu
    → ChangesIn (λ line. q.footprint.stored line || stores (absolute_ranges q.cpu.prefix ranges) line) storage
    after.storage
    → TouchesMore q storage ranges after
gone_touches q storage ranges after rest changes = record {
  bytes = changes;
  stored = λ line is. absurd (let x : false ≡ true = sym (ap (λ
      (q : Progress). q.footprint.stored line) rest) ∙ is
      in cc);
  fetched = λ line is. absurd (let x : false ≡ true = sym (ap (λ
      (q : Progress). q.footprint.fetched line) rest) ∙ is
      in cc);
  lasting = λ a off. ap (λ (q : Progress). unwrap_or (q.lasting a) (after.storage a)) rest ∙ changes a off;
}

committed_touches : (l : Local) (storage : Storage) (ranges : List Range) (instr : Instr) (c : Cpu)
    (bytes : List ℕ) → Touching l.attempt storage ranges → stored_size ranges ≤ length bytes
    → TouchesMore l.attempt storage ranges
    (committed (next_of l instr ranges c bytes) (record { local = l; storage = storage }))
committed_touches l storage ranges instr c bytes t enough =
    let q = l.attempt in
    let abs = absolute_ranges q.cpu.prefix ranges in
    gone_touches q storage ranges (committed (next_of l instr ranges c bytes)
    (record { local = l; storage = storage }))
    refl (λ a off.
    let parts = or_parts (q.footprint.stored (a / line_size)) (stores abs (a / line_size)) off in
    ap (λ o. unwrap_or o (storage a))
    (laying_elsewhere (stores_of ranges bytes q) q.overlay a
    (no_store q storage ranges bytes a t enough parts.1)
    ∙ t.overlay a parts.0))

closed_touches : (l : Local) (storage : Storage) (ranges : List Range) (instr : Instr) (c : Cpu)
    (bytes : List ℕ)
    (nest : List Begin) → Touching l.attempt storage ranges → stored_size ranges ≤ length bytes
    → TouchesMore l.attempt storage ranges
    (closed_by (next_of l instr ranges c bytes) nest (record { local = l; storage = storage })).after
closed_touches l storage ranges instr c bytes [] t enough = committed_touches l storage ranges instr c bytes
    t enough
closed_touches l storage ranges instr c bytes (outermost ∷ inner) t enough =
    on_touches l storage ranges instr c bytes t enough

laid_touches : (l : Local) (storage : Storage) (ranges : List Range) (bytes : List ℕ) (after : Local)
    → Touching l.attempt storage ranges → stored_size ranges ≤ length bytes
    → after.attempt ≡ resting after.cpu
    → TouchesMore l.attempt storage ranges
    (record { local = after; storage = laid_over storage (stores_of ranges bytes l.attempt) })
laid_touches l storage ranges bytes after t enough rest =
    let q = l.attempt in
    gone_touches q storage ranges
    (record { local = after; storage = laid_over storage (stores_of ranges bytes q) }) rest (λ a off.
    let parts = or_parts (q.footprint.stored (a / line_size))
    (stores (absolute_ranges q.cpu.prefix ranges) (a / line_size)) off in
    laid_elsewhere (stores_of ranges bytes q) storage a (no_store q storage ranges bytes a t enough parts.1))

touches_by : (l : Local) (storage : Storage) (ranges : List Range) (instr : Instr) (live begin : Bool)
    (o : Outcome)
    → Touching l.attempt storage ranges → Fills (stored_size ranges) o
    → TouchesMore l.attempt storage ranges
    (executed_where live begin instr ranges (record { local = l; storage = storage }) o).after
touches_by l storage ranges instr true begin (Did c bytes) t enough =
    closed_touches l storage ranges instr c bytes (next_of l instr ranges c bytes).nest t enough
touches_by l storage ranges instr true begin (outcome.Overflowed c bytes) t enough =
    on_touches l storage ranges instr c bytes t enough
touches_by l storage ranges instr true begin Divides t enough = same_touches l storage ranges t
touches_by l storage ranges instr true begin (Aborts code) t enough = same_touches l storage ranges t
touches_by l storage ranges instr false true (Did c bytes) t enough =
    on_touches l storage ranges instr c bytes t enough
touches_by l storage ranges instr false true
    (outcome.Overflowed c bytes) t enough = same_touches l storage ranges t
touches_by l storage ranges instr false true Divides t enough = same_touches l storage ranges t
touches_by l storage ranges instr false true (Aborts code) t enough = same_touches l storage ranges t
touches_by l storage ranges instr false false (Did c bytes) t enough =
    laid_touches l storage ranges bytes (moved_to c l) t enough refl
touches_by l storage ranges instr false false (outcome.Overflowed c bytes) t enough =
    laid_touches l storage ranges bytes _ t enough refl
touches_by l storage ranges instr false false Divides t enough =
    gone_touches l.attempt storage ranges _ refl (λ a off. refl)
touches_by l storage ranges instr false false (Aborts code) t enough = same_touches l storage ranges t

pub executed_touches : (text : List ℕ) (storage : Storage) (locals : ℕ → Local) (i : ℕ) (instr : Instr)
    (ranges : List Range)
    → let f = flat_from text storage locals in
    IsKept f → IsFollowed f i (locals i)
    → fate_by_progress text storage (locals i).attempt ≡ Goes instr ranges
    → TouchesMore (locals i).attempt storage ranges (executed instr ranges (side storage locals i)).after
unfolding executed
executed_touches text storage locals i instr ranges kept h goes =
    let f = flat_from text storage locals in
    let l = locals i in
    let ok : is_prefix l.cpu.prefix ≡ true =
    ap (λ (c : Cpu). is_prefix c.prefix) (sym h.cpu) ∙ kept.prefixes i in
    let facts = operated f i l instr ranges h goes in
    touches_by l storage ranges instr (is_live l.attempt) (begins (entry_at instr.op.number))
    (outcome_by storage instr ranges l.attempt)
    (record {
      prefix = ap is_prefix (keeps_prefix f i l h) ∙ ok;
      small = facts.small;
      overlay = λ a off. none_there (l.attempt.overlay a) (l.attempt.footprint.stored (a / line_size)) off
          (λ byte e. stored_line f i a byte l h ok e);
      lasting = λ a off. none_there (l.attempt.lasting a) (l.attempt.footprint.stored (a / line_size)) off
          (λ byte e. lasting_line f i a byte l h ok e);
    }) facts.filled

-- ---- a block is stored, an interruption is taken

stored_rests : (storage : Storage) (locals : ℕ → Local) (i : ℕ) → (locals i).attempt ≡ resting (locals i).cpu
    → (block_stored (side storage locals i)).local.attempt ≡ resting (block_stored
    (side storage locals i)).local.cpu
unfolding block_stored
stored_rests storage locals i rest = rest

pub block_leaves : (text : List ℕ) (storage : Storage) (locals : ℕ → Local) (i : ℕ) (b : Pending)
    → let f = flat_from text storage locals in
    IsKept f → IsFollowed f i (locals i) → (locals i).pending ≡ Some b
    → Leaves text storage locals i (Tdb i) (block_stored (side storage locals i))
block_leaves text storage locals i b kept h is =
    let f = flat_from text storage locals in
    let off = quiet_with_block f i (locals i) b h is in
    at_rest text storage locals i (Tdb i) (block_stored (side storage locals i))
    (leaving.block_leaves text storage locals i b h is)
    (stored_rests storage locals i (rests f i (locals i) h off))

taken_rests : (storage : Storage) (locals : ℕ → Local) (i : ℕ) (w : Waiting) → (locals i).waiting ≡ Some w
    → (interruption_taken (side storage locals i)).local.attempt
    ≡ resting (interruption_taken (side storage locals i)).local.cpu
unfolding interruption_taken
taken_rests storage locals i w is =
    subst (λ o. (taken_by o (side storage locals i)).local.attempt ≡ resting (taken_by o
    (side storage locals i)).local.cpu)
    (sym is) refl

pub taking_leaves : (text : List ℕ) (storage : Storage) (locals : ℕ → Local) (i : ℕ) (w : Waiting)
    → let f = flat_from text storage locals in
    IsKept f → IsFollowed f i (locals i) → (locals i).pending ≡ None → (locals i).waiting ≡ Some w
    → Leaves text storage locals i (Interrupt i) (interruption_taken (side storage locals i))
taking_leaves text storage locals i w kept h none is =
    at_rest text storage locals i (Interrupt i) (interruption_taken (side storage locals i))
    (interruption_leaves text storage locals i w none is) (taken_rests storage locals i w is)

pub block_changes : (storage : Storage) (locals : ℕ → Local) (i : ℕ) (b : Pending)
    → is_prefix (locals i).cpu.prefix ≡ true → (locals i).pending ≡ Some b → length b.bytes ≡ 256
    → ChangesIn (stores (absolute_ranges (locals i).cpu.prefix (stored b.address 256 ∷ []))) storage
    (block_stored (side storage locals i)).storage
unfolding block_stored
block_changes storage locals i b prefix is size =
    subst (λ o. ChangesIn (stores (absolute_ranges (locals i).cpu.prefix (stored b.address 256 ∷ []))) storage
    (storage_with (locals i).cpu.prefix o storage)) (sym is)
    (bytes_change (locals i).cpu.prefix b.address 256 b.bytes storage prefix size (omega arith))

-- identification and old program status word, then the block, where there is one
words_change : (c : Cpu) (w : Waiting) (rest : List Range) (storage : Storage) → is_prefix c.prefix ≡ true
    → ChangesIn (stores (absolute_ranges c.prefix
    (stored identification 4 ∷ stored old_psw 16 ∷ rest))) storage
    (with_bytes_at c.prefix old_psw (psw_of c) (with_bytes_at c.prefix identification
    (identified c w) storage))
words_change c w rest storage ok a off =
    let first = first_stores c.prefix (stored identification 4) (stored old_psw 16 ∷ rest)
    (a / line_size) off in
    let second = first_stores c.prefix (stored old_psw 16) rest (a / line_size) first.1 in
    bytes_change c.prefix old_psw 16 (psw_of c) (with_bytes_at c.prefix identification
    (identified c w) storage) ok
    (psw_size c) (omega arith) a second.0
    ∙ bytes_change c.prefix identification 4 (identified c w) storage ok refl (omega arith) a first.0

stored_change : (c : Cpu) (w : Waiting) (block : Option (List ℕ)) → w.block ≡ block → (storage : Storage)
    → is_prefix c.prefix ≡ true → ((bytes : List ℕ) → block ≡ Some bytes → length bytes ≡ 256)
    → ChangesIn (stores (absolute_ranges c.prefix (interruption_ranges block))) storage
    (with_block c.prefix block
    (with_bytes_at c.prefix old_psw (psw_of c) (with_bytes_at c.prefix identification
    (identified c w) storage)))
stored_change c w None e storage ok size a off = words_change c w (stored new_psw 16 ∷ []) storage ok a off
stored_change c w (Some bytes) e storage ok size a off =
    let rest = stored new_psw 16 ∷ stored interruption_block 256 ∷ [] in
    let first = first_stores c.prefix (stored identification 4) (stored old_psw 16 ∷ rest)
    (a / line_size) off in
    let second = first_stores c.prefix (stored old_psw 16) rest (a / line_size) first.1 in
    let third = first_stores c.prefix (stored new_psw 16) (stored interruption_block 256 ∷ []) (a / line_size)
    second.1 in
    bytes_change c.prefix interruption_block 256 bytes
    (with_bytes_at c.prefix old_psw (psw_of c) (with_bytes_at c.prefix identification
    (identified c w) storage)) ok
    (size bytes refl) (omega arith) a third.1
    ∙ words_change c w rest storage ok a off

pub taking_changes : (storage : Storage) (locals : ℕ → Local) (i : ℕ) (w : Waiting)
    → is_prefix (locals i).cpu.prefix ≡ true → (locals i).waiting ≡ Some w
    → ((bytes : List ℕ) → w.block ≡ Some bytes → length bytes ≡ 256)
    → ChangesIn (stores (absolute_ranges (locals i).cpu.prefix (interruption_ranges w.block))) storage
    (interruption_taken (side storage locals i)).storage
unfolding interruption_taken
taking_changes storage locals i w prefix is size =
    subst (λ o. ChangesIn (stores (absolute_ranges (locals i).cpu.prefix
    (interruption_ranges w.block))) storage
    (taken_by o (side storage locals i)).storage) (sym is)
    (stored_change (locals i).cpu w w.block refl storage prefix size)
