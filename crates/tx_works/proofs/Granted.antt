-- The lines of a turn, one after the other, by what each call says of what is kept.
use Rattle.std.proofs.Common.{◌≡◌, ◌≢◌, ℕ, zero, suc, ◌+◌, ◌*◌, ◌<◌, ◌≤◌, Bool, true, false, List}
use Rattle.std.proofs.Common.{[], ◌∷◌}
use Rattle.std.proofs.Common.{length, map, drop, get_or, Option, Some, None, is_some, refl, sym, ap, subst}
use Rattle.std.proofs.Common.{◌∙◌, arith}
use Rattle.std.specs.Prelude.{◌||◌, ◌==◌, nat_lt}
use Rattle.std.specs.List.{list_any}
use Rattle.std.proofs.lemmas.Bool.{cases_Bool, or_parts, or_left, or_right, and_from, ltb-false}
use Rattle.std.proofs.lemmas.Bool.{not_from_false}
use Rattle.std.proofs.lemmas.Bool.{eq-eqb}
use Rattle.std.proofs.Math.ListN.{length-map}
use borrow.Enum.Arm.{by_way}
use Rattle.bit_set.specs.Counts.{count_below}
use Rattle.bit_set.proofs.Counts.{count_agree}
use Rattle.z_regs.specs.declared.ranges.Range.{Range}
use Rattle.line_table.specs.declared.table.Mode.TheVariants.{Shared}
use Rattle.line_table.specs.Sizes.{storage_lines, held_limit}
use Rattle.line_table.specs.Holders.{Holders, against, lines_held}
use Rattle.line_table.proofs.Against.{holds_outside_for_one_more}
use Rattle.tx_footprint.specs.Touched.{Sets}
use Rattle.tx_progress.specs.Local.{Local}
use Rattle.tx_lines.specs.Next.{passing_from, first_of}
use Rattle.tx_lines.specs.Spare.{may_give_up, lowest_spare, is_unused, granted}
use Rattle.tx_needs.specs.Needs.{need_at}
use Rattle.tx_lines.proofs.Next.{passes_here, fails_here}
use Rattle.tx_lines.proofs.SameGrant.{lines_of_needs, same_grant}
use Rattle.tx_meaning.specs.declared.asking.Need.{Need}
use Rattle.tx_meaning.specs.declared.asking.Reject.{Reject}
use Rattle.tx_meaning.specs.Limits.{Setting}
use Rattle.tx_meaning.specs.Needs.{needs_of}
use Rattle.tx_meaning.specs.State.{cpus_of, is_live}
use Rattle.tx_meaning.specs.Changes.{has_room, granting, is_needed}
use Rattle.tx_meaning.specs.Asking.{is_there}
use Rattle.tx_keeping.specs.Kept.{Kept, kept_footprint, with_state}
use Rattle.tx_keeping.specs.Asking.{KAsked, k_ask_each, k_granting, k_take_line, k_get_line, k_get_each}
use Rattle.tx_keeping.specs.Asking.{k_get_lines}
use Rattle.tx_keeping.specs.Asking.{k_all_given, k_get_unless, k_then_ask, k_unless_rejected}
use Rattle.tx_works.specs.Works.{Works, Seat, IsSameSize, kept_by}
use Rattle.tx_works.specs.Ready.{MayAsk, MayHold}
use Rattle.tx_works.specs.Asks.{AskLeaves, IsReady, IsFew, asked_by}
use Rattle.tx_works.proofs.Leaves.{leaves_then, leaves_at_most}
use Rattle.tx_works.proofs.Questions.{sizes_then}
use Rattle.tx_keeping.proofs.Room.{not_some}

-- ---- a line to give up

some_by : (n : ℕ) (test : ℕ → Bool) (end from at : ℕ) → from + n ≡ end → from ≤ at → at < end
    → test at ≡ true → is_some (first_of (passing_from test end from)) ≡ true
some_by zero test end from at so low high passes = absurd (omega arith)
some_by (suc n) test end from at so low high passes =
    by_way (cases_Bool (test from))
    (λ here. ap (λ l. is_some (first_of l)) (passes_here test end from (omega arith) here))
    (λ off.
    let ne : from ≢ at = λ e. let n : false ≡ true = sym off ∙ ap test e ∙ passes in cc in
    let less : from + 1 ≤ at = omega arith in
    ap (λ l. is_some (first_of l)) (fails_here test end from (omega arith) off)
    ∙ some_by n test end (from + 1) at (omega arith) less high passes)

-- where a CPU holds as many lines as it may, there is one that neither its attempt nor this turn needs
pub one_is_spare : (held : Holders) (i line : ℕ) (sets : Sets) (lines : List ℕ) → has_room held i line ≡ false
    → count_below storage_lines (λ line. (sets.fetched line || sets.stored line) || list_any
    (λ other. other == line) lines)
    ≤ held_limit
    → list_any (λ other. other == line) lines ≡ true → line < storage_lines
    → is_some (lowest_spare held i sets lines) ≡ true
one_is_spare held i line sets lines full few needed lt =
    let p = or_parts (is_some (held i line)) (nat_lt (lines_held held i) held_limit) full in
    let kept = λ (line : ℕ). (sets.fetched line || sets.stored line) || list_any (λ other. other == line)
    lines in
    let out = holds_outside_for_one_more held i line kept (ltb-false (lines_held held i) held_limit p.1) few lt
    (or_right (sets.fetched line || sets.stored line) (list_any (λ other. other == line) lines) needed)
    (not_some (held i line) p.0) in
    some_by storage_lines (may_give_up held i sets lines) storage_lines 0 out.0 (omega arith) (omega arith) out.1.in_storage
    (and_from (is_some (held i out.0)) (is_unused sets lines out.0) out.1.held_line
    (not_from_false (kept out.0) out.1.not_kept))

-- ---- one line

pub granted_is : (i : ℕ) (needs : List Need) (need : Need) (k : Kept) (sets : Sets) (lines : List ℕ)
    → map (λ (need : Need). need.line) needs ≡ lines → sets ≡ kept_footprint k i
    → with_state (record k.state { held = granted i sets lines need k.state.held }) k
    ≡ k_granting i needs need k
unfolding k_granting
granted_is i needs need k sets lines those touched =
    ap (λ held. with_state (record k.state { held = held }) k)
    (ap (λ l. granted i sets l need k.state.held) (sym those)
    ∙ same_grant i sets needs need k.state.held
    ∙ ap (λ sets. granting i sets needs need k.state.held) touched)

module _ (m : Setting) (i : ℕ) (needs : List Need) (need : Need) (k : Kept) where
  pub there_already : true ≡ is_there need.mode (k.state.held i need.line)
      → ◌≡◌ {A = KAsked} (record { kept = k; reject = None }) (k_get_line m i needs need k)
  unfolding k_get_line
  there_already there = ap (λ b. k_get_unless b m i needs need k) there

  pub line_refused : (cpus : ℕ) → cpus_of m ≡ cpus → false ≡ is_there need.mode (k.state.held i need.line)
      → (after : Kept) (r : Option Reject) → is_some r ≡ true
      → ◌≡◌ {A = KAsked} (record { kept = after; reject = r })
      (k_ask_each i need (against cpus k.state.held i need.line need.mode) k)
      → ◌≡◌ {A = KAsked} (record { kept = after; reject = r }) (k_get_line m i needs need k)
  unfolding k_get_line
  line_refused cpus count there after None some e = absurd (let n : false ≡ true = some in cc)
  line_refused cpus count there after (Some r) some e =
      ap (λ q. k_then_ask q (k_take_line i needs need)) e
      ∙ ap (λ n. k_then_ask (k_ask_each i need (against n k.state.held i need.line need.mode) k)
      (k_take_line i needs need)) (sym count)
      ∙ ap (λ b. k_get_unless b m i needs need k) there

  pub line_granted : (cpus : ℕ) → cpus_of m ≡ cpus → false ≡ is_there need.mode (k.state.held i need.line)
      → (asked after : Kept)
      → ◌≡◌ {A = KAsked} (record { kept = asked; reject = None })
      (k_ask_each i need (against cpus k.state.held i need.line need.mode) k)
      → after ≡ k_granting i needs need asked
      → ◌≡◌ {A = KAsked} (record { kept = after; reject = None }) (k_get_line m i needs need k)
  unfolding k_get_line
  line_granted cpus count there asked after e grant =
      ap k_all_given grant
      ∙ ap (λ q. k_then_ask q (k_take_line i needs need)) e
      ∙ ap (λ n. k_then_ask (k_ask_each i need (against n k.state.held i need.line need.mode) k)
      (k_take_line i needs need)) (sym count)
      ∙ ap (λ b. k_get_unless b m i needs need k) there

-- a grant leaves all but the holders
pub grant_leaves : (cpus n i : ℕ) (needs : List Need) (need : Need) (k asked after : Kept)
    → AskLeaves cpus n i k asked → after ≡ k_granting i needs need asked → AskLeaves cpus n i k after
unfolding k_granting
grant_leaves cpus n i needs need k asked after leaves grant =
    subst (AskLeaves cpus n i k) (sym grant) record {
      local = leaves.local;
      completed = leaves.completed;
      asks = λ may.
          let still = leaves.asks may in
          record {
            others = λ j lt ne live. let c = still.others j lt ne live in record { below = c.below; out = c.out };
            own = λ off. let c = still.own off in record { below = c.below; out = c.out };
          };
      owed_no_more = leaves.owed_no_more;
      counts = leaves.counts;
    }

-- ---- what a CPU needs of lines

pub still_few : (cpus n i : ℕ) (lines : List ℕ) (k after : Kept) → AskLeaves cpus n i k after → IsFew i
    lines k
    → IsFew i lines after
still_few cpus n i lines k after leaves few =
    record {
      few = subst (λ (l : Local). count_below storage_lines (λ line.
          (l.attempt.footprint.fetched line || l.attempt.footprint.stored line)
          || list_any (λ other. other == line) lines) ≤ held_limit) (sym leaves.local) few.few;
    }

needed_among : (needs : List Need) (line : ℕ)
    → is_needed needs line ≡ list_any (λ other. other == line) (lines_of_needs needs)
needed_among [] line = refl
needed_among (n ∷ rest) line = ap (λ b. (n.line == line) || b) (needed_among rest line)

pub few_needed : (i : ℕ) (needs : List Need) (lines : List ℕ) (k : Kept)
    → map (λ (need : Need). need.line) needs ≡ lines → MayHold i needs k → IsFew i lines k
few_needed i needs lines k those may =
    let sets = kept_footprint k i in
    let same = count_agree storage_lines (λ line. (sets.fetched line || sets.stored line) || is_needed needs line)
    (λ line. (sets.fetched line || sets.stored line) || list_any (λ other. other == line) lines)
    (λ line lt. ap (λ b. (sets.fetched line || sets.stored line) || b)
    (needed_among needs line ∙ ap (list_any (λ other. other == line)) those)) in
    record { few = omega (arith, same, may.few) }

-- a CPU that is ready is so after questions
pub ready_after : (asked more i : ℕ) (rest : Seat) (before w : Works) → IsSameSize before w
    → AskLeaves (length before.slots) asked i (kept_by rest before) (kept_by rest w)
    → IsReady (more + asked) i before (kept_by rest before) → IsReady more i w (kept_by rest w)
ready_after asked more i rest before w size leaves ready = record {
  asks = subst (λ n. MayAsk n i (kept_by rest w)) (sym size.cpus) (leaves.asks ready.asks);
  room = let same : length w.history + count_below (length w.slots) (is_live (kept_by rest w).state)
      ≡ length w.history + count_below (length before.slots) (is_live (kept_by rest w).state) =
      ap (λ n. length w.history + count_below n (is_live (kept_by rest w).state)) size.cpus in
      omega (arith, same, leaves.owed_no_more, ready.room, size.room);
  counts = leaves.counts more ready.counts;
}

pub ready_for_fewer : (fewer most i : ℕ) (w : Works) (k : Kept) → fewer ≤ most → IsReady most i w k
    → IsReady fewer i w k
ready_for_fewer fewer most i w k le ready = record {
  asks = ready.asks;
  room = ready.room;
  counts = record {
    attempts = ready.counts.attempts;
    completed = ready.counts.completed;
    asked = omega (arith, ready.counts.asked);
  };
}

-- ---- the only line

all_asked : (a : KAsked) (r : Option Reject) → a.reject ≡ r → a ≡ k_then_ask a k_all_given
all_asked a None e =
    ap (λ (r : Option Reject). record { kept = a.kept; reject = r }) e
    ∙ sym (ap (λ (r : Option Reject). k_unless_rejected r a.kept k_all_given) e)
all_asked a (Some reject) e =
    ap (λ (r : Option Reject). record { kept = a.kept; reject = r }) e
    ∙ sym (ap (λ (r : Option Reject). k_unless_rejected r a.kept k_all_given) e)

-- what asks for the only line asks for all that is needed
pub one_got : (m : Setting) (i : ℕ) (need : Need) (k after : Kept) (r : Option Reject)
    → ◌≡◌ {A = KAsked} (record { kept = after; reject = r }) (k_get_line m i (need ∷ []) need k)
    → ◌≡◌ {A = KAsked} (record { kept = after; reject = r }) (k_get_lines m i (need ∷ []) k)
unfolding k_get_each
one_got m i need k after r asked =
    all_asked (record { kept = after; reject = r }) r refl ∙ ap (λ (a : KAsked). k_then_ask a k_all_given) asked

-- ---- one line after the other

-- lines as needs, however they are needed
abbrev pub some_needs : List ℕ → List Need
some_needs lines = map (λ line. record { line = line; mode = Shared }) lines

drop_mapped : (f : ℕ → Need) (lines : List ℕ) (n : ℕ) → n < length lines
    → drop n (map f lines) ≡ f (get_or lines n 0) ∷ drop (n + 1) (map f lines)
drop_mapped f [] n lt = absurd (omega arith)
drop_mapped f (line ∷ rest) zero lt = refl
drop_mapped f (line ∷ rest) (suc n) lt =
    let next : suc n + 1 ≡ suc (n + 1) = omega arith in
    drop_mapped f rest n (omega arith)
    ∙ sym (ap (λ k. f (get_or rest n 0) ∷ drop k (map f (line ∷ rest))) next)

drop_all : (needs : List Need) (n : ℕ) → length needs ≤ n → drop n needs ≡ []
drop_all [] zero le = refl
drop_all [] (suc n) le = refl
drop_all (need ∷ rest) zero le = absurd (omega arith)
drop_all (need ∷ rest) (suc n) le = drop_all rest n (omega arith)

pub any_at : (lines : List ℕ) (n : ℕ) → n < length lines
    → list_any (λ other. other == get_or lines n 0) lines ≡ true
any_at [] n lt = absurd (omega arith)
any_at (line ∷ rest) zero lt = or_left (line == line) (list_any (λ other. other == line) rest)
    (eq-eqb line line refl)
any_at (line ∷ rest) (suc n) lt =
    or_right (line == get_or rest n 0) (list_any (λ other. other == get_or rest n 0) rest)
    (any_at rest n (omega arith))

pub record IsGetting (i : ℕ) (ranges : List Range) (before w : Works) (n : ℕ) : Type 0 where
  pub size : IsSameSize before w
  pub got : (rest : Seat) (m : Setting) → cpus_of m ≡ length before.slots
      → k_get_each m i (needs_of ranges) (drop n (needs_of ranges)) (kept_by rest w)
      ≡ k_get_lines m i (needs_of ranges) (kept_by rest before)
  pub leaves : (rest : Seat) → AskLeaves (length before.slots) (n * 16) i (kept_by rest before)
      (kept_by rest w)

-- a line more
module _ (i : ℕ) (ranges : List Range) (lines : List ℕ) (before w next : Works) (n : ℕ) (r : Option Reject)
    (these : map (need_at ranges) lines ≡ needs_of ranges) (lt : n < length lines)
    (g : IsGetting i ranges before w n) (same : IsSameSize w next)
    (leaves : (rest : Seat) → AskLeaves (length w.slots) 16 i (kept_by rest w) (kept_by rest next))
    (gets : (rest : Seat) (m : Setting) → cpus_of m ≡ length w.slots
    → asked_by rest next r ≡ k_get_line m i (needs_of ranges) (need_at ranges (get_or lines n 0))
    (kept_by rest w))
  where
    abbrev needs : List Need
    needs = needs_of ranges

    split : drop n needs ≡ need_at ranges (get_or lines n 0) ∷ drop (n + 1) needs
    split =
        ap (drop n) (sym these) ∙ drop_mapped (need_at ranges) lines n lt
        ∙ ap (λ l. need_at ranges (get_or lines n 0) ∷ drop (n + 1) l) these

    pub got_on : (rest : Seat) (m : Setting) → cpus_of m ≡ length before.slots
        → k_then_ask (asked_by rest next r) (k_get_each m i needs (drop (n + 1) needs))
        ≡ k_get_lines m i needs (kept_by rest before)
    unfolding k_get_each
    got_on rest m cpus =
        ap (λ q. k_then_ask q (k_get_each m i needs (drop (n + 1) needs)))
        (gets rest m (cpus ∙ sym g.size.cpus))
        ∙ sym (ap (λ l. k_get_each m i needs l (kept_by rest w)) split) ∙ g.got rest m cpus

    line_more : (rest : Seat)
        → AskLeaves (length before.slots) (n * 16 + 16) i (kept_by rest before) (kept_by rest next)
    line_more rest =
        leaves_then (length before.slots) (n * 16) 16 i (kept_by rest before) (kept_by rest w)
        (kept_by rest next)
        (g.leaves rest)
        (subst (λ cpus. AskLeaves cpus 16 i (kept_by rest w) (kept_by rest next)) g.size.cpus (leaves rest))

    pub getting_leaves : length lines ≤ 8 → (rest : Seat)
        → AskLeaves (length before.slots) 128 i (kept_by rest before) (kept_by rest next)
    getting_leaves few rest =
        leaves_at_most (length before.slots) (n * 16 + 16) 128 i (kept_by rest before) (kept_by rest next)
        (omega arith) (line_more rest)

    pub getting_goes_on : r ≡ None → IsGetting i ranges before next (n + 1)
    getting_goes_on none = record {
      size = sizes_then g.size same;
      got = λ rest m cpus.
          ap (λ r. k_then_ask (asked_by rest next r) (k_get_each m i needs (drop (n + 1) needs))) (sym none)
          ∙ got_on rest m cpus;
      leaves = λ rest. leaves_at_most (length before.slots) (n * 16 + 16) ((n + 1) * 16) i
          (kept_by rest before)
          (kept_by rest next) (omega arith) (line_more rest);
    }

pub get_refused : (m : Setting) (i : ℕ) (needs rest : List Need) (q : KAsked) (kept : Kept)
    (r : Option Reject)
    → is_some r ≡ true → k_then_ask (record { kept = kept; reject = r }) (k_get_each m i needs rest) ≡ q
    → ◌≡◌ {A = KAsked} (record { kept = kept; reject = r }) q
get_refused m i needs rest q kept None some e = absurd (let n : false ≡ true = some in cc)
get_refused m i needs rest q kept (Some r) some e = e

pub all_got : (i : ℕ) (ranges : List Range) (lines : List ℕ) (before w : Works) (n : ℕ)
    → map (need_at ranges) lines ≡ needs_of ranges → length lines ≤ n → IsGetting i ranges before w n
    → (rest : Seat) (m : Setting) → cpus_of m ≡ length before.slots
    → asked_by rest w None ≡ k_get_lines m i (needs_of ranges) (kept_by rest before)
unfolding k_get_each
all_got i ranges lines before w n these le g rest m cpus =
    let none : drop n (needs_of ranges) ≡ [] =
    ap (drop n) (sym these) ∙ drop_all (map (need_at ranges) lines) n (omega (
      arith,
      length-map lines
          (need_at ranges),
    )) in
    sym (ap (λ l. k_get_each m i (needs_of ranges) l (kept_by rest w)) none) ∙ g.got rest m cpus
