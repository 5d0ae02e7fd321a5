-- One question after the other, by what each call says of what is kept.
use Rattle.std.proofs.Common.{◌≡◌, ◌≢◌, ℕ, ◌+◌, ◌<◌, ◌≤◌, Bool, true, false, List, [], length}
use Rattle.std.proofs.Common.{Option, Some, None, is_some, refl, sym, ap, subst, ◌∙◌, arith}
use Rattle.std.specs.Prelude.{if◌then◌else◌}
use Rattle.std.proofs.lemmas.Bool.{cases_eq, cases_lt}
use borrow.Enum.Arm.{by_way}
use Rattle.bit_set.specs.Counts.{one_if}
use Rattle.bit_set.proofs.Counts.{count_but_at}
use Rattle.line_table.specs.Holders.{holding, against, is_against}
use Rattle.tx_control.specs.declared.causes.Why.{Why}
use Rattle.tx_control.specs.declared.causes.Why.TheVariants.{FetchConflict, StoreConflict}
use Rattle.tx_ladder.specs.Rungs.{rejecting}
use Rattle.interrogate.specs.declared.kinds.Answer.{Answer}
use Rattle.interrogate.specs.declared.kinds.Answer.TheVariants.{Yields, Rejects, Aborts}
use Rattle.interrogate.specs.declared.kinds.Asker.{Asker}
use Rattle.interrogate.specs.Replies.{cause_at, reply}
use Rattle.tx_lines.specs.Owned.{holders_in}
use Rattle.tx_lines.specs.Next.{passing_from, stands_against, next_against}
use Rattle.tx_lines.proofs.Next.{all_against}
use Rattle.tx_meaning.specs.declared.asking.Need.{Need}
use Rattle.tx_meaning.specs.declared.asking.Reject.{Reject}
use Rattle.tx_meaning.specs.State.{Numbers, is_live, is_head}
use Rattle.tx_meaning.specs.Changes.{left_to}
use Rattle.tx_meaning.proofs.Walk.{live_asking, at_put_kept}
use Rattle.tx_keeping.specs.Kept.{Kept, kept_asker, kept_footprint}
use Rattle.tx_keeping.specs.Moves.{k_asking, k_rejecting, k_rejected, k_yielding, k_aborting}
use Rattle.tx_keeping.specs.Asking.{KAsked, k_reply, k_by_answer, k_ask_one, k_ask_each, k_then_ask}
use Rattle.tx_works.specs.Works.{Works, Seat, IsSameSize, kept_by}
use Rattle.tx_works.specs.Ready.{MayClimb, MayAsk, owed}
use Rattle.tx_works.specs.declared.asking.Refused.{Refused}
use Rattle.tx_works.specs.Asks.{AskLeaves, asked_by, rejected_in}
use Rattle.tx_works.proofs.Seats.{no_seat}
use Rattle.tx_works.proofs.Leaves.{IsConflict, aborts_conflict, one_leaves, one_held, one_head}
use Rattle.tx_works.proofs.Leaves.{leaves_none, leaves_then, leaves_at_most}
use Rattle.tx_works.proofs.Against.{IsFirst, first_passing, none_passing, same_passing, stands_parts}
use Rattle.tx_works.proofs.Against.{yielded_other, yielded_here, none_stands}

-- ---- one question

abbrev pub reply_in : ℕ → Need → Kept → Asker → Answer
reply_in j need k asker =
    reply (is_live k.state j) (kept_footprint k j).fetched (kept_footprint k j).stored (k.standings j)
    need.line
    need.mode asker

-- the question is counted before the answer
module _ (i j : ℕ) (need : Need) (k counted : Kept) (asker : Asker) (count : counted ≡ k_asking i k)
    (asks : asker ≡ kept_asker k i) where
  pub reply_is : (a : Answer) → a ≡ reply_in j need counted asker → k_reply k j need.line need.mode i ≡ a
  unfolding k_reply
  reply_is a e =
      sym (e ∙ ap (λ k. reply_in j need k asker) count ∙ ap (reply_in j need (k_asking i k)) asks
      ∙ ap (λ b. reply b (kept_footprint k j).fetched (kept_footprint k j).stored (k.standings j) need.line
      need.mode (kept_asker k i)) (live_asking i k.state j))

  one_is : (a : Answer) → a ≡ reply_in j need counted asker
      → k_by_answer i need j (k_asking i k) a ≡ k_ask_one i need j k
  unfolding k_ask_one
  one_is a e = ap (k_by_answer i need j (k_asking i k)) (sym (reply_is a e))

  pub yields_is : (answered left : Kept) → Yields ≡ reply_in j need counted asker → answered ≡ counted
      → left ≡ k_yielding j need.line need.mode answered
      → ◌≡◌ {A = KAsked} (record { kept = left; reject = None }) (k_ask_one i need j k)
  yields_is answered left e same yields =
      ap (λ k. record { kept = k; reject = None })
      (yields ∙ ap (k_yielding j need.line need.mode) (same ∙ count))
      ∙ one_is Yields e

  pub rejects_is : (answered left : Kept) → Rejects ≡ reply_in j need counted asker
      → answered ≡ k_rejecting j counted → left ≡ k_rejected i answered
      → ◌≡◌ {A = KAsked} (record { kept = left; reject = Some record { by = j; line = need.line } })
      (k_ask_one i need j k)
  rejects_is answered left e given taken =
      ap (λ k. record { kept = k; reject = Some record { by = j; line = need.line } })
      (taken ∙ ap (k_rejected i) (given ∙ ap (k_rejecting j) count))
      ∙ one_is Rejects e

  pub aborts_is : (answered ended left : Kept) (why : Why) (at : ℕ)
      → Aborts why ≡ reply_in j need counted asker → answered ≡ counted
      → at ≡ (answered.locals j).attempt.cpu.address → ended ≡ k_aborting j why at answered
      → left ≡ k_yielding j need.line need.mode ended
      → ◌≡◌ {A = KAsked} (record { kept = left; reject = None }) (k_ask_one i need j k)
  aborts_is answered ended left why at e same told ends yields =
      ap (λ k. record { kept = k; reject = None })
      (yields ∙ ap (k_yielding j need.line need.mode)
      (ends ∙ ap (λ at. k_aborting j why at answered) told
      ∙ ap (λ (a : Kept). k_aborting j why (a.locals j).attempt.cpu.address a) (same ∙ count)))
      ∙ one_is (Aborts why) e

  -- what holds of an answer that aborts
  pub conflict_is : (why : Why) → Aborts why ≡ reply_in j need counted asker → IsConflict k j need.line why
  conflict_is why e = aborts_conflict k i j need why (reply_is (Aborts why) e)

  pub still_live : (why : Why) → Aborts why ≡ reply_in j need counted asker → (answered : Kept)
      → answered ≡ counted → is_live answered.state j ≡ true
  still_live why e answered same =
      ap (λ (k : Kept). is_live k.state j) (same ∙ count) ∙ live_asking i k.state j ∙ (conflict_is why e).live

  pub still_climbs : (cpus : ℕ) → MayAsk cpus i k → j < cpus → j ≢ i → is_live k.state j ≡ true → (answered : Kept) → answered ≡ counted
      → MayClimb answered j
  still_climbs cpus may lt ne live answered same =
      let climbs = may.others j lt ne live in
      subst (λ k. MayClimb k j) (sym (same ∙ count)) record { below = climbs.below; out = climbs.out }

pub cause_case : (P : Why → Type 0) (stored : ℕ → Bool) (line : ℕ) → P (StoreConflict line)
    → P (FetchConflict line) → P (cause_at stored line)
cause_case P stored line s f = by_test (stored line)
  where
    by_test : (b : Bool) → P (if b then StoreConflict line else FetchConflict line)
    by_test true = s
    by_test false = f

-- there is room for the entry of a live attempt that ends
pub room_left : (w : Works) (k : Kept) (j : ℕ) → j < length w.slots → is_live k.state j ≡ true
    → owed w k ≤ w.room → length w.history < w.room
room_left w k j lt live most =
    let put = count_but_at (length w.slots) (is_live k.state) j false lt in
    let one : one_if (is_live k.state j) ≡ 1 = ap one_if live in
    omega arith

-- ---- one question after the other

-- sizes that stay, and stay again
pub sizes_then : {before w next : Works} → IsSameSize before w → IsSameSize w next → IsSameSize before next
sizes_then first same = record {
  cpus = same.cpus ∙ first.cpus;
  room = same.room ∙ first.room;
  events_room = same.events_room ∙ first.events_room;
}

abbrev pub test_in : Works → ℕ → Need → ℕ → Bool
test_in w i need = stands_against (holders_in w.lines) i need.line need.mode

abbrev pub all_asked : ℕ → Need → Works → Seat → KAsked
all_asked i need w rest =
    k_ask_each i need (against (length w.slots) (holders_in w.lines) i need.line need.mode) (kept_by rest w)

-- those below a number were asked, and stand against the request no longer
pub record IsAsking (i : ℕ) (need : Need) (before w : Works) (at : ℕ) : Type 0 where
  pub within : at ≤ length before.slots
  pub size : IsSameSize before w
  pub clear : (x : ℕ) → x < at → test_in w i need x ≡ false
  pub asked : (rest : Seat)
      → k_ask_each i need (passing_from (test_in w i need) (length before.slots) at) (kept_by rest w)
      ≡ all_asked i need before rest
  pub leaves : (rest : Seat) → AskLeaves (length before.slots) at i (kept_by rest before) (kept_by rest w)

pub asking_begins : (i : ℕ) (need : Need) (w : Works) → IsAsking i need w w 0
asking_begins i need w = record {
  within = omega arith;
  size = record { cpus = refl; room = refl; events_room = refl };
  clear = λ x lt. absurd (omega arith);
  asked = λ rest. ap (λ js. k_ask_each i need js (kept_by rest w))
      (all_against (length w.slots) (holders_in w.lines) i need.line need.mode);
  leaves = λ rest. leaves_none (length w.slots) i (kept_by rest w);
}

-- who is asked next
module _ (i : ℕ) (need : Need) (before w : Works) (at j : ℕ) (a : IsAsking i need before w at)
    (found : Some j ≡ next_against (length w.slots) (holders_in w.lines) i need.line need.mode at) where
  pub first_asked : IsFirst (test_in w i need) (length before.slots) at j
  first_asked =
      first_passing (test_in w i need) (length before.slots) at j a.within
      (found ∙ ap (λ n. next_against n (holders_in w.lines) i need.line need.mode at) a.size.cpus)

  pub asked_other : j ≢ i
  asked_other = (stands_parts (holders_in w.lines) i need.line need.mode j first_asked.passes).0

  pub asked_stands : is_against need.mode (holders_in w.lines j need.line) ≡ true
  asked_stands = (stands_parts (holders_in w.lines) i need.line need.mode j first_asked.passes).1

-- a question more
module _ (i : ℕ) (need : Need) (before w next : Works) (at j : ℕ) (r : Option Reject)
    (known : i < length before.slots)
    (a : IsAsking i need before w at) (found : Some j ≡ next_against (length w.slots) (holders_in w.lines)
    i need.line
    need.mode at) (same : IsSameSize w next)
    (asks : (rest : Seat) → asked_by rest next r ≡ k_ask_one i need j (kept_by rest w)) where
  abbrev first : IsFirst (test_in w i need) (length before.slots) at j
  first = first_asked i need before w at j a found

  apart : j ≢ i
  apart = asked_other i need before w at j a found

  one_more : (rest : Seat) → AskLeaves (length before.slots) (at + 1) i (kept_by rest before)
      (kept_by rest next)
  one_more rest =
      leaves_then (length before.slots) at 1 i (kept_by rest before) (kept_by rest w) (kept_by rest next)
      (a.leaves rest)
      (subst (λ (q : KAsked). AskLeaves (length before.slots) 1 i (kept_by rest w) q.kept) (sym (asks rest))
      (one_leaves (length before.slots) i j need (kept_by rest w) apart first.high))

  abbrev pub later : List ℕ
  later = passing_from (test_in w i need) (length before.slots) (j + 1)

  asked_first : (rest : Seat)
      → k_then_ask (k_ask_one i need j (kept_by rest w)) (k_ask_each i need later) ≡ all_asked i need
      before rest
  unfolding k_ask_each
  asked_first rest =
      sym (ap (λ js. k_ask_each i need js (kept_by rest w)) first.rest) ∙ a.asked rest

  pub asked_on : (rest : Seat) → k_then_ask (asked_by rest next r) (k_ask_each i need later)
      ≡ all_asked i need before rest
  asked_on rest = ap (λ q. k_then_ask q (k_ask_each i need later)) (asks rest) ∙ asked_first rest

  pub leaves_on : length before.slots ≤ 16 → (rest : Seat)
      → AskLeaves (length before.slots) 16 i (kept_by rest before) (kept_by rest next)
  leaves_on few rest =
      leaves_at_most (length before.slots) (at + 1) 16 i (kept_by rest before) (kept_by rest next)
      (omega (arith, first.low, first.high)) (one_more rest)

  pub head_on : (rest : Seat) → is_some r ≡ true → is_head (kept_by rest next).state i ≡ false
  head_on rest some =
      let e = asks rest in
      ap (λ (q : KAsked). is_head q.kept.state i) e
      ∙ one_head i j need (kept_by rest w) (sym (ap (λ (q : KAsked). is_some q.reject) e) ∙ some)

  held_on : r ≡ None → holders_in next.lines ≡ holding (holders_in w.lines) j need.line (left_to need.mode)
  held_on none =
      let rest = no_seat in
      let e = asks rest in
      ap (λ (q : KAsked). q.kept.state.held) e
      ∙ one_held i j need (kept_by rest w) (sym (ap (λ (q : KAsked). q.reject) e) ∙ none)

  test_on : r ≡ None → (x : ℕ)
      → test_in next i need x
      ≡ stands_against (holding (holders_in w.lines) j need.line (left_to need.mode)) i need.line need.mode x
  test_on none x = ap (λ h. stands_against h i need.line need.mode x) (held_on none)

  test_other : r ≡ None → (x : ℕ) → x ≢ j → test_in next i need x ≡ test_in w i need x
  test_other none x ne = test_on none x ∙ yielded_other (holders_in w.lines) i need.line need.mode j x ne

  pub asking_goes_on : r ≡ None → IsAsking i need before next (j + 1)
  asking_goes_on none = record {
    within = omega (arith, first.high);
    size = sizes_then a.size same;
    clear = λ x lt. by_way (cases_eq x j)
        (λ e. ap (test_in next i need) e ∙ test_on none j
        ∙ yielded_here (holders_in w.lines) i need.line need.mode j)
        (λ ne. test_other none x ne ∙ by_way (cases_lt x at) (λ less. a.clear x less)
        (λ more. first.before x more (omega arith)));
    asked = λ rest.
        ap (λ js. k_ask_each i need js (kept_by rest next))
        (same_passing (test_in next i need) (test_in w i need) (length before.slots) (j + 1)
        (λ x low. test_other none x (λ e. absurd (omega (arith, low, e)))))
        ∙ ap (λ r. k_then_ask (asked_by rest next r) (k_ask_each i need later)) (sym none) ∙ asked_on rest;
    leaves = λ rest. leaves_at_most (length before.slots) (at + 1) (j + 1) i (kept_by rest before)
        (kept_by rest next) (omega (arith, first.low)) (one_more rest);
  }

pub asked_some : (i : ℕ) (need : Need) (js : List ℕ) (q : KAsked) (kept : Kept) (r : Option Reject)
    → is_some r ≡ true → k_then_ask (record { kept = kept; reject = r }) (k_ask_each i need js) ≡ q
    → ◌≡◌ {A = KAsked} (record { kept = kept; reject = r }) q
asked_some i need js q kept None some e = absurd (let n : false ≡ true = some in cc)
asked_some i need js q kept (Some r) some e = e

-- nobody is left to be asked
module _ (i : ℕ) (need : Need) (before w : Works) (at : ℕ) (a : IsAsking i need before w at)
    (none : None ≡ next_against (length w.slots) (holders_in w.lines) i need.line need.mode at) where
  none_left : passing_from (test_in w i need) (length before.slots) at ≡ []
  none_left =
      none_passing (test_in w i need) (length before.slots) at
      (none ∙ ap (λ n. next_against n (holders_in w.lines) i need.line need.mode at) a.size.cpus)

  pub asked_none : (rest : Seat) → asked_by rest w None ≡ all_asked i need before rest
  unfolding k_ask_each
  asked_none rest = sym (ap (λ js. k_ask_each i need js (kept_by rest w)) none_left) ∙ a.asked rest

  pub nobody_left : against (length w.slots) (holders_in w.lines) i need.line need.mode ≡ []
  nobody_left =
      ap (λ n. against n (holders_in w.lines) i need.line need.mode) a.size.cpus
      ∙ none_stands (length before.slots) (holders_in w.lines) i need.line need.mode at a.within a.clear
      none_left

-- the holder's count says nothing of the asker's requests
pub fewer_rejected : (i j : ℕ) (k after : Kept) → after ≡ k_rejecting j k
    → (k.state.numbers i).rejected < (k.state.numbers i).asked
    → (after.state.numbers i).rejected < (after.state.numbers i).asked
fewer_rejected i j k after e less =
    let n = record (k.state.numbers j) { given = (rejecting (k.standings j)).rejects_given } in
    subst (λ (k : Kept). (k.state.numbers i).rejected < (k.state.numbers i).asked) (sym e)
    (omega (
      arith,
      less,
      at_put_kept (λ (n : Numbers). n.rejected) k.state.numbers j n refl i,
      at_put_kept (λ (n : Numbers). n.asked) k.state.numbers j n refl i,
    ))

pub some_rejected : (r : Option Refused) → is_some (rejected_in r) ≡ is_some r
some_rejected None = refl
some_rejected (Some r) = refl

pub none_rejected : (r : Option Refused) → is_some r ≡ false → rejected_in r ≡ None
none_rejected None off = refl
none_rejected (Some r) off = absurd (let n : true ≡ false = off in cc)
