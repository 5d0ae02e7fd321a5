-- What the retry ladder leaves to a CPU, by what is kept of it, and what each thing that happens makes of
-- that.
use Rattle.std.proofs.Common.{◌≡◌, ℕ, zero, suc, ◌+◌, ◌<◌, ◌≤◌, Bool, true, false}
use Rattle.std.proofs.Common.{refl, sym, ap, ◌∙◌, subst, arith}
use Rattle.std.specs.Prelude.{if◌then◌else◌}
use Rattle.std.proofs.lemmas.Bool.{true≢false, lt-ltb, cases_lt}
use borrow.Enum.Arm.{by_way}
use Rattle.tx_ladder.specs.Parameters.{Parameters}
use Rattle.tx_ladder.specs.Rungs.{Standing, begun}
use Rattle.tx_meaning.specs.Limits.{Setting}
use Rattle.tx_meaning.specs.Stretches.{left_by, later_rungs, attempt_turns, bound}
use Rattle.tx_keeping.specs.Kept.{Kept}
use Rattle.tx_bounds.proofs.UnderWay.{lives, Rung, Stays, Waits, Joins, SameStanding}
use Rattle.tx_bounds.proofs.Potential.{left_below, left_at, left_first, left_executed, left_rejected}
use Rattle.tx_bounds.proofs.Potential.{left_delayed, left_climbed, left_joined, left_interrupted, later_next}

-- the requests that were rejected count for a live attempt alone
abbrev pub left_now : Parameters → ℕ → ℕ → Standing → ℕ
left_now parms completed delay st =
    left_by parms st.aborts delay completed (if lives completed then st.requests_rejected else 0)

abbrev pub left_of : Setting → ℕ → Kept → ℕ
left_of m c k =
    left_now m.image.parms (k.state.numbers c).completed (k.state.numbers c).delay (k.standings c)

module _ (parms : Parameters) where
  pub left_same : (n d n2 d2 : ℕ) (s t : Standing) → n2 ≡ n → d2 ≡ d → SameStanding s t
      → left_now parms n2 d2 t ≡ left_now parms n d s
  left_same n d n2 d2 s t same delay standing k =
      left_by parms (standing.aborts k) (delay k) (same k)
      (if lives (same k) then standing.refused k else 0)

  refused_by : (n r : ℕ) (b : Bool) → lives n ≡ b → b ≡ true → (if lives n then r else 0) ≡ r
  refused_by n r true e is = ap (λ b. if b then r else 0) e
  refused_by n r false e is = absurd (true≢false (sym is))

  pub live_left : (n d : ℕ) (st : Standing) → lives n ≡ true
      → left_now parms n d st ≡ left_by parms st.aborts d n st.requests_rejected
  live_left n d st live =
      ap (left_by parms st.aborts d n) (refused_by n st.requests_rejected (lives n) refl live)

  pub dead_left : (n d : ℕ) (st : Standing) → n ≡ 0 → left_now parms n d st ≡ left_by parms st.aborts d 0 0
  dead_left n d st none = ap (λ x. left_now parms x d st) none

  lives_on : (n : ℕ) → lives (n + 1) ≡ true
  lives_on n = lt-ltb 0 (n + 1) (omega arith)

  -- one instruction more
  pub left_more : (n d : ℕ) (st : Standing) → lives n ≡ true → n ≤ 33 → st.requests_rejected < parms.starve
      → left_now parms (n + 1) d st + 1 ≡ left_now parms n d st
  left_more n d st live few fewer =
      let before = live_left n d st live in
      let after = live_left (n + 1) d st (lives_on n) in
      let step = left_executed parms st.aborts d n st.requests_rejected few fewer in
      omega (arith, before, after, step)

  -- the first one
  pub left_started : (n d : ℕ) (b : Bool) (st : Standing) → n ≡ 0 → 0 < parms.starve
      → left_now parms 1 d (begun b st) + 1 ≡ left_now parms n d st
  left_started n d b st none some =
      let before = dead_left n d st none in
      let step : left_by parms st.aborts d 1 0 + 1 ≡ left_by parms st.aborts d 0 0 =
      left_executed parms st.aborts d 0 0 (omega arith) some in
      omega (arith, before, step)

  -- however many conflict aborts there have been, the first instruction leaves less than the bound
  less_behind : (a k : ℕ) → a + k < parms.stop → later_rungs parms (a + k) ≤ later_rungs parms a
  less_behind a zero less =
      subst (λ x. later_rungs parms x ≤ later_rungs parms a) (let e : a
      ≡ a + 0 = omega arith in e) (omega arith)
  less_behind a (suc k) less =
      let under : a + k < parms.stop = omega arith in
      let here : (a + k) + 1 < parms.stop = omega arith in
      let before = less_behind a k under in
      let next = later_next parms (a + k) here in
      let e : (a + k) + 1 ≡ a + suc k = omega arith in
      subst (λ x. later_rungs parms x ≤ later_rungs parms a) e (omega (arith, before, next))

  pub left_begun : (a d : ℕ) → d ≡ 0 → 0 < parms.stop → left_by parms a d 1 0 + 1 ≤ bound parms
  left_begun a d none some =
      subst (λ x. left_by parms a x 1 0 + 1 ≤ bound parms) (sym none)
      (let first = left_first parms some in
      let whole = left_below parms 0 0 1 0 some in
      by_way (cases_lt a parms.stop)
      (λ below.
      let e = left_below parms a 0 1 0 below in
      let less = less_behind 0 a (let x : 0 + a < parms.stop = omega arith in x) in
      let same : later_rungs parms (0 + a) ≡ later_rungs parms a =
      ap (later_rungs parms) (let x : 0 + a ≡ a = omega arith in x) in
      omega (arith, first, whole, e, less, same))
      (λ least.
      let e = left_at parms a 0 1 0 least in
      omega (arith, first, whole, e)))

  -- one request more was rejected
  pub left_refused : (n d : ℕ) (s t : Standing) → lives n ≡ true → n ≤ 33 → s.aborts < parms.stop
      → t.aborts ≡ s.aborts → t.requests_rejected ≡ s.requests_rejected + 1
      → s.requests_rejected < parms.starve
      → left_now parms n d t + 1 ≡ left_now parms n d s
  left_refused n d s t live few below aborts refused fewer =
      let before = live_left n d s live in
      let after : left_now parms n d t ≡ left_by parms s.aborts d n (s.requests_rejected + 1) =
      live_left n d t live ∙ (λ k. left_by parms (aborts k) d n (refused k)) in
      let step = left_rejected parms s.aborts d n s.requests_rejected below few fewer in
      omega (arith, before, after, step)

  -- one turn less is to be waited
  pub left_waited : (n d later : ℕ) (st : Standing) → st.aborts < parms.stop → d ≡ later + 1
      → left_now parms n later st + 1 ≡ left_now parms n d st
  left_waited n d later st below e =
      left_delayed parms st.aborts later n (if lives n then st.requests_rejected else 0) below
      ∙ ap (λ x. left_now parms n x st) (sym e)

  -- a conflict aborts the attempt
  pub climbed : (a after later n r : ℕ) → Rung parms a 0 after later → after ≡ a + 1 → a < parms.stop → n ≤ 33
      → r < parms.starve → left_by parms after later 0 0 + 2 ≤ left_by parms a 0 n r
  climbed a after later n r (Stays same e) up below few fewer = absurd (omega arith)
  climbed a after later n r (Waits off up e) rise below few fewer =
      let next : a + 1 < parms.stop = omega (arith, below, off) in
      subst (λ x. left_by parms x later 0 0 + 2 ≤ left_by parms a 0 n r) (sym up)
      (subst (λ x. left_by parms (a + 1) x 0 0 + 2 ≤ left_by parms a 0 n r) (sym e)
      (left_climbed parms a n r next few fewer))
  climbed a after later n r (Joins full up e) rise below few fewer =
      subst (λ x. left_by parms x later 0 0 + 2 ≤ left_by parms a 0 n r) (sym up)
      (subst (λ x. left_by parms (a + 1) x 0 0 + 2 ≤ left_by parms a 0 n r) (sym e)
      (left_joined parms a n r full few fewer))

  -- an interruption from outside does
  pub left_outside : (n d later : ℕ) (s t : Standing) → t.aborts ≡ s.aborts → later ≡ d → d ≡ 0
      → lives n ≡ true → n ≤ 33 → s.requests_rejected < parms.starve
      → left_now parms 0 later t + 1 ≤ left_now parms n d s + attempt_turns parms
  left_outside n d later s t same still none live few fewer =
      let here : left_now parms n d s ≡ left_by parms s.aborts 0 n s.requests_rejected =
      live_left n d s live ∙ ap (λ x. left_by parms s.aborts x n s.requests_rejected) none in
      let after : left_now parms 0 later t ≡ left_by parms s.aborts 0 0 0 =
      (λ k. left_by parms (same k) ((still ∙ none) k) 0 0) in
      let step = left_interrupted parms s.aborts n s.requests_rejected few fewer in
      omega (arith, here, after, step)
